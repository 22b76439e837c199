-- The direction sums so far. Assumes nothing.
use Rattle.std.proofs.Common.{◌≡◌, ◌<◌, ◌+◌, ◌*◌, ℕ, get_or}
use Rattle.gbtf.specs.Direction.{direction_sum}
use Rattle.green_row.specs.Directions.{window_in}
use Rattle.green_row.proofs.sums.sums.Given as goal

abbrev pub invariant-loop-k : goal.invariant-loop-k
invariant-loop-k l = (j : ℕ) → j < l.k → get_or l.out j 0 ≡ direction_sum (window_in l.s l.g (l.at + 2 * j))
