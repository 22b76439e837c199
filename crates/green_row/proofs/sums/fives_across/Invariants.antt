-- The five-sums so far. Assumes nothing.
use Rattle.std.proofs.Common.{◌≡◌, ◌<◌, ◌*◌, ℕ, pos, get_or}
use Rattle.gbtf.specs.Direction.{alternating, five_sum}
use Rattle.green_row.specs.Directions.{across}
use Rattle.green_row.proofs.sums.fives_across.Given as goal

abbrev pub invariant-loop-k : goal.invariant-loop-k
invariant-loop-k l = (j : ℕ) → j < l.k → get_or l.out j (pos 0) ≡ five_sum l.weights (alternating (across l.a l.b l.c l.d l.e (2 * j)))
