-- The differences so far. Assumes nothing.
use Rattle.std.proofs.Common.{◌≡◌, ◌<◌, ℕ, pos, get_or}
use Rattle.green_row.specs.AlongAxis.{difference_in}
use Rattle.green_row.proofs.along.differences.Given as goal

abbrev pub invariant-loop-k : goal.invariant-loop-k
invariant-loop-k l = (j : ℕ) → j < l.k → get_or l.out j (pos 0) ≡ difference_in l.step l.x j
