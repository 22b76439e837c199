-- The gradients so far. Assumes nothing.
use Rattle.std.proofs.Common.{◌≡◌, ◌<◌, ℕ, get_or}
use Rattle.green_row.specs.AlongAxis.{gradient_in}
use Rattle.green_row.proofs.along.gradients.Given as goal

abbrev pub invariant-loop-k : goal.invariant-loop-k
invariant-loop-k l = (j : ℕ) → j < l.k → get_or l.out j 0 ≡ gradient_in l.step l.d j
