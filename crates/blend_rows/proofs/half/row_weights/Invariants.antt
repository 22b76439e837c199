-- The pixels so far. Assumes nothing.
use Rattle.std.proofs.Common.{◌≡◌, ◌<◌, ℕ, get_or}
use Rattle.blend.specs.Logistic.{weight_at}
use Rattle.blend_rows.proofs.half.row_weights.Given as goal

abbrev pub invariant-loop-k : goal.invariant-loop-k
invariant-loop-k l = (j : ℕ) → j < l.k → get_or l.out j 0 ≡ weight_at (get_or l.places j 0)
