-- The pixels so far. Assumes nothing.
use Rattle.std.proofs.Common.{◌≡◌, ◌<◌, ℕ, pos, get_or}
use Rattle.blend_rows.specs.Stencil.{axis_at}
use Rattle.blend_rows.proofs.stencil.Stencil.estimates.Given as goal

abbrev pub invariant-loop-k : goal.invariant-loop-k
invariant-loop-k l = (j : ℕ) → j < l.k → get_or l.out j (pos 0) ≡ (axis_at l.self j).estimate
