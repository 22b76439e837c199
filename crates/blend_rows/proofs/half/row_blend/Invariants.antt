-- The pixels so far. Assumes nothing.
use Rattle.std.proofs.Common.{◌≡◌, ◌<◌, ℕ, get_or}
use Rattle.blend.specs.Blend.{blend}
use Rattle.blend_rows.specs.BlendIn.{axis_of}
use Rattle.blend_rows.proofs.half.row_blend.Given as goal

abbrev pub invariant-loop-k : goal.invariant-loop-k
invariant-loop-k l = (j : ℕ) → j < l.k → get_or l.out j 0 ≡ blend (axis_of l.row.variations.now l.row.estimates.now j) (axis_of l.column.variations.now l.column.estimates.now j)
