-- The lists around pixels, as the code hands them on together. Assumes nothing.
use Rattle.std.specs.Prelude.{ℕ}
use Rattle.blend.specs.declared.axis.Axis.{Axis}
use Rattle.blend_rows.specs.declared.stencil.Stencil.{Stencil}
use Rattle.blend_rows.specs.BlendIn.{Lines, axis_from}

-- pixel k's axis
abbrev pub axis_at : (s : Stencil) (k : ℕ) → Axis
axis_at s k = axis_from s.centre.now s.before.now s.after.now s.second_before.now s.second_after.now k

-- they hold readings, of n pixels at least
abbrev pub LinesOf : (n : ℕ) (s : Stencil) → Type 0
LinesOf n s = Lines n s.centre.now s.before.now s.after.now s.second_before.now s.second_after.now
