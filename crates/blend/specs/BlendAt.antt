-- Green by logistic blend over a continued mosaic, in whole numbers and exact. Assumes nothing.
use Rattle.std.specs.Prelude.{ℕ, ◌*◌, cond, ℤ, pos, ◌+ℤ◌, ◌-ℤ◌}
use Rattle.whole.specs.Fraction.{Fraction, natural}
use Rattle.bayer.specs.Mosaic.{Mosaic, is_green}
use Rattle.blend.specs.declared.axis.Axis.{Axis}
use Rattle.blend.specs.Exponential.{Exponential}
use Rattle.blend.specs.Blend.{axis, blend}
use Rattle.blend.specs.Exact.{exact_blend}

-- at position k of a line of readings
abbrev pub axis_along : (x : ℤ → ℕ) → ℤ → Axis
axis_along x k = axis (x k) (x (k -ℤ pos 1)) (x (k +ℤ pos 1)) (x (k -ℤ pos 2)) (x (k +ℤ pos 2))

abbrev pub row : Mosaic → (i j : ℤ) → Axis
row m i j = axis_along (λ k. m.reading i k) j

abbrev pub column : Mosaic → (i j : ℤ) → Axis
column m i j = axis_along (λ k. m.reading k j) i

-- green in units
unfoldable pub blend_at : Mosaic → (i j : ℤ) → ℕ
blend_at m i j = cond (is_green m i j) (16 * m.reading i j) (blend (row m i j) (column m i j))

unfoldable pub exact_blend_at : Exponential → Mosaic → (i j : ℤ) → Fraction
exact_blend_at e m i j = cond (is_green m i j) (natural (16 * m.reading i j)) (exact_blend e (row m i j) (column m i j))
