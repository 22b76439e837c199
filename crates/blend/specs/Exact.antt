-- The exact blend at a red or blue pixel (A.8): the true logistic at the same k, clamped and not rounded. Assumes nothing.
use Rattle.std.proofs.Common.{lit<}
use Rattle.whole.specs.Fraction.{Fraction, integer, natural, ◌+ᶠ◌, ◌-ᶠ◌, ◌*ᶠ◌, divided_by, clampᶠ}
use Rattle.blend.specs.declared.axis.Axis.{Axis}
use Rattle.blend.specs.Exponential.{Exponential, exact_weight}
use Rattle.blend.specs.Blend.{step, by_variation}

abbrev pub exact_weighted : (w : Fraction) (more less : Axis) → Fraction
exact_weighted w more less = w *ᶠ integer more.estimate +ᶠ (natural 65536 -ᶠ w) *ᶠ integer less.estimate

module _ (e : Exponential) where
  unfoldable pub unrounded : (more less : Axis) → Fraction
  unrounded more less = divided_by (exact_weighted (exact_weight e (step more less)) more less) 16384 (lit< tt)

  unfoldable pub exact_blend : (row column : Axis) → Fraction
  exact_blend row column = clampᶠ (by_variation unrounded row column)
