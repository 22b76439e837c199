-- The sign of a difference goes by its centre; a gradient does not depend on it. Assumes nothing.
use mathlib.Core.Bool.{Bool, true, false}
use mathlib.Core.Path.{◌≡◌, refl, ◌∙◌, ap}
use Prim.Native.Nat.{ℕ}
use native.Mathlib.Omega.{arith}
use lib.IntN.{ℤ, nat_abs, ◌-ℤ◌}
use Rattle.whole.proofs.Pairs.{anyₚ, negₚ, ◌-ₚ◌, eq-by}
use Rattle.whole.proofs.Magnitudes.{abs_neg}
use Rattle.gbtf.specs.Difference.{difference, plain_gradient, turned}
use Rattle.gbtf.proofs.PixelBounds.{differenceₚ}

pub difference-turned : (green : Bool) (c l r p q : ℕ) → turned green (difference false c l r p q) ≡ difference green c l r p q
unfolding difference
difference-turned false c l r p q = refl
difference-turned true c l r p q = eq-by (negₚ (differenceₚ false c l r p q)) (differenceₚ true c l r p q) (omega arith)

pub plain-turned : (green : Bool) (a b : ℤ) → plain_gradient (turned green a) (turned green b) ≡ plain_gradient a b
plain-turned false a b = refl
plain-turned true a b = ap nat_abs (eq-by (negₚ (anyₚ a) -ₚ negₚ (anyₚ b)) (negₚ (anyₚ a -ₚ anyₚ b)) (omega arith)) ∙ abs_neg (a -ℤ b)

pub abs-turned : (green : Bool) (z : ℤ) → nat_abs (turned green z) ≡ nat_abs z
abs-turned false z = refl
abs-turned true z = abs_neg z
