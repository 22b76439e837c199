-- Bounds on the numbers of a pixel whose readings are at most 4095. Assumes nothing.
use Prim.Native.Nat.{ℕ, ◌≤◌}
use native.Mathlib.Omega.{arith}
use lib.IntN.{nat_abs, ◌-ℤ◌}
use Rattle.whole.proofs.Pairs.{Pair, natₚ, ◌+ₚ◌, ◌-ₚ◌, ◌*ₚ◌, abs-by}
use Rattle.blend.specs.declared.axis.Axis.{Axis}
use Rattle.blend.specs.Blend.{axis, step}

abbrev estimateₚ : (c l r p q : ℕ) → Pair (axis c l r p q).estimate
unfolding axis
estimateₚ c l r p q = 2 *ₚ (natₚ l +ₚ natₚ r) +ₚ 2 *ₚ natₚ c -ₚ natₚ p -ₚ natₚ q

module _ (c l r p q : ℕ) (hc : c ≤ 4095) (hl : l ≤ 4095) (hr : r ≤ 4095) (hp : p ≤ 4095) (hq : q ≤ 4095) where
  -- three times 4095
  pub variation-most : (axis c l r p q).variation ≤ 12285
  unfolding axis
  variation-most = omega (arith, abs-by (natₚ l -ₚ natₚ r), abs-by (2 *ₚ natₚ c -ₚ natₚ p -ₚ natₚ q))

  -- six times; it is from −8190 to 24570
  pub estimate-most : nat_abs (axis c l r p q).estimate ≤ 24570
  unfolding axis
  estimate-most = omega (arith, abs-by (estimateₚ c l r p q))

-- two estimates with one centre, whose share 2c cancels
pub estimates-near : (c l r p q l' r' p' q' : ℕ) → l ≤ 4095 → r ≤ 4095 → p ≤ 4095 → q ≤ 4095 → l' ≤ 4095 → r' ≤ 4095 → p' ≤ 4095 → q' ≤ 4095
    → nat_abs ((axis c l r p q).estimate -ℤ (axis c l' r' p' q').estimate) ≤ 24570
unfolding axis
estimates-near c l r p q l' r' p' q' hl hr hp hq kl kr kp kq = omega (arith, abs-by (estimateₚ c l r p q -ₚ estimateₚ c l' r' p' q'))

-- k
pub step-most : (more less : Axis) → more.variation ≤ 12285 → step more less ≤ 767
step-most more less h = omega arith
