-- The error of a blend against the exact blend: at most 1/2 + D/32768 where the two estimates are within D of each other. Assumes nothing.
use mathlib.Core.Path.{refl}
use mathlib.Core.Bool.{Bool, true, false, cond}
use Prim.Native.Nat.{ℕ, ◌+◌, ◌*◌, ◌≤◌}
use native.Mathlib.Nat.{le_trans}
use native.Mathlib.Omega.{arith}
use lib.Dec.{ltb, lit≤, lit<}
use lib.IntN.{ℤ, nat_abs, ◌-ℤ◌}
use Rattle.whole.specs.Clamp.{clamp}
use Rattle.whole.specs.Fraction.{Fraction, ratio, integer, natural, divided_by, clampᶠ, Within}
use Rattle.whole.proofs.Pairs.{anyₚ, ◌-ₚ◌, abs-by}
use Rattle.whole.proofs.FractionLaws.{within-trans, within-part, within-clamp, within_wider, within-from, within-to, clamp-is, rounded-near}
use Rattle.blend.specs.declared.axis.Axis.{Axis}
use Rattle.blend.specs.Logistic.{weight_at}
use Rattle.blend.specs.Exponential.{Exponential, exact_weight}
use Rattle.blend.specs.Blend.{step, weighted, rounded, by_variation, unclamped_blend, blend}
use Rattle.blend.specs.Exact.{unrounded, exact_blend}
use Rattle.blend.proofs.LogisticLaws.{weight-small}
use Rattle.blend.proofs.TableRight.{weight-near}
use Rattle.blend.proofs.WeightedError.{weighted-near}

module _ (e : Exponential) (D : ℕ) where
  rounded-within : (more less : Axis) → nat_abs (more.estimate -ℤ less.estimate) ≤ D → Within (integer (rounded more less)) (unrounded e more less) (16384 + D) 32768
  unfolding rounded unrounded
  rounded-within more less h =
      within-trans
      (within-to (ratio Z 16384 (lit< tt)) (divided_by (integer Z) 16384 (lit< tt)) (within_wider 16384 32768 (lit< tt) (lit≤ tt) (rounded-near Z 8192 (lit< tt))) refl)
      (within-part 16384 (lit< tt) (within_wider (16384 * D) 32768 (lit< tt) (omega arith) (weighted-near w (exact_weight e k) more.estimate less.estimate D (le_trans (weight-small k) (lit≤ tt)) (weight-near e k) h)))
    where
      k : ℕ
      k = step more less

      w : ℕ
      w = weight_at (step more less)

      Z : ℤ
      Z = weighted (weight_at (step more less)) more less

  within-either : (b : Bool) (x y : ℤ) {X Y : Fraction} {a c : ℕ} → Within (integer x) X a c → Within (integer y) Y a c → Within (integer (cond b x y)) (cond b X Y) a c
  within-either true x y h k = h
  within-either false x y h k = k

  pub blend-within : (row column : Axis) → nat_abs (row.estimate -ℤ column.estimate) ≤ D → Within (natural (blend row column)) (exact_blend e row column) (16384 + D) 32768
  unfolding blend unclamped_blend exact_blend
  blend-within row column h =
      within-from (natural (clamp z)) (clampᶠ (integer z)) (clamp-is z)
      (within-clamp (within-either (ltb column.variation row.variation) (rounded row column) (rounded column row) (rounded-within row column h) (rounded-within column row turned)))
    where
      z : ℤ
      z = by_variation rounded row column

      turned : nat_abs (column.estimate -ℤ row.estimate) ≤ D
      turned = omega (arith, abs-by (anyₚ row.estimate -ₚ anyₚ column.estimate), abs-by (anyₚ column.estimate -ₚ anyₚ row.estimate))
