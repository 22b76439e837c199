-- The error that a weight brings into a weighted sum: a weight within 1/2 of the true one, and two whole numbers within D of each other, leave the sum within D/2. Assumes nothing.
use mathlib.Core.Path.{◌≡◌, ap}
use Prim.Native.Nat.{ℕ, ◌+◌, ◌*◌, ◌-◌, ◌≤◌}
use native.Mathlib.Nat.{mul-le-mul_left, mul-le-mul_right}
use native.Mathlib.Decide.{dec_le}
use native.Mathlib.Omega.{arith}
use lib.IntN.{ℤ, pos, nat_abs, ◌+ℤ◌, ◌-ℤ◌, ◌*ℤ◌}
use Rattle.whole.specs.Parts.{up, down}
use Rattle.whole.specs.Fraction.{Fraction, integer, natural, ◌+ᶠ◌, ◌-ᶠ◌, ◌*ᶠ◌, Within}
use Rattle.whole.proofs.Pairs.{anyₚ, ◌+ₚ◌, ◌*ₚ◌, differs, -ℤ-up}
use Rattle.whole.proofs.Magnitudes.{up_le, down_le}
use Rattle.whole.proofs.FractionLaws.{within-to}

-- (s − t) × (e − f) is at most u/2 × D
product-up : (s t f g u D : ℕ) → 2 * s ≤ 2 * t + u → g ≤ D → 2 * (s * (f + g) + t * f) ≤ 2 * (s * f + t * (f + g)) + u * D
product-up s t f g u D h k = omega (arith, mul-le-mul_right g h, mul-le-mul_left u k)

product : (s t e f u D : ℕ) → 2 * s ≤ 2 * t + u → 2 * t ≤ 2 * s + u → e ≤ f + D → f ≤ e + D → 2 * (s * e + t * f) ≤ 2 * (s * f + t * e) + u * D
product s t e f u D h k l m = elim (dec_le f e) [
  | yes i ↦ let a : e ≡ f + (e - f) = omega arith in rw a (product-up s t f (e - f) u D h (omega arith))
  | no i ↦ let a : f ≡ e + (f - e) = omega arith in rw a (omega (arith, product-up t s e (f - e) u D k (omega arith)))
]

-- the weights w and v, the whole numbers a − b and c − d, the true weight (p − m)/u, the weighted sum Z⁺ − Z⁻
side : (w v a b c d p m u D Z⁺ Z⁻ : ℕ) → w + v ≡ 65536 → w * a + v * c + Z⁻ ≡ Z⁺ + (w * b + v * d)
    → 2 * (w * u + m) ≤ 2 * p + u → 2 * p ≤ 2 * (w * u + m) + u → a + d ≤ b + c + D → b + c ≤ a + d + D
    → 2 * (Z⁺ * u + (p * b + m * a + ((65536 * u + m) * d + p * c))) ≤ 2 * (p * a + m * b + ((65536 * u + m) * c + p * d) + Z⁻ * u) + D * u
side w v a b c d p m u D Z⁺ Z⁻ e f h k l n =
    omega (arith, ap (λ (x : ℕ). x * (u * c)) e, ap (λ (x : ℕ). x * (u * d)) e, ap (λ (x : ℕ). x * u) f, product (w * u + m) p (a + d) (b + c) u D h k l n)

-- the exact sum over one denominator
one-under : (a b c d p m u : ℕ) →
    let x⁺ = p * a + m * b in let x⁻ = p * b + m * a in
    let y⁺ = (65536 * u + m * 1) * c + (0 * u + p * 1) * d in let y⁻ = (65536 * u + m * 1) * d + (0 * u + p * 1) * c in
    (p * a + m * b + ((65536 * u + m) * c + p * d)) * (u * 1 * (1 * u * 1)) + (x⁻ * (1 * u * 1) + y⁻ * (u * 1)) * u
    ≡ (x⁺ * (1 * u * 1) + y⁺ * (u * 1)) * u + (p * b + m * a + ((65536 * u + m) * d + p * c)) * (u * 1 * (1 * u * 1))
one-under a b c d p m u = omega arith

module _ (w : ℕ) (W : Fraction) (x y : ℤ) (D : ℕ) (h : w ≤ 65536) (near : Within (natural w) W 1 2) (close : nat_abs (x -ℤ y) ≤ D) where
  abbrev Z : ℤ
  Z = pos w *ℤ x +ℤ pos (65536 - w) *ℤ y

  abbrev simple : Fraction
  simple = record {
    plus = W.plus * up x + W.minus * down x + ((65536 * W.under + W.minus) * up y + W.plus * down y);
    minus = W.plus * down x + W.minus * up x + ((65536 * W.under + W.minus) * down y + W.plus * up y);
    under = W.under;
    proper = W.proper;
  }

  sum_is : w * up x + (65536 - w) * up y + down Z ≡ up Z + (w * down x + (65536 - w) * down y)
  sum_is = differs (w *ₚ anyₚ x +ₚ (65536 - w) *ₚ anyₚ y)

  ups : up x + down y ≤ down x + up y + D
  ups = omega (arith, -ℤ-up x y, up_le (x -ℤ y) D close)

  downs : down x + up y ≤ up x + down y + D
  downs = omega (arith, -ℤ-up x y, down_le (x -ℤ y) D close)

  simple-near : Within (integer Z) simple D 2
  simple-near =
      let l : 2 * (w * W.under + W.minus) ≤ 2 * W.plus + W.under = omega (arith, near.low) in
      let g : 2 * W.plus ≤ 2 * (w * W.under + W.minus) + W.under = omega (arith, near.high) in
      let v = 65536 - w in
      let e : w + (65536 - w) ≡ 65536 = omega arith in
      record {
        low = omega (arith, side w v (up x) (down x) (up y) (down y) W.plus W.minus W.under D (up Z) (down Z) e sum_is l g ups downs);
        high = omega (arith, side w v (down x) (up x) (down y) (up y) W.plus W.minus W.under D (down Z) (up Z) e (omega (arith, sum_is)) l g downs ups);
      }

  pub weighted-near : Within (integer Z) (W *ᶠ integer x +ᶠ (natural 65536 -ᶠ W) *ᶠ integer y) D 2
  weighted-near = within-to simple _ simple-near (one-under (up x) (down x) (up y) (down y) W.plus W.minus W.under)
