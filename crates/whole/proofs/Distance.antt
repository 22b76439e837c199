-- What fractions and their distance mean: a quotient of whole numbers; |x − y| ≤ k/100, in ℤ and with nothing rounded. Assumes nothing.
use mathlib.Core.Path.{◌≡◌, ap}
use mathlib.Core.Logic.{◌↔◌}
use Prim.Native.Nat.{ℕ, ◌+◌, ◌*◌, ◌≤◌, ◌<◌}
use native.Mathlib.Omega.{arith}
use lib.IntN.{ℤ, pos, negsuc, nat_abs, sub_ℕ, ◌-ℤ◌, ◌*ℤ◌}
use Rattle.whole.specs.Parts.{up, down}
use Rattle.whole.specs.Fraction.{Fraction, ratio, Within, Same}
use Rattle.whole.proofs.Pairs.{subₚ, differs, up-times, down-times, -ℤ-up}

-- every fraction is a quotient of a whole number by a natural above 0
pub is-quotient : (x : Fraction) → Same x (ratio (sub_ℕ x.plus x.minus) x.under x.proper)
is-quotient x = let e : x.plus + down z ≡ up z + x.minus = differs (subₚ x.plus x.minus) in omega (arith, ap (λ n. n * x.under) e)
  where
    z : ℤ
    z = sub_ℕ x.plus x.minus

-- | z/d − y/e | ≤ k/100, multiplied by 100 d e
pub within-ℤ : (z y : ℤ) (d e : ℕ) (hd : 0 < d) (he : 0 < e) (k : ℕ) → Within (ratio z d hd) (ratio y e he) k 100 ↔ 100 * nat_abs (pos e *ℤ z -ℤ pos d *ℤ y) ≤ k * (d * e)
within-ℤ z y d e hd he k = (there, back)
  where
    D : ℤ
    D = pos e *ℤ z -ℤ pos d *ℤ y

    is : up D + (down z * e + up y * d) ≡ down D + (up z * e + down y * d)
    is = omega (arith, -ℤ-up (pos e *ℤ z) (pos d *ℤ y), up-times e z, down-times e z, up-times d y, down-times d y)

    abs : (w : ℤ) (A B : ℕ) → up w + A ≡ down w + B → (100 * B ≤ 100 * A + k * (d * e)) → (100 * A ≤ 100 * B + k * (d * e)) → 100 * nat_abs w ≤ k * (d * e)
    abs (pos n) A B i h1 h2 = omega arith
    abs (negsuc n) A B i h1 h2 = omega arith

    low : (w : ℤ) (A B : ℕ) → up w + A ≡ down w + B → 100 * nat_abs w ≤ k * (d * e) → (100 * B ≤ 100 * A + k * (d * e)) × (100 * A ≤ 100 * B + k * (d * e))
    low (pos n) A B i h = (omega arith, omega arith)
    low (negsuc n) A B i h = (omega arith, omega arith)

    there : Within (ratio z d hd) (ratio y e he) k 100 → 100 * nat_abs D ≤ k * (d * e)
    there h = abs D (down z * e + up y * d) (up z * e + down y * d) is (omega (arith, h.low)) (omega (arith, h.high))

    back : 100 * nat_abs D ≤ k * (d * e) → Within (ratio z d hd) (ratio y e he) k 100
    back h = let r = low D (down z * e + up y * d) (up z * e + down y * d) is h in record { low = omega (arith, r.0); high = omega (arith, r.1) }
