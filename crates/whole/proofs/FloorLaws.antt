-- Laws of `floor_div` and `clamp`. The floor f of z / d is the only one with f d ≤ z < (f + 1) d. Assumes nothing.
use mathlib.Core.Path.{◌≡◌, refl, sym, ap}
use Prim.Native.Nat.{ℕ, suc, ◌+◌, ◌*◌, ◌≤◌, ◌<◌}
use native.Mathlib.Nat.{div-add-mod', mod-lt, mul-pos, mul-le-mul_left, mul-le-mul_right}
use native.Mathlib.Decide.{dec_le}
use native.Mathlib.Omega.{arith}
use lib.IntN.{ℤ, pos, negsuc, ◌+ℤ◌, ◌*ℤ◌}
use lib.Signed.{shr_z}
use Rattle.whole.specs.Parts.{up, down}
use Rattle.whole.specs.Floor.{floor_div}
use Rattle.whole.specs.Clamp.{clamp}
use Rattle.whole.proofs.Pairs.{anyₚ, ◌+ₚ◌, ◌*ₚ◌, eq-by, eq_of, differs, +ℤ-up}

pub floor-low : (z : ℤ) (d : ℕ) → 0 < d → up (floor_div z d) * d + down z ≤ up z + down (floor_div z d) * d
floor-low (pos n) d h = omega (arith, div-add-mod' n d)
floor-low (negsuc n) d h = omega (arith, div-add-mod' n d, mod-lt n h)

pub floor-high : (z : ℤ) (d : ℕ) → 0 < d → up z + down (floor_div z d) * d < down z + up (floor_div z d) * d + d
floor-high (pos n) d h = omega (arith, div-add-mod' n d, mod-lt n h)
floor-high (negsuc n) d h = omega (arith, div-add-mod' n d, mod-lt n h)

lt_of_mul : (a b d : ℕ) → a * d < b * d + d → a ≤ b
lt_of_mul a b d h = go (dec_le a b)
  where
    go : Dec (a ≤ b) → a ≤ b
    go (yes k) = k
    go (no k) = let l : suc b ≤ a = omega arith in absurd (let z : ⊥ = omega (arith, mul-le-mul_right d l) in z)

-- f is the floor of z / d if f d ≤ z < (f + 1) d, however it was worked out
pub floor-unique : (z f : ℤ) (d : ℕ) → 0 < d → up f * d + down z ≤ up z + down f * d → up z + down f * d < down z + up f * d + d → f ≡ floor_div z d
floor-unique z f d h l u =
    let g = floor_div z d in
    let a : up f + down g ≤ up g + down f = lt_of_mul _ _ d (omega (arith, floor-high z d h)) in
    let b : up g + down f ≤ up f + down g = lt_of_mul _ _ d (omega (arith, floor-low z d h)) in
    eq-by (anyₚ f) (anyₚ g) (omega arith)

-- k times the divisor, added, raises the floor by k
pub floor-lift : (x : ℤ) (k d : ℕ) → 0 < d → floor_div (x +ℤ pos (k * d)) d ≡ floor_div x d +ℤ pos k
floor-lift x k d h =
    let f = floor_div x d in
    let e = ap (λ n. n * d) (+ℤ-up f (pos k)) in
    sym (floor-unique (x +ℤ pos (k * d)) (f +ℤ pos k) d h (omega (arith, e, +ℤ-up x (pos (k * d)), floor-low x d h)) (omega (arith, e, +ℤ-up x (pos (k * d)), floor-high x d h)))

-- and any whole multiple of the divisor comes out
pub floor-out : (y x : ℤ) (d : ℕ) → 0 < d → floor_div (pos d *ℤ y +ℤ x) d ≡ y +ℤ floor_div x d
floor-out y x d h =
    let z = pos d *ℤ y +ℤ x in
    let f = floor_div x d in
    let e = ap (λ n. n * d) (+ℤ-up y f) in
    let s = differs (d *ₚ anyₚ y +ₚ anyₚ x) in
    sym (floor-unique z (y +ℤ f) d h (omega (arith, e, s, floor-low x d h)) (omega (arith, e, s, floor-high x d h)))

-- a factor of both leaves it
pub floor-times : (k : ℕ) (x : ℤ) (d : ℕ) → 0 < k → 0 < d → floor_div (pos k *ℤ x) (k * d) ≡ floor_div x d
floor-times k x d hk hd =
    let p = eq_of (anyₚ (pos k *ℤ x)) (k *ₚ anyₚ x) refl in
    sym (floor-unique (pos k *ℤ x) (floor_div x d) (k * d) (mul-pos hk hd) (omega (arith, p, mul-le-mul_left k (floor-low x d hd))) (omega (arith, p, mul-le-mul_left k (floor-high x d hd))))

-- the shift that copies the sign bit, `x >> k`, rounds down
pub shr-floor : (z : ℤ) (d : ℕ) → shr_z z d ≡ floor_div z d
shr-floor (pos n) d = refl
shr-floor (negsuc n) d = refl

pub clamp-le : (x : ℤ) → clamp x ≤ 65520
clamp-le (pos n) = omega arith
clamp-le (negsuc n) = omega arith
