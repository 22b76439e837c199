-- Magnitudes: bounds in the naturals for a sum, a difference, a product, a quotient, and what they say of a signed type's range.
-- Assumes nothing.
use mathlib.Core.Path.{◌≡◌, refl, subst}
use Prim.Native.Nat.{ℕ, zero, suc, ◌+◌, ◌*◌, ◌^◌, ◌<◌, ◌≤◌}
use native.Mathlib.Nat.{le_trans, lt_of_le_of_lt, le_refl, le_of_eq, mul-le-mul}
use native.Mathlib.Omega.{arith}
use lib.IntN.{ℤ, pos, negsuc, neg_ℤ, sub_ℕ, nat_abs, ◌+ℤ◌, ◌-ℤ◌, ◌*ℤ◌}
use lib.Signed.{mag}
use mir.Syntax.{Width}
use mir.Val.{SFits, hbits}
use Rattle.whole.specs.Parts.{up, down}
use Rattle.whole.proofs.Pairs.{sub-ind}

abs-sub : (a b : ℕ) → nat_abs (sub_ℕ a b) ≤ a + b
abs-sub a b = sub-ind (λ z. nat_abs z ≤ a + b) a b (λ h. omega arith) (λ h. omega arith)

pub abs-add : (x y : ℤ) → nat_abs (x +ℤ y) ≤ nat_abs x + nat_abs y
abs-add (pos a) (pos b) = omega arith
abs-add (pos a) (negsuc b) = abs-sub a (suc b)
abs-add (negsuc a) (pos b) = omega (arith, abs-sub b (suc a))
abs-add (negsuc a) (negsuc b) = omega arith

pub abs_neg : (x : ℤ) → nat_abs (neg_ℤ x) ≡ nat_abs x
abs_neg (pos zero) = refl
abs_neg (pos (suc n)) = refl
abs_neg (negsuc n) = refl

pub abs-minus : (x y : ℤ) → nat_abs (x -ℤ y) ≤ nat_abs x + nat_abs y
abs-minus x y = subst (λ (k : ℕ). nat_abs (x -ℤ y) ≤ nat_abs x + k) (abs_neg y) (abs-add x (neg_ℤ y))

pub abs-mul : (x y : ℤ) → nat_abs (x *ℤ y) ≡ nat_abs x * nat_abs y
abs-mul (pos a) (pos b) = refl
abs-mul (pos a) (negsuc b) = abs_neg (pos (a * suc b))
abs-mul (negsuc a) (pos b) = abs_neg (pos (suc a * b))
abs-mul (negsuc a) (negsuc b) = refl

-- within bounds
pub add-within : (x y : ℤ) {m k : ℕ} → nat_abs x ≤ m → nat_abs y ≤ k → nat_abs (x +ℤ y) ≤ m + k
add-within x y h k = omega (arith, abs-add x y)

pub sub_within : (x y : ℤ) {m k : ℕ} → nat_abs x ≤ m → nat_abs y ≤ k → nat_abs (x -ℤ y) ≤ m + k
sub_within x y h k = omega (arith, abs-minus x y)

pub mul-within : (x y : ℤ) {m k : ℕ} → nat_abs x ≤ m → nat_abs y ≤ k → nat_abs (x *ℤ y) ≤ m * k
mul-within x y {m} {k} h g = le_trans (le_of_eq (abs-mul x y)) (mul-le-mul h g)

-- on both sides of 0
pub up_le : (z : ℤ) (B : ℕ) → nat_abs z ≤ B → up z ≤ B
up_le (pos n) B h = h
up_le (negsuc n) B h = omega arith

pub down_le : (z : ℤ) (B : ℕ) → nat_abs z ≤ B → down z ≤ B
down_le (pos n) B h = omega arith
down_le (negsuc n) B h = h

-- the range of a signed type
pub mag-le-abs : (x : ℤ) → mag x ≤ nat_abs x
mag-le-abs (pos n) = le_refl n
mag-le-abs (negsuc n) = omega arith

pub fits-within : {w : Width} (x : ℤ) {m : ℕ} → nat_abs x ≤ m → m < 2 ^ hbits w → SFits w x
fits-within x h k = record { sfits = lt_of_le_of_lt (le_trans (mag-le-abs x) h) k }

-- what a signed value of the type is within: its magnitude is at most 2 ^ (bits − 1)
pub abs-of-fits : {w : Width} (x : ℤ) → SFits w x → nat_abs x ≤ 2 ^ hbits w
abs-of-fits (pos n) f = omega (arith, f.sfits)
abs-of-fits (negsuc n) f = f.sfits
