-- Linear facts of the integers by way of the naturals, where `omega` decides them. Each integer is a difference of two naturals.
--     Pair z              two naturals whose difference is z; `natₚ`, `anyₚ`, `◌+ₚ◌`, `◌-ₚ◌`, `negₚ`, `◌*ₚ◌` make one along a linear term
--     eq-by, eq_of        an equation of integers from the linear fact of their pairs, and back, for `omega`'s list
--     within_by, abs-by   a bound on a magnitude, and the magnitude itself, from a pair
-- Assumes nothing.
use mathlib.Core.Path.{◌≡◌, refl, sym, ◌∙◌, ap, ap₂, subst}
use mathlib.Core.Bool.{Bool, true, false, not, cond}
use Prim.Native.Nat.{ℕ, zero, suc, ◌+◌, ◌*◌, ◌-◌, ◌<◌, ◌≤◌}
use native.Mathlib.Nat as N
use native.Mathlib.Omega.{arith}
use lib.Dec.{T, ltb, ltb→lt, nltb→le}
use lib.IntN.{ℤ, pos, negsuc, neg_ℤ, sub_ℕ, nat_abs, ◌+ℤ◌, ◌-ℤ◌, ◌*ℤ◌}
use Rattle.whole.specs.Parts.{up, down}

-- ---- a − b, by the order of a and b
pick_ind : (t : Bool) {x y : ℤ} (P : ℤ → Type 0) → (T t → P x) → (T (not t) → P y) → P (cond t x y)
pick_ind true P f g = f tt
pick_ind false P f g = g tt

pub sub-ind : (P : ℤ → Type 0) (a b : ℕ) → (a < b → P (negsuc (b - suc a))) → (b ≤ a → P (pos (a - b))) → P (sub_ℕ a b)
sub-ind P a b f g = pick_ind (ltb a b) P (λ t. f (ltb→lt a b t)) (λ t. g (nltb→le a b t))

pub sub-neg : (a b n : ℕ) → a + suc n ≡ b → sub_ℕ a b ≡ negsuc n
sub-neg a b n e =
    sub-ind (λ z. z ≡ negsuc n) a b (λ h. ap negsuc (at₁ h)) (λ h. absurd (at₂ h))
  where
    at₁ : a < b → b - suc a ≡ n
    at₁ h = omega arith

    at₂ : b ≤ a → ⊥
    at₂ h = omega arith

pub sub-pos : (a b n : ℕ) → b + n ≡ a → sub_ℕ a b ≡ pos n
sub-pos a b n e =
    sub-ind (λ z. z ≡ pos n) a b (λ h. absurd (at₁ h)) (λ h. ap pos (at₂ h))
  where
    at₁ : a < b → ⊥
    at₁ h = omega arith

    at₂ : b ≤ a → a - b ≡ n
    at₂ h = omega arith

pub sub-eq : (a b c d : ℕ) → a + d ≡ c + b → sub_ℕ a b ≡ sub_ℕ c d
sub-eq a b c d e =
    sub-ind (λ z. sub_ℕ a b ≡ z) c d
    (λ h. sub-neg a b (d - suc c) (omega arith))
    (λ h. sub-pos a b (c - d) (omega arith))

-- ---- the two naturals of an integer
pub sub-up-down : (z : ℤ) → z ≡ sub_ℕ (up z) (down z)
sub-up-down (pos n) = sym (sub-pos n 0 n (omega arith))
sub-up-down (negsuc n) = sym (sub-neg 0 (suc n) n (omega arith))

pub add-ind : (a b c d : ℕ) (x y : ℤ) → x ≡ sub_ℕ a b → y ≡ sub_ℕ c d → x +ℤ y ≡ sub_ℕ (a + c) (b + d)
add-ind a b c d x y p q =
    ap₂ (λ u v. u +ℤ v) p q
    ∙ sub-ind (λ z. z +ℤ sub_ℕ c d ≡ sub_ℕ (a + c) (b + d)) a b
    (λ h. sub-ind (λ z. negsuc (b - suc a) +ℤ z ≡ sub_ℕ (a + c) (b + d)) c d
    (λ k. sym (sub-neg (a + c) (b + d) (suc (b - suc a + (d - suc c))) (omega arith)))
    (λ k. sub-eq (c - d) (suc (b - suc a)) (a + c) (b + d) (omega arith)))
    (λ h. sub-ind (λ z. pos (a - b) +ℤ z ≡ sub_ℕ (a + c) (b + d)) c d
    (λ k. sub-eq (a - b) (suc (d - suc c)) (a + c) (b + d) (omega arith))
    (λ k. sym (sub-pos (a + c) (b + d) (a - b + (c - d)) (omega arith))))

pub neg-sub : (a b : ℕ) → neg_ℤ (sub_ℕ a b) ≡ sub_ℕ b a
neg-sub a b =
    sub-ind (λ z. neg_ℤ z ≡ sub_ℕ b a) a b
    (λ h. sym (sub-pos b a (suc (b - suc a)) (omega arith)))
    (λ h. neg-pos (a - b) (omega arith))
  where
    neg-pos : (n : ℕ) → b + n ≡ a → neg_ℤ (pos n) ≡ sub_ℕ b a
    neg-pos zero e = sym (sub-pos b a 0 (omega arith))
    neg-pos (suc n) e = sym (sub-neg b a n (omega arith))

-- ---- pairs along a linear term
pub record Pair (z : ℤ) : Type 0 where
  pub hi : ℕ
  pub lo : ℕ
  pub is : z ≡ sub_ℕ hi lo

abbrev pub anyₚ : (z : ℤ) → Pair z
anyₚ z = record { hi = up z; lo = down z; is = sub-up-down z }

abbrev pub natₚ : (n : ℕ) → Pair (pos n)
natₚ n = record { hi = n; lo = 0; is = sub-up-down (pos n) }

infixl 6 ◌+ₚ◌ ◌-ₚ◌
abbrev pub ◌+ₚ◌ : {x y : ℤ} → Pair x → Pair y → Pair (x +ℤ y)
◌+ₚ◌ {x} {y} p q = record { hi = p.hi + q.hi; lo = p.lo + q.lo; is = add-ind p.hi p.lo q.hi q.lo x y p.is q.is }

abbrev pub negₚ : {x : ℤ} → Pair x → Pair (neg_ℤ x)
negₚ {x} p = record { hi = p.lo; lo = p.hi; is = ap neg_ℤ p.is ∙ neg-sub p.hi p.lo }

abbrev pub ◌-ₚ◌ : {x y : ℤ} → Pair x → Pair y → Pair (x -ℤ y)
p -ₚ q = p +ₚ negₚ q

-- a natural multiple
pub mul-sub : (n a b : ℕ) → pos n *ℤ sub_ℕ a b ≡ sub_ℕ (n * a) (n * b)
mul-sub n a b =
    sub-ind (λ z. pos n *ℤ z ≡ sub_ℕ (n * a) (n * b)) a b
    (λ h. ap neg_ℤ (sub-up-down (pos (n * suc (b - suc a)))) ∙ neg-sub (n * suc (b - suc a)) 0
    ∙ sub-eq 0 (n * suc (b - suc a)) (n * a) (n * b) (below h))
    (λ h. sym (sub-pos (n * a) (n * b) (n * (a - b)) (above h)))
  where
    below : a < b → 0 + n * b ≡ n * a + n * suc (b - suc a)
    below h = let e : b ≡ a + suc (b - suc a) = omega arith in N.zero-add (n * b) ∙ ap (λ (k : ℕ). n * k) e ∙ N.mul-add n a (suc (b - suc a))

    above : b ≤ a → n * b + n * (a - b) ≡ n * a
    above h = let e : b + (a - b) ≡ a = omega arith in sym (N.mul-add n b (a - b)) ∙ ap (λ (k : ℕ). n * k) e

infixl 7 ◌*ₚ◌
abbrev pub ◌*ₚ◌ : (n : ℕ) {x : ℤ} → Pair x → Pair (pos n *ℤ x)
n *ₚ p = record { hi = n * p.hi; lo = n * p.lo; is = ap (λ z. pos n *ℤ z) p.is ∙ mul-sub n p.hi p.lo }

-- ---- equations and magnitudes
pub eq-by : {x y : ℤ} (p : Pair x) (q : Pair y) → p.hi + q.lo ≡ q.hi + p.lo → x ≡ y
eq-by p q e = p.is ∙ sub-eq p.hi p.lo q.hi q.lo e ∙ sym q.is

-- the linear fact of two pairs from an equation: the other direction of `eq-by`
sub_inj : (a b c d : ℕ) → sub_ℕ a b ≡ sub_ℕ c d → a + d ≡ c + b
sub_inj a b c d e = let h : up (sub_ℕ a b) + down (sub_ℕ c d) ≡ up (sub_ℕ c d) + down (sub_ℕ a b) = ap₂ (λ u v. up u + down v) e (sym e) in
    omega (arith, differs a b, differs c d)
  where
    differs : (a b : ℕ) → up (sub_ℕ a b) + b ≡ a + down (sub_ℕ a b)
    differs a b = sub-ind (λ z. up z + b ≡ a + down z) a b (λ h. omega arith) (λ h. omega arith)

pub eq_of : {x y : ℤ} (p : Pair x) (q : Pair y) → x ≡ y → p.hi + q.lo ≡ q.hi + p.lo
eq_of p q e = sub_inj p.hi p.lo q.hi q.lo (sym p.is ∙ e ∙ q.is)

pub differs : {x : ℤ} (p : Pair x) → p.hi + down x ≡ up x + p.lo
differs {x} p = eq_of p (anyₚ x) refl

-- the magnitude of a difference of two naturals is at most the larger
pub within_by : {x : ℤ} (p : Pair x) {m : ℕ} → p.hi ≤ m → p.lo ≤ m → nat_abs x ≤ m
within_by p {m} h k =
    subst (λ z. nat_abs z ≤ m) (sym p.is) (sub-ind (λ z. nat_abs z ≤ m) p.hi p.lo (λ g. omega arith) (λ g. omega arith))

abbrev pub subₚ : (a b : ℕ) → Pair (sub_ℕ a b)
subₚ a b = record { hi = a; lo = b; is = refl }

-- the magnitude of a difference of two naturals, by the naturals' difference
pub abs-by : {x : ℤ} (p : Pair x) → nat_abs x ≡ p.hi - p.lo + (p.lo - p.hi)
abs-by p =
    ap nat_abs p.is ∙ sub-ind (λ z. nat_abs z ≡ p.hi - p.lo + (p.lo - p.hi)) p.hi p.lo (λ h. omega arith) (λ h. omega arith)

-- ---- the parts of a sum, a difference and a natural multiple
pub +ℤ-up : (a b : ℤ) → up (a +ℤ b) + (down a + down b) ≡ down (a +ℤ b) + (up a + up b)
+ℤ-up a b = omega (arith, differs (anyₚ a +ₚ anyₚ b))

pub -ℤ-up : (a b : ℤ) → up (a -ℤ b) + (down a + up b) ≡ down (a -ℤ b) + (up a + down b)
-ℤ-up a b = omega (arith, differs (anyₚ a -ₚ anyₚ b))

up_neg : (n : ℕ) → up (neg_ℤ (pos n)) ≡ 0
up_neg zero = refl
up_neg (suc n) = refl

down-neg : (n : ℕ) → down (neg_ℤ (pos n)) ≡ n
down-neg zero = refl
down-neg (suc n) = refl

pub up-times : (n : ℕ) (z : ℤ) → up (pos n *ℤ z) ≡ n * up z
up-times n (pos a) = refl
up-times n (negsuc a) = up_neg (n * suc a) ∙ omega arith

pub down-times : (n : ℕ) (z : ℤ) → down (pos n *ℤ z) ≡ n * down z
down-times n (pos a) = omega arith
down-times n (negsuc a) = down-neg (n * suc a)

-- two and two, against the definitions' order
pub four-terms : (a b c d : ℤ) → a +ℤ b +ℤ (c +ℤ d) ≡ a +ℤ (b +ℤ (c +ℤ (d +ℤ pos 0)))
four-terms a b c d = eq-by (anyₚ a +ₚ anyₚ b +ₚ (anyₚ c +ₚ anyₚ d)) (anyₚ a +ₚ (anyₚ b +ₚ (anyₚ c +ₚ (anyₚ d +ₚ natₚ 0)))) (omega arith)
