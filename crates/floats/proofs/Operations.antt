-- Sums, differences, products and quotients of whole numbers that floats hold exactly: each is rounded once. Assumes nothing.
use Prim.Native.Nat.{ℕ, zero, suc, ◌+◌, ◌-◌, ◌*◌, ◌<◌, ◌≤◌}
use mathlib.Core.Path.{◌≡◌, refl, sym, ap, ap₂, ◌∙◌}
use mathlib.Core.Bool.{Bool, true, false}
use native.Mathlib.Nat.{zero-mul, mul-one, mul_assoc, mul_comm, mul_left_comm, mul-mul-mul_comm, add-mul, mul-sub, mul-pos, mul-le-mul_right, mul-lt-mul_of_pos_right}
use native.Mathlib.Omega.{arith}
use borrow.Author.Tests.{lt-ltb, le-ltb, ne_eqb}
use lib.Dec.{lit≤}
use lib.IntN.{ℤ}
use lib.Ieee.{Float, nan, inf, fin, binary64, up, down, round, sum, add, sub, mul, div}
use lib.Ieee.Exact.{HasValue}
use lib.Ieee.Fits.{up_pos, down_pos}
use lib.Ieee.Scale.{round_same}
use Rattle.floats.specs.Float.{float}
use Rattle.floats.proofs.Exact.{Exact}

-- a float that has a value
pub finite : (x : Float) (minus : Bool) (a c : ℕ) → HasValue x minus a c → (m : ℕ) × (e : ℤ) × (x ≡ fin minus m e) × (m * up e * c ≡ a * down e)
finite nan minus a c h = absurd h
finite (inf s) minus a c h = absurd h
finite (fin s m e) minus a c h = (m, e, ap (λ (t : Bool). fin t m e) h.0, h.1)

-- x / e and its like, over a common denominator
pub over : (x e g a c d : ℕ) → x * c ≡ a * e → x * g * (c * d) ≡ a * d * (e * g)
over x e g a c d p = simp (mul_assoc, mul_comm, mul_left_comm) (simp (mul_assoc, mul_comm, mul_left_comm) at (ap (λ (z : ℕ). z * (g * d)) p))

-- ---- sums
add-finite : (m n : ℕ) (e g : ℤ) (a c b d : ℕ) → 0 < c → 0 < d → m * up e * c ≡ a * down e → n * up g * d ≡ b * down g
    → add binary64 (fin false m e) (fin false n g) ≡ round binary64 false (a * d + b * c) (c * d)
unfolding add sum
add-finite m n e g a c b d C D h k =
    let u : m * up e * down g * (c * d) ≡ a * d * (down e * down g) = over (m * up e) (down e) (down g) a c d h in
    let v : n * up g * down e * (c * d) ≡ b * c * (down e * down g) = ap (λ (z : ℕ). n * up g * down e * z) (mul_comm c d) ∙ over (n * up g) (down g) (down e) b d c k ∙ ap (λ (z : ℕ). b * c * z) (mul_comm (down g) (down e)) in
    round_same binary64 false (m * up e * down g + n * up g * down e) (down e * down g) (a * d + b * c) (c * d) (mul-pos (down_pos e) (down_pos g)) (mul-pos C D)
    (add-mul (m * up e * down g) (n * up g * down e) (c * d) ∙ ap₂ (λ (y z : ℕ). y + z) u v ∙ sym (add-mul (a * d) (b * c) (down e * down g)))

pub add_at : (x y : Float) (a c b d : ℕ) → 0 < c → 0 < d → HasValue x false a c → HasValue y false b d → add binary64 x y ≡ round binary64 false (a * d + b * c) (c * d)
add_at x y a c b d C D h k =
    let u = finite x false a c h in
    let v = finite y false b d k in
    ap₂ (add binary64) u.2 v.2 ∙ add-finite u.0 v.0 u.1 v.1 a c b d C D u.3 v.3

pub add-whole : (a b : ℕ) → Exact a → Exact b → add binary64 (float a) (float b) ≡ float (a + b)
add-whole a b A B = add_at (float a) (float b) a 1 b 1 (lit≤ tt) (lit≤ tt) A B ∙ unfold float in ap (λ (z : ℕ). round binary64 false z 1) (rw (mul-one a, mul-one b))

-- ---- products
mul-finite : (m n : ℕ) (e g : ℤ) (a b : ℕ) → m * up e * 1 ≡ a * down e → n * up g * 1 ≡ b * down g → mul binary64 (fin false m e) (fin false n g) ≡ round binary64 false (a * b) 1
unfolding mul
mul-finite m n e g a b h k =
    round_same binary64 false (m * up e * (n * up g)) (down e * down g) (a * b) 1 (mul-pos (down_pos e) (down_pos g)) (lit≤ tt)
    (mul-mul-mul_comm (m * up e) (n * up g) 1 1 ∙ ap₂ (λ (y z : ℕ). y * z) h k ∙ mul-mul-mul_comm a (down e) b (down g))

pub mul-whole : (a b : ℕ) → Exact a → Exact b → mul binary64 (float a) (float b) ≡ float (a * b)
mul-whole a b A B =
    let u = finite (float a) false a 1 A in
    let v = finite (float b) false b 1 B in
    ap₂ (mul binary64) u.2 v.2 ∙ unfold float in mul-finite u.0 v.0 u.1 v.1 a b u.3 v.3

-- ---- differences: a K and b K over K
pub by_one : (x e g a : ℕ) → x * 1 ≡ a * e → x * g ≡ a * (e * g)
by_one x e g a h = ap (λ (z : ℕ). z * g) (sym (mul-one x) ∙ h) ∙ mul_assoc a e g

minus-scaled : (a b k : ℕ) → a * k - b * k ≡ (a - b) * k
minus-scaled a b k = sym (mul_comm (a - b) k ∙ mul-sub k a b ∙ rw (mul_comm k a, mul_comm k b))

sum_less : (a b k : ℕ) → 0 < k → b ≤ a → sum binary64 false (a * k) true (b * k) k ≡ round binary64 false (a - b) 1
unfolding sum
sum_less a b k K h =
    rw (le-ltb (a * k) (b * k) (mul-le-mul_right k h))
    (round_same binary64 false (a * k - b * k) k (a - b) 1 K (lit≤ tt) (mul-one (a * k - b * k) ∙ minus-scaled a b k))

sum_more : (a b k : ℕ) → 0 < k → a < b → sum binary64 false (a * k) true (b * k) k ≡ round binary64 true (b - a) 1
unfolding sum
sum_more a b k K h =
    rw (lt-ltb (a * k) (b * k) (mul-lt-mul_of_pos_right h K))
    (round_same binary64 true (b * k - a * k) k (b - a) 1 K (lit≤ tt) (mul-one (b * k - a * k) ∙ minus-scaled b a k))

sub-finite : (m n : ℕ) (e g : ℤ) (a b : ℕ) → m * up e * 1 ≡ a * down e → n * up g * 1 ≡ b * down g
    → let k = down e * down g in sub binary64 (fin false m e) (fin false n g) ≡ sum binary64 false (a * k) true (b * k) k
unfolding sub
sub-finite m n e g a b h k =
    ap₂ (λ (y z : ℕ). sum binary64 false y true z (down e * down g)) (by_one (m * up e) (down e) (down g) a h)
    (by_one (n * up g) (down g) (down e) b k ∙ ap (λ (z : ℕ). b * z) (mul_comm (down g) (down e)))

sub-value : (a b : ℕ) → Exact a → Exact b → (k : ℕ) × (0 < k) × (sub binary64 (float a) (float b) ≡ sum binary64 false (a * k) true (b * k) k)
sub-value a b A B =
    let u = finite (float a) false a 1 A in
    let v = finite (float b) false b 1 B in (
      down u.1 * down v.1,
      mul-pos (down_pos u.1) (down_pos v.1),
      ap₂ (sub binary64) u.2 v.2 ∙ sub-finite u.0 v.0 u.1 v.1 a b u.3 v.3,
    )

pub sub-whole : (a b : ℕ) → Exact a → Exact b → b ≤ a → sub binary64 (float a) (float b) ≡ float (a - b)
sub-whole a b A B h = let s = sub-value a b A B in s.2 ∙ sum_less a b s.0 s.1 h ∙ unfold float in refl

pub sub-below : (a b : ℕ) → Exact a → Exact b → a < b → sub binary64 (float a) (float b) ≡ round binary64 true (b - a) 1
sub-below a b A B h = let s = sub-value a b A B in s.2 ∙ sum_more a b s.0 s.1 h

-- ---- quotients
not-zero : (n : ℕ) (d : ℤ) (b : ℕ) → 0 < b → n * up d * 1 ≡ b * down d → n ≡ 0 → ⊥
not-zero n d b B k z =
    let e : b * down d ≡ 0 = sym k ∙ ap (λ (y : ℕ). y * up d * 1) z ∙ simp zero-mul in
    let p : 0 < b * down d = mul-pos B (down_pos d) in
    omega arith

above_zero : (n : ℕ) → (n ≡ 0 → ⊥) → 0 < n
above_zero zero h = absurd (h refl)
above_zero (suc n) h = omega arith

div-cross : (x y p q a b : ℕ) → x * 1 ≡ a * p → y * 1 ≡ b * q → x * q * b ≡ a * (y * p)
div-cross x y p q a b h k =
    let h' : x ≡ a * p = sym (mul-one x) ∙ h in
    let k' : y ≡ b * q = sym (mul-one y) ∙ k in
    rw (h', k') (simp (mul_assoc, mul_comm, mul_left_comm))

div-finite : (m n : ℕ) (e d : ℤ) (a b : ℕ) → 0 < b → m * up e * 1 ≡ a * down e → n * up d * 1 ≡ b * down d → div binary64 (fin false m e) (fin false n d) ≡ round binary64 false a b
unfolding div
div-finite m n e d a b B h k =
    rw (ne_eqb n 0 (not-zero n d b B k))
    (round_same binary64 false (m * up e * down d) (n * up d * down e) a b (mul-pos (mul-pos (above_zero n (not-zero n d b B k)) (up_pos d)) (down_pos e)) B (div-cross (m * up e) (n * up d) (down e) (down d) a b h k))

pub div-whole : (a b : ℕ) → 0 < b → Exact a → Exact b → div binary64 (float a) (float b) ≡ round binary64 false a b
div-whole a b P A B =
    let u = finite (float a) false a 1 A in
    let v = finite (float b) false b 1 B in
    ap₂ (div binary64) u.2 v.2 ∙ div-finite u.0 v.0 u.1 v.1 a b P u.3 v.3
