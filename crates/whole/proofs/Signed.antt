-- Signed code by reflection. A term `E w` mirrors an expression of the code at the width w, with a bound on the magnitude of each leaf.
--     lit, nat, int, raw   a literal; an unsigned value cast to signed; a signed value; the bits that a loop's variable holds
--     «as» v e             e, computed at the width v, and cast
--     ◌⊕◌, ◌⊖◌, ◌⊗◌        the operations
--     bits e, val e        what the machine holds, as a goal shows it; the integer that e means
--     bound e, ok e        a bound on its magnitude, computed from the leaves' bounds; the computed test that nothing leaves its range
--     asked e              what the last operation of e asks (a goal `overflow_add-..`, `overflow_sub-..`, `overflow_mul-..`, a signed `overflow_cast-..`)
--     value e              the machine's reading of e is what it means
-- Assumes nothing.
use mathlib.Core.Path.{◌≡◌, refl, sym, ◌∙◌, ap, ap₂, subst}
use mathlib.Core.Bool.{Bool, true, false, ◌&&◌}
use Prim.Native.Nat.{ℕ, suc, ◌+◌, ◌*◌, ◌^◌, ◌<◌, ◌≤◌}
use native.Mathlib.Nat.{le_trans, lt_of_le_of_lt, le_refl, le_of_eq}
use native.Mathlib.Omega.{arith}
use borrow.Author.Tests.{ltb-true}
use lib.Dec.{T, ltb, ltb→lt}
use lib.Signed.{mag, mag_shr, shr_z, lt_z, non_neg}
use lib.IntN.{ℤ, pos, negsuc, nat_abs, ◌+ℤ◌, ◌-ℤ◌, ◌*ℤ◌}
use mir.Syntax.{Width}
use mir.Val.{Fits, SFits, hbits, of_z, to_z}
use mir.ValLaws.{to_z_pos, to_z-of_z}
use Rattle.whole.specs.Floor.{floor_div}
use Rattle.whole.proofs.Tests.{first, second}
use Rattle.whole.proofs.Pairs.{sub-pos}
use Rattle.whole.proofs.FloorLaws.{shr-floor}
use Rattle.whole.proofs.Magnitudes.{add-within, sub_within, mul-within, fits-within, abs-of-fits}

pub data Op : Type 0 where
  plus minus times : Op

abbrev pub apply : Op → ℤ → ℤ → ℤ
apply plus x y = x +ℤ y
apply minus x y = x -ℤ y
apply times x y = x *ℤ y

abbrev pub bound_of : Op → ℕ → ℕ → ℕ
bound_of plus m k = m + k
bound_of minus m k = m + k
bound_of times m k = m * k

pub data E : Width → Type 0 where
  lit : {w : Width} → ℕ → E w
  nat : {w : Width} (n m : ℕ) → n ≤ m → E w
  int : {w : Width} (z : ℤ) (m : ℕ) → nat_abs z ≤ m → E w
  raw : {w : Width} (n : ℕ) (z : ℤ) (m : ℕ) → to_z w n ≡ z → nat_abs z ≤ m → E w
  «as» : {w : Width} (v : Width) → E v → E w
  bin : {w : Width} → Op → E w → E w → E w

infixl 6 ◌⊕◌ ◌⊖◌
infixl 7 ◌⊗◌
abbrev pub ◌⊕◌ : {w : Width} → E w → E w → E w
a ⊕ b = bin plus a b

abbrev pub ◌⊖◌ : {w : Width} → E w → E w → E w
a ⊖ b = bin minus a b

abbrev pub ◌⊗◌ : {w : Width} → E w → E w → E w
a ⊗ b = bin times a b

abbrev pub val : {w : Width} → E w → ℤ
val (lit n) = pos n
val (nat n m h) = pos n
val (int z m h) = z
val (raw n z m e h) = z
val («as» v e) = val e
val (bin o a b) = apply o (val a) (val b)

abbrev pub bound : {w : Width} → E w → ℕ
bound (lit n) = n
bound (nat n m h) = m
bound (int z m h) = m
bound (raw n z m e h) = m
bound («as» v e) = bound e
bound (bin o a b) = bound_of o (bound a) (bound b)

abbrev pub bits : {w : Width} → E w → ℕ
bits (lit n) = n
bits (nat n m h) = n
bits {w} (int z m h) = of_z w z
bits (raw n z m e h) = n
bits {w} («as» v e) = of_z w (to_z v (bits e))
bits {w} (bin o a b) = of_z w (apply o (to_z w (bits a)) (to_z w (bits b)))

-- the value that the last operation makes, before it is written back as bits
abbrev pub made : {w : Width} → E w → ℤ
made (lit n) = pos n
made (nat n m h) = pos n
made (int z m h) = z
made (raw n z m e h) = z
made («as» v e) = to_z v (bits e)
made {w} (bin o a b) = apply o (to_z w (bits a)) (to_z w (bits b))

-- the parts are in range, and so is the whole
abbrev pub parts : {w : Width} → E w → Bool
parts (lit n) = true
parts (nat n m h) = true
parts (int z m h) = true
parts (raw n z m e h) = true
parts («as» v e) = parts e && ltb (bound e) (2 ^ hbits v)
parts {w} (bin o a b) = (parts a && ltb (bound a) (2 ^ hbits w)) && (parts b && ltb (bound b) (2 ^ hbits w))

abbrev pub ok : {w : Width} → E w → Bool
ok {w} e = parts e && ltb (bound e) (2 ^ hbits w)

apply-within : (o : Op) (x y : ℤ) {m k : ℕ} → nat_abs x ≤ m → nat_abs y ≤ k → nat_abs (apply o x y) ≤ bound_of o m k
apply-within plus x y h k = add-within x y h k
apply-within minus x y h k = sub_within x y h k
apply-within times x y h k = mul-within x y h k

pub within : {w : Width} (e : E w) → nat_abs (val e) ≤ bound e
within (lit n) = le_refl n
within (nat n m h) = h
within (int z m h) = h
within (raw n z m e h) = h
within («as» v e) = within e
within (bin o a b) = apply-within o (val a) (val b) (within a) (within b)

pub fits : {w : Width} (e : E w) → T (ok e) → SFits w (val e)
fits {w} e t = fits-within (val e) (within e) (ltb→lt (bound e) (2 ^ hbits w) (second (parts e) (ltb (bound e) (2 ^ hbits w)) t))

-- what is written as bits is read back
pub back : (w : Width) (z : ℤ) {y : ℤ} → z ≡ y → SFits w y → to_z w (of_z w z) ≡ y
back w z e f = ap (λ u. to_z w (of_z w u)) e ∙ to_z-of_z w _ f

pub value : {w : Width} (e : E w) → T (ok e) → to_z w (bits e) ≡ val e
value {w} (lit n) t = to_z_pos w n (ltb→lt n (2 ^ hbits w) t)
value {w} (nat n m h) t = to_z_pos w n (lt_of_le_of_lt h (ltb→lt m (2 ^ hbits w) t))
value {w} (int z m h) t = to_z-of_z w z (fits (int z m h) t)
value {w} (raw n z m e h) t = e
value {w} («as» v e) t = back w (to_z v (bits e)) (value e (first (ok e) (ltb (bound e) (2 ^ hbits w)) t)) (fits («as» v e) t)
value {w} (bin o a b) t =
    let s = first (ok a && ok b) (ltb (bound_of o (bound a) (bound b)) (2 ^ hbits w)) t in
    back w (apply o (to_z w (bits a)) (to_z w (bits b)))
    (ap₂ (apply o) (value a (first (ok a) (ok b) s)) (value b (second (ok a) (ok b) s)))
    (fits (bin o a b) t)

-- a value of the narrower type v, of which only its type bounds it, cast to w
abbrev pub widened : {w : Width} (v : Width) (z : ℤ) → SFits v z → 2 ^ hbits v < 2 ^ hbits w → E w
widened {w} v z f h = raw (of_z w (to_z v (of_z v z))) z (2 ^ hbits v) (back w (to_z v (of_z v z)) (to_z-of_z v z f) (fits-within z (abs-of-fits z f) h)) (abs-of-fits z f)

made_val : {w : Width} (e : E w) → T (ok e) → made e ≡ val e
made_val (lit n) t = refl
made_val (nat n m h) t = refl
made_val (int z m h) t = refl
made_val (raw n z m e h) t = refl
made_val {w} («as» v e) t = value e (first (ok e) (ltb (bound e) (2 ^ hbits w)) t)
made_val {w} (bin o a b) t =
    let s = first (ok a && ok b) (ltb (bound_of o (bound a) (bound b)) (2 ^ hbits w)) t in
    ap₂ (apply o) (value a (first (ok a) (ok b) s)) (value b (second (ok a) (ok b) s))

pub asked : {w : Width} (e : E w) → T (ok e) → SFits w (made e)
asked {w} e t = subst (SFits w) (sym (made_val e t)) (fits e t)

-- a call's signed result (`c.CALL.type_inv`, `c.CALL.ensures`), passed on or returned: it is read back from its bits
pub read_result : (w : Width) (r : ℤ) {z : ℤ} → mag r < 2 ^ hbits w → r ≡ z → to_z w (of_z w r) ≡ z
read_result w r h e = to_z-of_z w r (record { sfits = h }) ∙ e

-- ---- a test against zero, and casts. `mag z` is n at n and at −(n+1), and a signed value's range is a bound on it
pub neg_of : (z : ℤ) → lt_z z (pos 0) ≡ true → z ≡ negsuc (mag z)
neg_of (pos n) e = absurd (no_lt n (ltb-true n 0 e))
  where
    no_lt : (n : ℕ) → n < 0 → ⊥
    no_lt n h = omega arith
neg_of (negsuc n) e = refl

pub nonneg_of : (z : ℤ) → lt_z z (pos 0) ≡ false → z ≡ pos (mag z)
nonneg_of (pos n) e = refl
nonneg_of (negsuc n) e = absurd (subst T e tt)

-- a value of a signed type, where a test of the code said that it is below zero (`neg`), or not (`nonneg`): it, and what the machine reads
pub is-neg : {w : Width} {z : ℤ} → SFits w z → lt_z (to_z w (of_z w z)) (pos 0) ≡ true → z ≡ negsuc (mag z)
is-neg {w} {z} f e = neg_of z (ap (λ u. lt_z u (pos 0)) (sym (to_z-of_z w z f)) ∙ e)

pub is-nonneg : {w : Width} {z : ℤ} → SFits w z → lt_z (to_z w (of_z w z)) (pos 0) ≡ false → z ≡ pos (mag z)
is-nonneg {w} {z} f e = nonneg_of z (ap (λ u. lt_z u (pos 0)) (sym (to_z-of_z w z f)) ∙ e)

pub read-neg : {w : Width} {z : ℤ} → SFits w z → lt_z (to_z w (of_z w z)) (pos 0) ≡ true → to_z w (of_z w z) ≡ negsuc (mag z)
read-neg {w} {z} f e = to_z-of_z w z f ∙ is-neg f e

pub read-nonneg : {w : Width} {z : ℤ} → SFits w z → lt_z (to_z w (of_z w z)) (pos 0) ≡ false → to_z w (of_z w z) ≡ pos (mag z)
read-nonneg {w} {z} f e = to_z-of_z w z f ∙ is-nonneg f e

-- what a cast to an unsigned type asks
pub to-unsigned : {w : Width} {z : ℤ} (n : ℕ) → z ≡ pos n → n < 2 ^ mir.Val.bits w → T (non_neg z) × Fits w (nat_abs z)
to-unsigned {w} n e h = (subst (λ u. T (non_neg u)) (sym e) tt, subst (λ u. Fits w (nat_abs u)) (sym e) (record { fits = h }))

-- −1 − x takes a negative number to a natural
pub less-negsuc : (n : ℕ) → negsuc 0 -ℤ negsuc n ≡ pos n
less-negsuc n = sub-pos (suc n) 1 n (omega arith)

-- the code's −1 − x, where a test said that x is below zero
pub turned : {w : Width} {z : ℤ} → SFits w z → lt_z (to_z w (of_z w z)) (pos 0) ≡ true → negsuc 0 -ℤ to_z w (of_z w z) ≡ pos (mag z)
turned {z} f t = ap (λ u. negsuc 0 -ℤ u) (read-neg f t) ∙ less-negsuc (mag z)

pub read-turned : {w : Width} {z : ℤ} → SFits w z → lt_z (to_z w (of_z w z)) (pos 0) ≡ true → to_z w (of_z w (negsuc 0 -ℤ to_z w (of_z w z))) ≡ pos (mag z)
read-turned {w} {z} f t = back w (negsuc 0 -ℤ to_z w (of_z w z)) (turned f t) (record { sfits = f.sfits })

-- the code's x >> k, with d its power of two
pub shifted : {w : Width} (e : E w) (d : ℕ) → T (ok e) → to_z w (of_z w (shr_z (to_z w (bits e)) d)) ≡ floor_div (val e) d
shifted {w} e d t =
    back w (shr_z (to_z w (bits e)) d) (ap (λ u. shr_z u d) (value e t) ∙ shr-floor (val e) d)
    (record { sfits = lt_of_le_of_lt (subst (λ u. mag u ≤ mag (val e)) (shr-floor (val e) d) (mag_shr (val e) d)) (fits e t).sfits })

-- cast to a wider type a value fits it
pub wide-cast : {w : Width} (v : Width) (z : ℤ) → SFits v z → 2 ^ hbits v < 2 ^ hbits w → SFits w (to_z v (of_z v z))
wide-cast v z f h = rw (to_z-of_z v z f) (fits-within z (abs-of-fits z f) h)

-- what the machine reads of an expression is within its bound
pub bounded : {w : Width} (e : E w) → T (ok e) → nat_abs (to_z w (bits e)) ≤ bound e
bounded e t = le_trans (le_of_eq (ap nat_abs (value e t))) (within e)
