-- The floor of 2^24 z / y by one division of floats: it is guessed to within one, and an exact test settles it. Assumes nothing.
use Prim.Native.Nat.{ℕ, zero, suc, ◌+◌, ◌-◌, ◌*◌, ◌/◌, ◌%◌, ◌^◌, ◌≤◌, ◌<◌}
use mathlib.Core.Path.{◌≡◌, refl, sym, ap, ap₂, ◌∙◌, subst}
use mathlib.Core.Bool.{Bool, true, false, cond}
use mathlib.Core.Logic.{◌⊎◌, inl, inr}
use native.Mathlib.Nat.{le_trans, mul_assoc, mul_comm, mul-le-mul, mul-le-mul_right, mul-add, suc-mul, div-lt_iff_lt-mul, le-div_iff_mul-le, div-add-mod', mod-lt}
use native.Mathlib.Omega.{arith}
use borrow.Author.Tests.{lt-ltb, le-ltb, ltb-true, ltb-false}
use lib.Dec.{T, ltb, lit<, lit≤}
use lib.Ieee.{Float, binary64, round, of_bits, add, sub, mul, div, lt}
use lib.Ieee.Exact.{HasValue}
use lib.Ieee.Nearest.{closest}
use lib.Ieee.Positive.{num, den, den_pos, positive}
use Rattle.floats.specs.Float.{float, val, WholeUpTo}
use Rattle.floats.proofs.Exact.{Exact, exact, exact-small, exact-negative, exact-over, held}
use Rattle.floats.proofs.Operations.{add-whole, sub-whole, sub-below, mul-whole, div-whole}
use Rattle.floats.proofs.Comparison.{lt-whole, lt-negative}
use Rattle.floats.proofs.Literals.{middle, middle-is, upper_is, under-upper-is}
use Rattle.floats.proofs.Nearest.{Half, closest-ge, closest-le, closest-near}
use Rattle.floats.proofs.Numbers.{Number, number-told}
use Rattle.floats.proofs.Rounding.{quotient-between, rounded, whole_part}

-- ---- the guess: a quotient, rounded once, lies between the whole numbers about it
about : (x y n : ℕ) → 0 < y → y ≤ 2 ^ 40 → 0 < x → n * y ≤ x → x ≤ suc n * y → suc n < 2 ^ 53
    → let r = round binary64 false x y in T (positive r) × (n * den r ≤ num r) × (num r ≤ suc n * den r)
unfolding float
about x y zero Y Y' X lo hi N =
    let b = quotient-between x y 1 (2 ^ 40) 1 1 Y (lit≤ tt) (lit≤ tt) (lit≤ tt) (lit≤ tt) (exact-over 1 40 (lit< tt) (lit≤ tt)) (exact-small 1 (lit< tt)) (omega arith) (omega arith) in
    (b.above0, omega arith, omega (arith, b.high))
about x y (suc n) Y Y' X lo hi N =
    let b = quotient-between x y (suc n) 1 (suc (suc n)) 1 Y (lit≤ tt) (lit≤ tt) (omega arith) (omega arith) (exact-small (suc n) (omega arith)) (exact-small (suc (suc n)) N) (omega arith) (omega arith) in
    (b.above0, omega (arith, b.low), omega (arith, b.high))

near : (x y n : ℕ) → 0 < y → y ≤ 2 ^ 40 → 0 < x → n * y ≤ x → x ≤ suc n * y → n ≤ 2 ^ 24
    → (q : ℕ) × (n ≤ q) × (q ≤ n + 1) × (sub binary64 (add binary64 (round binary64 false x y) (float middle)) (float middle) ≡ float q)
near x y n Y Y' X lo hi N =
    let r : Float = round binary64 false x y in
    let D : 0 < den r = den_pos r in
    let b = about x y n Y Y' X lo hi (omega arith) in
    let w : suc n * den r ≤ 2 ^ 25 * den r = mul-le-mul_right (den r) (omega arith) in
    let l : n + middle ≤ closest (num r + middle * den r) (den r) = closest-ge (n + middle) (num r + middle * den r) (den r) D (omega (arith, b.1)) in
    let h : closest (num r + middle * den r) (den r) ≤ suc n + middle = closest-le (suc n + middle) (num r + middle * den r) (den r) D (omega (arith, b.2)) in
    (closest (num r + middle * den r) (den r) - middle, omega arith, omega arith, whole_part r b.0 (le_trans b.2 w))

lt-succ : (n m : ℕ) → n < suc m → n ≤ m
lt-succ n m h = omega arith

scaled_exact : (z : ℕ) → z ≤ 2 ^ 40 → Exact (2 ^ 24 * z)
scaled_exact z Z = subst Exact (mul_comm z (2 ^ 24)) (exact z 24 (omega arith) (lit≤ tt))

pub scaled-law : {z k : Float} → WholeUpTo (2 ^ 40) z → k ≡ float (2 ^ 24) → mul binary64 z k ≡ float (2 ^ 24 * val z)
scaled-law {z} w e = ap₂ (mul binary64) w.whole e ∙ mul-whole (val z) (2 ^ 24) (held w (lit< tt)) (exact-small (2 ^ 24) (lit< tt)) ∙ ap float (mul_comm (val z) (2 ^ 24))

pub guess-law : (z y : ℕ) (xf yf : Float) → xf ≡ float (2 ^ 24 * z) → yf ≡ float y → 0 < z → z ≤ y → y ≤ 2 ^ 40
    → let n = 2 ^ 24 * z / y in (q : ℕ) × (n ≤ q) × (q ≤ n + 1) × (n ≤ 2 ^ 24)
    × (sub binary64 (add binary64 (div binary64 xf yf) (of_bits binary64 4843621399236968448)) (of_bits binary64 4843621399236968448) ≡ float q)
guess-law z y xf yf ex ey P Z Y =
    let x : ℕ = 2 ^ 24 * z in
    let n : ℕ = 2 ^ 24 * z / y in
    let Y0 : 0 < y = omega arith in
    let m : 2 ^ 24 * z / y * y + 2 ^ 24 * z % y ≡ 2 ^ 24 * z = div-add-mod' (2 ^ 24 * z) y in
    let b : 2 ^ 24 * z % y < y = mod-lt (2 ^ 24 * z) Y0 in
    let hi : 2 ^ 24 * z ≤ suc n * y = omega (arith, suc-mul n y) in
    let small : n ≤ 2 ^ 24 = lt-succ n (2 ^ 24) ((div-lt_iff_lt-mul Y0).1 (omega arith)) in
    let t = near x y n Y0 Y (omega arith) (omega arith) hi small in
    let d : div binary64 (float (2 ^ 24 * z)) (float y) ≡ round binary64 false (2 ^ 24 * z) y = div-whole (2 ^ 24 * z) y Y0 (scaled_exact z (omega arith)) (exact-small y (omega arith)) in
    (t.0, t.1, t.2, small, rw (ex, ey, middle-is, d) t.3)

-- ---- the test: a multiple of 2^20 from y up makes every product exact
high : (y : ℕ) → y ≤ 2 ^ 40
    → (g : ℕ) × (y ≤ g * 2 ^ 20) × (g * 2 ^ 20 ≤ y + 2 ^ 21) × (sub binary64 (add binary64 (float y) (float (middle * 2 ^ 20))) (float (6755399441055743 * 2 ^ 20)) ≡ float (g * 2 ^ 20))
high y Y =
    let c : ℕ = closest (y + middle * 2 ^ 20) (2 ^ 20) in
    let near : Half (c * 2 ^ 20) (y + middle * 2 ^ 20) (2 ^ 20) = closest-near (y + middle * 2 ^ 20) (2 ^ 20) (lit≤ tt) in
    let l : middle ≤ c = closest-ge middle (y + middle * 2 ^ 20) (2 ^ 20) (lit≤ tt) (omega arith) in
    let h : c ≤ middle + 2 ^ 21 = closest-le (middle + 2 ^ 21) (y + middle * 2 ^ 20) (2 ^ 20) (lit≤ tt) (omega arith) in
    let r : float (y + middle * 2 ^ 20) ≡ float (c * 2 ^ 20) = unfold float in rounded 20 (middle + 2 ^ 21) (y + middle * 2 ^ 20) 1 (lit< tt) (lit≤ tt) (omega arith) (omega arith) in
    let s : add binary64 (float y) (float (middle * 2 ^ 20)) ≡ float (c * 2 ^ 20) = add-whole y (middle * 2 ^ 20) (exact-small y (omega arith)) (exact middle 20 (lit< tt) (lit≤ tt)) ∙ r in
    let d : sub binary64 (float (c * 2 ^ 20)) (float (6755399441055743 * 2 ^ 20)) ≡ float (c * 2 ^ 20 - 6755399441055743 * 2 ^ 20) =
    sub-whole (c * 2 ^ 20) (6755399441055743 * 2 ^ 20) (exact c 20 (omega arith) (lit≤ tt)) (exact 6755399441055743 20 (lit< tt) (lit≤ tt)) (omega arith) in
    let e : c * 2 ^ 20 - 6755399441055743 * 2 ^ 20 ≡ (c - 6755399441055743) * 2 ^ 20 = omega arith in
    (c - 6755399441055743, omega (arith, near.0, near.1), omega (arith, near.0, near.1), rw s d ∙ ap float e)

-- r and p make up w
same_test : (r p w x : ℕ) → r + p ≡ w → x ≤ w → ltb r (w - x) ≡ ltb x p
same_test r p w x e h = go (ltb x p) refl
  where
    go : (t : Bool) → ltb x p ≡ t → ltb r (w - x) ≡ t
    go true k = lt-ltb r (w - x) (omega (arith, ltb-true x p k))
    go false k = le-ltb r (w - x) (omega (arith, ltb-false x p k))

split : (a b : ℕ) → (a < b) ⊎ (b ≤ a)
split a b = go (ltb a b) refl
  where
    go : (t : Bool) → ltb a b ≡ t → (a < b) ⊎ (b ≤ a)
    go true e = inl (ltb-true a b e)
    go false e = inr (ltb-false a b e)

module _ (q z y g : ℕ) (Q : q ≤ 16777217) (Z : z ≤ 2 ^ 40) (Y : y ≤ 2 ^ 40) (G : y ≤ g * 2 ^ 20) (G' : g * 2 ^ 20 ≤ y + 2 ^ 21) where
  top : Exact (g * 2 ^ 20)
  top = exact g 20 (omega arith) (lit≤ tt)

  product : q * (g * 2 ^ 20) ≡ q * g * 2 ^ 20
  product = sym (mul_assoc q g (2 ^ 20))

  qg : q * g ≤ 16777217 * (2 ^ 20 + 2)
  qg = mul-le-mul {n₁ = q} {m₁ = g} {n₂ = 16777217} {m₂ = 2 ^ 20 + 2} Q (omega arith)

  product-exact : Exact (q * (g * 2 ^ 20))
  product-exact = subst Exact (sym product) (exact (q * g) 20 (omega (arith, qg)) (lit≤ tt))

  rest-exact : Exact (q * (g * 2 ^ 20 - y))
  rest-exact = exact-small (q * (g * 2 ^ 20 - y)) (omega (arith, mul-le-mul {n₁ = q} {m₁ = g * 2 ^ 20 - y} {n₂ = 16777217} {m₂ = 2 ^ 21} Q (omega arith)))

  left : mul binary64 (float q) (sub binary64 (float (g * 2 ^ 20)) (float y)) ≡ float (q * (g * 2 ^ 20 - y))
  left = rw (sub-whole (g * 2 ^ 20) y top (exact-small y (omega arith)) G) (mul-whole q (g * 2 ^ 20 - y) (exact-small q (omega arith)) (exact-small (g * 2 ^ 20 - y) (omega arith)))

  parted : q * (g * 2 ^ 20 - y) + q * y ≡ q * (g * 2 ^ 20)
  parted =
      let e : g * 2 ^ 20 - y + y ≡ g * 2 ^ 20 = omega arith in
      sym (mul-add q (g * 2 ^ 20 - y) y) ∙ ap (λ (k : ℕ). q * k) e

  settled : (q * (g * 2 ^ 20) < 2 ^ 24 * z) ⊎ (2 ^ 24 * z ≤ q * (g * 2 ^ 20))
      → lt (float (q * (g * 2 ^ 20 - y))) (sub binary64 (float (q * (g * 2 ^ 20))) (float (2 ^ 24 * z))) ≡ ltb (2 ^ 24 * z) (q * y)
  settled (inl h) =
      let k : 2 ^ 24 * z - q * (g * 2 ^ 20) ≡ (z * 16 - q * g) * 2 ^ 20 = omega (arith, product) in
      let v : HasValue (round binary64 true (2 ^ 24 * z - q * (g * 2 ^ 20)) 1) true ((z * 16 - q * g) * 2 ^ 20) 1 =
      subst (λ (w : ℕ). HasValue (round binary64 true w 1) true ((z * 16 - q * g) * 2 ^ 20) 1) (sym k) (exact-negative (z * 16 - q * g) 20 (omega arith) (lit≤ tt)) in
      ap (lt (float (q * (g * 2 ^ 20 - y)))) (sub-below (q * (g * 2 ^ 20)) (2 ^ 24 * z) product-exact (scaled_exact z Z) h)
      ∙ lt-negative (float (q * (g * 2 ^ 20 - y))) (round binary64 true (2 ^ 24 * z - q * (g * 2 ^ 20)) 1) (q * (g * 2 ^ 20 - y)) 1 ((z * 16 - q * g) * 2 ^ 20) 1 rest-exact v
      ∙ sym (le-ltb (2 ^ 24 * z) (q * y) (omega (arith, parted)))
  settled (inr h) =
      let e : q * (g * 2 ^ 20) - 2 ^ 24 * z ≡ (q * g - z * 16) * 2 ^ 20 = omega (arith, product) in
      ap (lt (float (q * (g * 2 ^ 20 - y)))) (sub-whole (q * (g * 2 ^ 20)) (2 ^ 24 * z) product-exact (scaled_exact z Z) h)
      ∙ lt-whole (q * (g * 2 ^ 20 - y)) (q * (g * 2 ^ 20) - 2 ^ 24 * z) rest-exact (subst Exact (sym e) (exact (q * g - z * 16) 20 (omega (arith, qg)) (lit≤ tt)))
      ∙ same_test (q * (g * 2 ^ 20 - y)) (q * y) (q * (g * 2 ^ 20)) (2 ^ 24 * z) parted h

  test-law : lt (mul binary64 (float q) (sub binary64 (float (g * 2 ^ 20)) (float y))) (sub binary64 (mul binary64 (float q) (float (g * 2 ^ 20))) (float (2 ^ 24 * z))) ≡ ltb (2 ^ 24 * z) (q * y)
  test-law = rw (left, mul-whole q (g * 2 ^ 20) (exact-small q (omega arith)) top) (settled (split (q * (g * 2 ^ 20)) (2 ^ 24 * z)))

abbrev above : Float → Float
above y = sub binary64 (add binary64 y (of_bits binary64 4933693391784378368)) (of_bits binary64 4933693391784378367)

pub exceeds-law : (q z y : ℕ) (qf xf yf : Float) → qf ≡ float q → xf ≡ float (2 ^ 24 * z) → yf ≡ float y → q ≤ 16777217 → z ≤ 2 ^ 40 → y ≤ 2 ^ 40
    → lt (mul binary64 qf (sub binary64 (above yf) yf)) (sub binary64 (mul binary64 qf (above yf)) xf) ≡ ltb (2 ^ 24 * z) (q * y)
exceeds-law q z y qf xf yf eq ex ey Q Z Y = let g = high y Y in rw (eq, ex, ey, upper_is, under-upper-is) (rw g.3 (test-law q z y g.0 Q Z Y g.1 g.2))

-- ---- the floor
pub corrected : (x y q : ℕ) (t : Bool) → 0 < y → x / y ≤ q → q ≤ x / y + 1 → t ≡ ltb x (q * y) → (cond t 1 0 ≤ q) × (q - cond t 1 0 ≡ x / y)
corrected x y q true Y l h e = let k : x / y < q = (div-lt_iff_lt-mul Y).1 (ltb-true x (q * y) (sym e)) in (omega arith, omega arith)
corrected x y q false Y l h e = let k : q ≤ x / y = (le-div_iff_mul-le Y).1 (ltb-false x (q * y) (sym e)) in (omega arith, omega arith)

-- of z and y, as the code works them out
pub asks : {z y : Float} (p : Number (2 ^ 40) z) (q : Number (2 ^ 40) y) → 0 < p.value → p.value ≤ q.value → WholeUpTo (2 ^ 40) z × WholeUpTo (2 ^ 40) y × (0 < val z) × (val z ≤ val y)
asks p q h l =
    let z = number-told p (lit< tt) in
    let y = number-told q (lit< tt) in
    (z.0, y.0, rw z.1 h, rw (z.1, y.1) l)

pub told : {k : ℕ} {z y : Float} → k ≡ 16777216 * val z / val y → (p : Number (2 ^ 40) z) (q : Number (2 ^ 40) y) → k ≡ 16777216 * p.value / q.value
told e p q = e ∙ ap₂ (λ (a b : ℕ). 16777216 * a / b) (number-told p (lit< tt)).1 (number-told q (lit< tt)).1
