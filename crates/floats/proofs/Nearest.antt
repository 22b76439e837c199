-- The whole number nearest to a fraction n / d: between what bounds, and how near. Assumes nothing.
use Prim.Native.Nat.compare
use Prim.Native.Nat.{ℕ, zero, suc, ◌+◌, ◌*◌, ◌/◌, ◌%◌, ◌≤◌, ◌<◌, compare, Ordering}
use mathlib.Core.Path.{◌≡◌, ap, ◌∙◌, subst}
use mathlib.Core.Bool.{not}
use native.Mathlib.Nat.{lt_irrefl, le_trans, le_of_eq, one-mul, add-mul, suc-mul, mul-le-mul_right, mul-mod_left, mul-div_cancel, div-add-mod', mod-lt}
use native.Mathlib.Omega.{arith}
use lib.Arith.{lt_of_le-ne}
use lib.Dec.{T, is_le, compare_is_eq, eqb, leb→le, nleb→lt, eqb→eq, eqb_refl}
use lib.Ieee.{nearest}
use lib.Ieee.Nearest.{closest, closest_mono}

zero-below : (u : ℕ) → 0 < u → compare 0 u ≡ Ordering.lt
zero-below zero h = absurd (lt_irrefl 0 h)
zero-below (suc u) h = compare.zero-suc u

pub closest-whole : (n k : ℕ) → 0 < k → closest (n * k) k ≡ n
closest-whole n k h =
    ap (λ (x : ℕ). nearest x (compare (n * k % k * 2) k)) (mul-div_cancel n h)
    ∙ ap (λ (x : ℕ). nearest n (compare (x * 2) k)) (mul-mod_left n k)
    ∙ ap (nearest n) (zero-below k h)

pub closest-ge : (n a d : ℕ) → 0 < d → n * d ≤ a → n ≤ closest a d
closest-ge n a d D h = subst (λ (x : ℕ). x ≤ closest a d) (closest-whole n d D) (closest_mono (n * d) d a d D D (mul-le-mul_right d h))

pub closest-le : (n a d : ℕ) → 0 < d → a ≤ n * d → closest a d ≤ n
closest-le n a d D h = subst (λ (x : ℕ). closest a d ≤ x) (closest-whole n d D) (closest_mono a d (n * d) d D D (mul-le-mul_right d h))

-- ---- at most half a unit away
abbrev Compared : Ordering → ℕ → ℕ → Type 0
Compared Ordering.lt a b = a < b
Compared Ordering.eq a b = a ≡ b
Compared Ordering.gt a b = b < a

compared : (a b : ℕ) → Compared (compare a b) a b
compared a b = go (compare a b) (leb→le a b) (nleb→lt a b) (eqb→eq a b) (λ (e : a ≡ b). subst (λ (x : ℕ). T (eqb a x)) e (eqb_refl a))
  where
    go : (o : Ordering) → (T (is_le o) → a ≤ b) → (T (not (is_le o)) → b < a) → (T (compare_is_eq o) → a ≡ b) → (a ≡ b → T (compare_is_eq o)) → Compared o a b
    go Ordering.lt h k e n = lt_of_le-ne (h tt) n
    go Ordering.eq h k e n = e tt
    go Ordering.gt h k e n = k tt

-- x is within half of d of n
abbrev pub Half : ℕ → ℕ → ℕ → Type 0
Half x n d = (x * 2 ≤ n * 2 + d) × (n * 2 ≤ x * 2 + d)

parity : (q d : ℕ) → q % 2 * d ≤ d
parity q d = le_trans (mul-le-mul_right d (le-one q)) (le_of_eq (one-mul d))
  where
    le-one : (q : ℕ) → q % 2 ≤ 1
    le-one q = omega arith

half : (q r d n : ℕ) (o : Ordering) → Compared o (r * 2) d → r < d → q * d + r ≡ n → Half (nearest q o * d) n d
half q r d n Ordering.lt h k e = (omega arith, omega arith)
half q r d n Ordering.eq h k e = let p : q % 2 * d ≤ d = parity q d in rw add-mul (omega arith, omega arith)
half q r d n Ordering.gt h k e = rw suc-mul (omega arith, omega arith)

pub closest-near : (n d : ℕ) → 0 < d → Half (closest n d * d) n d
closest-near n d h = half (n / d) (n % d) d n (compare (n % d * 2) d) (compared (n % d * 2) d) (mod-lt n h) (div-add-mod' n d)
