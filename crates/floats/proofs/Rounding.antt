-- A fraction from 2^(52 + j) to 2^(53 + j) is rounded to the nearest multiple of 2^j; a quotient lies between the exact numbers that the fraction lies between. Assumes nothing.
use Prim.Native.Nat.{ℕ, suc, ◌+◌, ◌-◌, ◌*◌, ◌/◌, ◌^◌, ◌≤◌, ◌<◌}
use mathlib.Core.Path.{◌≡◌, sym, ap, ap₂, ◌∙◌, subst}
use mathlib.Core.Bool.{false}
use native.Mathlib.Nat.{le_trans, le_of_eq, lt_of_le_of_lt, lt_of_lt_of_le, lt_of_not-le, not-le_of_lt}
use native.Mathlib.Nat.{mul-one, one-mul, mul_assoc, mul_comm, mul_left_comm, mul_right_comm, mul-pos, mul-le-mul_right, mul-lt-mul_of_pos_right, le-div_iff_mul-le, div-lt_iff_lt-mul}
use native.Mathlib.Omega.{arith}
use lib.Dec.{T, lit<, lit≤}
use lib.Pow.{pow-add, pow_pos, pow_mono}
use lib.Ieee.{Float, binary64, size, round, units, add, sub}
use lib.Ieee.Digits.{size-lt, size-le}
use lib.Ieee.Exact.{HasValue}
use lib.Ieee.Fits.{round_is}
use lib.Ieee.Nearest.{closest, closest_same}
use lib.Ieee.Order.{drop, kept, round_mono}
use lib.Ieee.Positive.{num, den, den_pos, positive, own_value, positive_of_value, between, values_of_le}
use Rattle.floats.specs.Float.{float}
use Rattle.floats.proofs.Exact.{exact-small}
use Rattle.floats.proofs.Operations.{add_at, sub-whole}
use Rattle.floats.proofs.Literals.{middle}
use Rattle.floats.proofs.Nearest.{closest-whole, closest-ge, closest-le}

size_is : (n j : ℕ) → 2 ^ j ≤ n → n < 2 ^ suc j → size n ≡ suc j
size_is n j h k =
    let u : size n ≤ suc j = size-le n (suc j) k in
    let l : j < size n = lt_of_not-le (λ (g : size n ≤ j). not-le_of_lt (lt_of_lt_of_le (size-lt n) (pow_mono g)) h) in
    omega arith

shifted : (i l d a : ℕ) → 2 ^ i * d ≤ a → 2 ^ (i + l) * d ≤ a * 2 ^ l
shifted i l d a h = le_trans (le_of_eq (ap (λ (z : ℕ). z * d) (pow-add 2 i l) ∙ mul_right_comm (2 ^ i) (2 ^ l) d)) (mul-le-mul_right (2 ^ l) h)

shifted-lt : (i l d a : ℕ) → a < 2 ^ i * d → a * 2 ^ l < 2 ^ (i + l) * d
shifted-lt i l d a h = lt_of_lt_of_le (mul-lt-mul_of_pos_right h (pow_pos l)) (le_of_eq (sym (ap (λ (z : ℕ). z * d) (pow-add 2 i l) ∙ mul_right_comm (2 ^ i) (2 ^ l) d)))

module _ (j a d : ℕ) (D : 0 < d) (lo : 2 ^ 52 * (d * 2 ^ j) ≤ a) (hi : a < 2 ^ 53 * (d * 2 ^ j)) where
  scale : (i : ℕ) → 2 ^ i * (d * 2 ^ j) ≡ 2 ^ (i + j) * d
  scale i = sym (ap (λ (z : ℕ). z * d) (pow-add 2 i j) ∙ mul_assoc (2 ^ i) (2 ^ j) d ∙ ap (λ (z : ℕ). 2 ^ i * z) (mul_comm (2 ^ j) d))

  dropped : drop 53 (a * 2 ^ 1074) d ≡ 1074 + j
  dropped =
      let k : 53 + j + 1074 ≡ suc (52 + j + 1074) = omega arith in
      let e : size (a * 2 ^ 1074 / d) ≡ suc (52 + j + 1074) =
      size_is (a * 2 ^ 1074 / d) (52 + j + 1074) ((le-div_iff_mul-le D).1 (shifted (52 + j) 1074 d a (le_trans (le_of_eq (sym (scale 52))) lo)))
      (subst (λ (i : ℕ). a * 2 ^ 1074 / d < 2 ^ i) k ((div-lt_iff_lt-mul D).1 (shifted-lt (53 + j) 1074 d a (lt_of_lt_of_le hi (le_of_eq (scale 53)))))) in
      omega arith

  kept-is : kept 53 (a * 2 ^ 1074) d ≡ closest a (d * 2 ^ j)
  kept-is =
      ap (λ (z : ℕ). closest (a * 2 ^ 1074) (d * 2 ^ z)) dropped
      ∙ closest_same (a * 2 ^ 1074) (d * 2 ^ (1074 + j)) a (d * 2 ^ j) (mul-pos D (pow_pos (1074 + j))) (mul-pos D (pow_pos j))
      (rw (pow-add 2 1074 j) (simp (mul_assoc, mul_left_comm)))

  round-units : round binary64 false a d ≡ units binary64 false (closest a (d * 2 ^ j)) (1074 + j)
  round-units =
      round_is binary64 false a d
      ∙ ap (λ (z : ℕ). units binary64 false z (drop 53 (a * 2 ^ 1074) d)) kept-is
      ∙ ap (λ (z : ℕ). units binary64 false (closest a (d * 2 ^ j)) z) dropped

pub rounded : (j N a d : ℕ) → N < 2 ^ 53 → 0 < d → 2 ^ 52 * (d * 2 ^ j) ≤ a → a ≤ N * (d * 2 ^ j) → round binary64 false a d ≡ float (closest a (d * 2 ^ j) * 2 ^ j)
unfolding float
rounded j N a d few D lo hi =
    let u : ℕ = d * 2 ^ j in
    let U : 0 < d * 2 ^ j = mul-pos D (pow_pos j) in
    let c : ℕ = closest a (d * 2 ^ j) in
    let l : 2 ^ 52 ≤ closest a (d * 2 ^ j) = closest-ge (2 ^ 52) a (d * 2 ^ j) U lo in
    let h : closest a (d * 2 ^ j) < 2 ^ 53 = lt_of_le_of_lt (closest-le N a (d * 2 ^ j) U hi) few in
    let one : 1 * 2 ^ j ≡ 2 ^ j = one-mul (2 ^ j) in
    round-units j a d D lo (lt_of_le_of_lt hi (mul-lt-mul_of_pos_right few U))
    ∙ sym (round-units j (c * 2 ^ j) 1 (lit≤ tt) (subst (λ (z : ℕ). 2 ^ 52 * z ≤ c * 2 ^ j) (sym one) (mul-le-mul_right (2 ^ j) l)) (subst (λ (z : ℕ). c * 2 ^ j < 2 ^ 53 * z) (sym one) (mul-lt-mul_of_pos_right h (pow_pos j)))
    ∙ ap (λ (z : ℕ). units binary64 false z (1074 + j)) (ap (λ (z : ℕ). closest (c * 2 ^ j) z) one ∙ closest-whole c (2 ^ j) (pow_pos j)))

-- ---- 1.5 × 2^52, added to a float from 0 to 2^25 and taken off, leaves the nearest whole number
module _ (x : Float) (X : T (positive x)) (h : num x ≤ 2 ^ 25 * den x) where
  D : 0 < den x
  D = den_pos x

  abbrev raised : ℕ
  raised = num x + middle * den x

  low : middle ≤ closest raised (den x)
  low = closest-ge middle raised (den x) D (omega arith)

  high : closest raised (den x) ≤ middle + 2 ^ 25
  high = closest-le (middle + 2 ^ 25) raised (den x) D (omega arith)

  raised-rounded : round binary64 false raised (den x) ≡ float (closest raised (den x))
  raised-rounded =
      let one : den x * 2 ^ 0 ≡ den x = mul-one (den x) in
      rounded 0 (middle + 2 ^ 25) raised (den x) (lit< tt) D (rw one (omega arith)) (rw one (omega arith)) ∙ ap float (mul-one (closest raised (den x * 2 ^ 0)) ∙ ap (closest raised) one)

  sum_is : add binary64 x (float middle) ≡ float (closest raised (den x))
  sum_is =
      add_at x (float middle) (num x) (den x) middle 1 D (lit≤ tt) (own_value x X) (exact-small middle (lit< tt))
      ∙ ap₂ (λ (a d : ℕ). round binary64 false (a + middle * den x) d) (mul-one (num x)) (mul-one (den x))
      ∙ raised-rounded

  pub whole_part : sub binary64 (add binary64 x (float middle)) (float middle) ≡ float (closest (num x + middle * den x) (den x) - middle)
  whole_part = rw sum_is (sub-whole (closest raised (den x)) middle (exact-small (closest raised (den x)) (omega (arith, high))) (exact-small middle (lit< tt)) low)

-- ---- the rounded quotient a / u lies between the numbers lo / p and hi / r that floats hold
pub record Between (lo p hi r : ℕ) (x : Float) : Type 0 where
  pub above0 : T (positive x)
  pub low : lo * den x ≤ num x * p
  pub high : num x * r ≤ hi * den x

pub quotient-between : (a u lo p hi r : ℕ) → 0 < u → 0 < p → 0 < r → 0 < lo → 0 < hi → HasValue (round binary64 false lo p) false lo p → HasValue (round binary64 false hi r) false hi r
    → lo * u ≤ a * p → a * r ≤ hi * u → Between lo p hi r (round binary64 false a u)
quotient-between a u lo p hi r U P R l0 h0 L H l h =
    let x = round binary64 false a u in
    let L0 = positive_of_value (round binary64 false lo p) lo p L l0 in
    let H0 = positive_of_value (round binary64 false hi r) hi r H h0 in
    let up = round_mono binary64 lo p a u P U l in
    let down = round_mono binary64 a u hi r U R h in
    let x0 = between (round binary64 false lo p) x (round binary64 false hi r) L0 H0 up down in
    record {
      above0 = x0;
      low = values_of_le (round binary64 false lo p) x lo p (num x) (den x) L0 x0 L (own_value x x0) up;
      high = values_of_le x (round binary64 false hi r) (num x) (den x) hi r x0 H0 (own_value x x0) H down;
    }
