-- Whole numbers that floats hold exactly: q × 2^j, for q below 2^53. Assumes nothing.
use Prim.Native.Nat.{ℕ, ◌+◌, ◌-◌, ◌*◌, ◌/◌, ◌^◌, ◌≤◌, ◌<◌}
use mathlib.Core.Path.{◌≡◌, sym, ap, ◌∙◌, subst}
use mathlib.Core.Bool.{Bool, true, false}
use native.Mathlib.Nat.{le_trans, le_of_eq, lt_of_lt_of_le, mul-one, mul_assoc, mul_comm, mul-lt-mul_of_pos_right, mul-div_cancel}
use native.Mathlib.Omega.{arith}
use borrow.Author.Tests.{ltb-false}
use lib.Dec.{ltb, lit≤}
use lib.Pow.{pow-add, pow_pos, pow_mono}
use lib.Ieee.{Float, binary64, round}
use lib.Ieee.Exact.{HasValue, round_exact}
use lib.Ieee.Positive.{num, den, den_pos, value→cross}
use Rattle.floats.specs.Float.{float, val, WholeUpTo}

-- floats hold n
abbrev pub Exact : ℕ → Type 0
Exact n = HasValue (float n) false n 1

below : (q j : ℕ) → q < 2 ^ 53 → 53 + j ≤ 1074 + 1024 → q * 2 ^ j < 2 ^ (1074 + 1024)
below q j Q h = lt_of_lt_of_le (mul-lt-mul_of_pos_right Q (pow_pos j)) (le_trans (le_of_eq (sym (pow-add 2 53 j))) (pow_mono h))

exact_signed : (minus : Bool) (q j : ℕ) → q < 2 ^ 53 → j ≤ 100 → HasValue (round binary64 minus (q * 2 ^ j) 1) minus (q * 2 ^ j) 1
exact_signed minus q j Q few =
    let h : 53 + (1074 + j) ≤ 1074 + 1024 = omega arith in
    round_exact binary64 minus (q * 2 ^ j) 1 q (1074 + j) (lit≤ tt) Q (below q (1074 + j) Q h)
    (mul_assoc q (2 ^ j) (2 ^ 1074) ∙ ap (λ (z : ℕ). q * z) (mul_comm (2 ^ j) (2 ^ 1074) ∙ sym (pow-add 2 1074 j)) ∙ sym (mul-one (q * 2 ^ (1074 + j))))

pub exact : (q j : ℕ) → q < 2 ^ 53 → j ≤ 100 → Exact (q * 2 ^ j)
unfolding float
exact q j Q few = exact_signed false q j Q few

pub exact-negative : (q j : ℕ) → q < 2 ^ 53 → j ≤ 100 → HasValue (round binary64 true (q * 2 ^ j) 1) true (q * 2 ^ j) 1
exact-negative q j Q few = exact_signed true q j Q few

pub exact-small : (n : ℕ) → n < 2 ^ 53 → Exact n
exact-small n h = subst Exact (mul-one n) (exact n 0 h (omega arith))

-- a whole number over a power of two
pub exact-over : (a i : ℕ) → a < 2 ^ 53 → i ≤ 1074 → HasValue (round binary64 false a (2 ^ i)) false a (2 ^ i)
exact-over a i h few =
    let k : 53 + (1074 - i) ≤ 1074 + 1024 = omega arith in
    let e : 1074 - i + i ≡ 1074 = omega arith in
    round_exact binary64 false a (2 ^ i) a (1074 - i) (pow_pos i) h (below a (1074 - i) h k)
    (ap (λ (z : ℕ). a * 2 ^ z) (sym e) ∙ ap (λ (z : ℕ). a * z) (pow-add 2 (1074 - i) i) ∙ sym (mul_assoc a (2 ^ (1074 - i)) (2 ^ i)))

val-float : (n : ℕ) → Exact n → val (float n) ≡ n
unfolding val
val-float n h = ap (λ (a : ℕ). a / den (float n)) (sym (mul-one (num (float n))) ∙ value→cross (float n) n 1 h) ∙ mul-div_cancel n (den_pos (float n))

-- what a float's number is told by
pub val_is : (x : Float) (k : ℕ) → x ≡ float k → k < 2 ^ 53 → val x ≡ k
val_is x k e h = ap val e ∙ val-float k (exact-small k h)

pub whole_is : (x : Float) (k b : ℕ) → x ≡ float k → k ≤ b → b < 2 ^ 53 → WholeUpTo b x × (val x ≡ k)
whole_is x k b e h l =
    let v : val x ≡ k = val_is x k e (omega arith) in
    (record { whole = e ∙ ap float (sym v); most = rw v h }, v)

pub wider : {j k : ℕ} {x : Float} → WholeUpTo j x → ltb k j ≡ false → WholeUpTo k x
wider {j} {k} w e = record { whole = w.whole; most = omega (arith, w.most, ltb-false k j e) }

-- a whole number up to 2^53 is exact
pub held : {b : ℕ} {x : Float} → WholeUpTo b x → b < 2 ^ 53 → Exact (val x)
held {b} {x} w h = exact-small (val x) (omega arith)
