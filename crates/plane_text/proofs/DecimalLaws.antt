-- The decimal digits of a number: all but the last are those of its tenth. Assumes nothing.
use Prim.Native.Nat.{ℕ, zero, suc, ◌+◌, ◌*◌, ◌/◌, ◌%◌, ◌^◌, ◌≤◌, ◌<◌}
use mathlib.Core.Path.{◌≡◌, ap, ◌∙◌}
use mathlib.Core.List.{List, [], ◌∷◌, ◌++◌}
use native.Mathlib.Decide.{dec_le}
use native.Mathlib.Nat.{div-lt_self, div-lt_iff_lt-mul}
use native.Mathlib.Omega.{arith}
use borrow.Author.Tests.{lt-ltb, le-ltb}
use lib.ListN.{length, length-append}
use Rattle.plane_text.specs.Text.{digits, decimal}

-- room for more digits changes nothing
digits_same : (k m n : ℕ) → n < k → n < m → digits k n ≡ digits m n
unfolding digits
digits_same zero m n h l = absurd (omega arith)
digits_same (suc k) zero n h l = absurd (omega arith)
digits_same (suc k) (suc m) n h l =
    elim (dec_le 10 n) [
      | yes t ↦
          let d : n / 10 < n = div-lt_self (omega arith) (omega arith) in
          rw (le-ltb n 10 t) (ap (λ (s : List ℕ). s ++ ((48 + n % 10) ∷ [])) (digits_same k m (n / 10) (omega arith) (omega arith)))
      | no t ↦ rw (lt-ltb n 10 (omega arith))
    ]

pub decimal-one : (n : ℕ) → n < 10 → decimal n ≡ (48 + n) ∷ []
unfolding decimal digits
decimal-one n h = rw (lt-ltb n 10 h)

pub decimal-more : (n : ℕ) → 10 ≤ n → decimal n ≡ decimal (n / 10) ++ ((48 + n % 10) ∷ [])
unfolding decimal digits
decimal-more n h =
    let d : n / 10 < n = div-lt_self (omega arith) (omega arith) in
    rw (le-ltb n 10 h) (ap (λ (s : List ℕ). s ++ ((48 + n % 10) ∷ [])) (digits_same n (suc (n / 10)) (n / 10) d (omega arith)))

pub length-one : (n : ℕ) → n < 10 → length (decimal n) ≡ 1
length-one n h = ap length (decimal-one n h)

pub length_more : (n : ℕ) → 10 ≤ n → length (decimal n) ≡ length (decimal (n / 10)) + 1
length_more n h = ap length (decimal-more n h) ∙ length-append (decimal (n / 10)) ((48 + n % 10) ∷ [])

-- a number below 10 ^ (k + 1) has at most k + 1 digits
decimal-within : (k n : ℕ) → n < 10 * 10 ^ k → length (decimal n) ≤ k + 1
decimal-within zero n h = omega (arith, length-one n (omega arith))
decimal-within (suc k) n h =
    elim (dec_le 10 n) [
      | yes t ↦
          let r : n / 10 < 10 * 10 ^ k = (div-lt_iff_lt-mul {k = 10} {x = n} {y = 10 * 10 ^ k} (omega arith)).1 (omega arith) in
          omega (arith, length_more n t, decimal-within k (n / 10) r)
      | no t ↦ omega (arith, length-one n (omega arith))
    ]

pub decimal_fits : (n : ℕ) → n < 4294967296 → length (decimal n) ≤ 10
decimal_fits n h = decimal-within 9 n (omega arith)
