-- Fractions: (plus − minus) / under, three naturals, the last above 0. Nothing is rounded and nothing is reduced. Assumes nothing.
use Rattle.std.specs.Prelude.{◌≡◌, refl, ℕ, zero, suc, ◌+◌, ◌*◌, ◌-◌, ◌≤◌, ◌<◌, min, ℤ}
use Rattle.std.proofs.Common.{ap, mul-pos, arith}
use Rattle.whole.specs.Parts.{up, down}

pub record Fraction : Type 0 where
  pub plus : ℕ
  pub minus : ℕ
  pub under : ℕ
  pub proper : 0 < under

-- z / d; a whole number; a natural number
abbrev pub ratio : ℤ → (d : ℕ) → 0 < d → Fraction
ratio z d h = record { plus = up z; minus = down z; under = d; proper = h }

abbrev pub integer : ℤ → Fraction
integer z = ratio z 1 (omega arith)

abbrev pub natural : ℕ → Fraction
natural n = record { plus = n; minus = 0; under = 1; proper = omega arith }

infixl 6 ◌+ᶠ◌ ◌-ᶠ◌
abbrev pub ◌+ᶠ◌ : Fraction → Fraction → Fraction
x +ᶠ y = record { plus = x.plus * y.under + y.plus * x.under; minus = x.minus * y.under + y.minus * x.under; under = x.under * y.under; proper = mul-pos x.proper y.proper }

abbrev pub negᶠ : Fraction → Fraction
negᶠ x = record { plus = x.minus; minus = x.plus; under = x.under; proper = x.proper }

abbrev pub ◌-ᶠ◌ : Fraction → Fraction → Fraction
x -ᶠ y = x +ᶠ negᶠ y

infixl 7 ◌*ᶠ◌
abbrev pub ◌*ᶠ◌ : Fraction → Fraction → Fraction
x *ᶠ y = record { plus = x.plus * y.plus + x.minus * y.minus; minus = x.plus * y.minus + x.minus * y.plus; under = x.under * y.under; proper = mul-pos x.proper y.proper }

-- x multiplied by itself, k times
unfoldable pub power : Fraction → ℕ → Fraction
power x zero = natural 1
power x (suc k) = x *ᶠ power x k

-- n times x; x divided by n
abbrev pub times : ℕ → Fraction → Fraction
times n x = record { plus = n * x.plus; minus = n * x.minus; under = x.under; proper = x.proper }

abbrev pub divided_by : Fraction → (n : ℕ) → 0 < n → Fraction
divided_by x n h = record { plus = x.plus; minus = x.minus; under = x.under * n; proper = mul-pos x.proper h }

-- x divided by y, for a y above 0
abbrev pub Above0 : Fraction → Type 0
Above0 y = y.minus < y.plus

abbrev pub quotient : (x y : Fraction) → Above0 y → Fraction
quotient x y h = record { plus = x.plus * y.under; minus = x.minus * y.under; under = x.under * (y.plus - y.minus); proper = mul-pos x.proper (omega arith) }

-- 0 if below 0, 65520 if above; document 01 says "stopped"
abbrev pub clampᶠ : Fraction → Fraction
clampᶠ x = record { plus = min (x.plus - x.minus) (65520 * x.under); minus = 0; under = x.under; proper = x.proper }

-- x is at most y + a/b, all multiplied by b and by what stands under x and y
abbrev pub AtMost : Fraction → Fraction → ℕ → ℕ → Type 0
AtMost x y a b = b * (x.plus * y.under + y.minus * x.under) ≤ b * (y.plus * x.under + x.minus * y.under) + a * (x.under * y.under)

infix 4 ◌≤ᶠ◌
abbrev pub ◌≤ᶠ◌ : Fraction → Fraction → Type 0
x ≤ᶠ y = AtMost x y 0 1

-- the distance of x and y is at most a/b
pub record Within (x y : Fraction) (a b : ℕ) : Type 0 where
  pub low : AtMost x y a b
  pub high : AtMost y x a b

-- x and y are the same number
abbrev pub Same : Fraction → Fraction → Type 0
Same x y = x.plus * y.under + y.minus * x.under ≡ y.plus * x.under + x.minus * y.under

-- a power of x has no part below 0 if x has none
pub power-plain : (x : Fraction) → x.minus ≡ 0 → (k : ℕ) → (power x k).minus ≡ 0
unfolding power
power-plain x h zero = refl
power-plain x h (suc k) = omega (arith, ap (λ (n : ℕ). x.plus * n) (power-plain x h k), ap (λ (n : ℕ). n * (power x k).plus) h)
