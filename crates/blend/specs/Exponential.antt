-- The exponential e^(k/20), held between two fractions, and the true logistic weight by it (A.8). Assumes nothing.
use Rattle.std.specs.Prelude.{ℕ, ◌≤◌, ◌<◌, pos}
use Rattle.std.proofs.Common.{le_of_mul-le-mul_right, arith, lit<}
use Rattle.std.proofs.Math.Decide.{dec_lt}
use Rattle.whole.specs.Fraction.{Fraction, ratio, natural, ◌+ᶠ◌, quotient, Above0, ◌≤ᶠ◌, power-plain}
use Rattle.blend.specs.Series.{series, lower, upper, series-plain}

pub record Exponential : Type 0 where
  -- the series is cut after term `cut`; x⁵/5! is the first after which the two bounds fix every entry of the table
  pub cut : ℕ
  pub close : 5 ≤ cut
  -- for e^(k/20), any fractions between the k-th powers of the two bounds
  pub value : (k : ℕ) → Fraction
  pub low : (k : ℕ) → k < 256 → lower cut k ≤ᶠ value k
  pub high : (k : ℕ) → k < 256 → value k ≤ᶠ upper cut k
  -- past the table, any weights from 0 to 1/2
  pub past : (k : ℕ) → Fraction
  pub past-low : (k : ℕ) → 256 ≤ k → natural 0 ≤ᶠ past k
  pub past-high : (k : ℕ) → 256 ≤ k → past k ≤ᶠ ratio (pos 1) 2 (lit< tt)

module _ (e : Exponential) (k : ℕ) where
  -- such a fraction is not below 0
  pub not-below0 : k < 256 → (e.value k).minus ≤ (e.value k).plus
  not-below0 h = le_of_mul-le-mul_right {k = (lower e.cut k).under} (omega (arith, rw (power-plain (series e.cut) (series-plain e.cut) k) at (e.low k h))) (lower e.cut k).proper

  pub above0 : k < 256 → Above0 (natural 1 +ᶠ e.value k)
  above0 h = omega (arith, not-below0 h, (e.value k).proper)

  -- the true logistic, 65536 / (1 + e^(k/20))
  unfoldable pub logistic_of : k < 256 → Fraction
  logistic_of h = quotient (natural 65536) (natural 1 +ᶠ e.value k) (above0 h)

  abbrev pub weight_by : Dec (k < 256) → Fraction
  weight_by (yes h) = logistic_of h
  weight_by (no h) = e.past k

  -- the true weight for k
  unfoldable pub exact_weight : Fraction
  exact_weight = weight_by (dec_lt k 256)
