-- Bounds of the exponential (A.8): the series of e^x at x = 1/20, cut after a term, and what lies above it, to the power k. Assumes nothing.
use Rattle.std.specs.Prelude.{◌≡◌, refl, ℕ, zero, suc, ◌*◌}
use Rattle.std.proofs.Common.{arith}
use Rattle.whole.specs.Fraction.{Fraction, natural, ◌+ᶠ◌, divided_by, power}

-- xⁿ/n!
unfoldable pub term : (n : ℕ) → Fraction
term zero = natural 1
term (suc n) = divided_by (term n) (20 * suc n) (omega arith)

-- 1 + x + x²/2! + .. + xⁿ/n!
unfoldable pub series : (n : ℕ) → Fraction
series zero = term 0
series (suc n) = series n +ᶠ term (suc n)

-- below, the series cut after term n; above, the same sum with its last term counted twice: their k-th powers
abbrev pub lower : (n k : ℕ) → Fraction
lower n k = power (series n) k

abbrev pub doubled : (n : ℕ) → Fraction
doubled n = series n +ᶠ term n

abbrev pub upper : (n k : ℕ) → Fraction
upper n k = power (doubled n) k

-- none has a part below 0
pub term-plain : (n : ℕ) → (term n).minus ≡ 0
unfolding term
term-plain zero = refl
term-plain (suc n) = term-plain n

pub series-plain : (n : ℕ) → (series n).minus ≡ 0
unfolding series
series-plain zero = term-plain 0
series-plain (suc n) = rw (series-plain n, term-plain (suc n)) (omega arith)

pub doubled-plain : (n : ℕ) → (doubled n).minus ≡ 0
doubled-plain n = rw (series-plain n, term-plain n) (omega arith)
