-- A series that is cut later has its two bounds, and so their powers, between those of one that is cut sooner. Assumes nothing.
use mathlib.Core.Path.{◌≡◌}
use Prim.Native.Nat.{ℕ, zero, suc, ◌+◌, ◌-◌, ◌*◌, ◌≤◌, ◌<◌}
use native.Mathlib.Nat.{mul-le-mul_left, add-zero, add-suc}
use native.Mathlib.Omega.{arith}
use lib.Dec.{lit<}
use lib.IntN.{pos}
use Rattle.whole.specs.Fraction.{Fraction, ratio, natural, ◌+ᶠ◌, divided_by, ◌≤ᶠ◌}
use Rattle.whole.proofs.FractionLaws.{atmost-trans}
use Rattle.whole.proofs.PowerLaws.{power-rises}
use Rattle.blend.specs.Series.{term, series, lower, doubled, upper, term-plain, series-plain, doubled-plain}
use Rattle.blend.specs.Exponential.{Exponential}

-- ---- one term more: t is the last term, and t / c, with c at least 2, the next

pub more-low : (s t : Fraction) → t.minus ≡ 0 → s ≤ᶠ s +ᶠ t
more-low s t h = rw h (omega arith)

more-high : (s t : Fraction) (c : ℕ) (p : 0 < c) → 2 ≤ c → t.minus ≡ 0 → s +ᶠ divided_by t c p +ᶠ divided_by t c p ≤ᶠ s +ᶠ t
more-high s t c p h e = rw e (omega (arith, mul-le-mul_left (t.plus * (s.under * s.under) * (t.under * c) * t.under) h))

-- ---- d terms more

series-rises : (n d : ℕ) → series n ≤ᶠ series (n + d)
unfolding series
series-rises n zero = rw add-zero (omega arith)
series-rises n (suc d) = rw (add-suc n d) (atmost-trans (series n) (series (n + d)) (series (suc (n + d))) 0 0 1 (series-rises n d) (more-low (series (n + d)) (term (suc (n + d))) (term-plain (suc (n + d)))))

doubled_falls : (n d : ℕ) → doubled (n + d) ≤ᶠ doubled n
unfolding series term
doubled_falls n zero = rw add-zero (omega arith)
doubled_falls n (suc d) =
    let next = more-high (series (n + d)) (term (n + d)) (20 * suc (n + d)) (omega arith) (omega arith) (term-plain (n + d)) in
    rw (add-suc n d) (atmost-trans (doubled (suc (n + d))) (doubled (n + d)) (doubled n) 0 0 1 next (doubled_falls n d))

-- ---- a later cut: after term m, not n

module _ (n m k : ℕ) (h : n ≤ m) where
  later : m ≡ n + (m - n)
  later = omega arith

  pub lower-rises : lower n k ≤ᶠ lower m k
  lower-rises = power-rises (series n) (series m) (series-plain n) (series-plain m) (rw later (series-rises n (m - n))) k

  pub upper-falls : upper m k ≤ᶠ upper n k
  upper-falls = power-rises (doubled m) (doubled n) (doubled-plain m) (doubled-plain n) (rw later (doubled_falls n (m - n))) k

-- what lies between the bounds of a later cut also lies between those of a sooner one
pub later-cut : (e : Exponential) (n : ℕ) → n ≤ e.cut → (k : ℕ) → k < 256 → (lower n k ≤ᶠ e.value k) × (e.value k ≤ᶠ upper n k)
later-cut e n h k l = (
  atmost-trans (lower n k) (lower e.cut k) (e.value k) 0 0 1 (lower-rises n e.cut k h) (e.low k l),
  atmost-trans (e.value k) (upper e.cut k) (upper n k) 0 0 1 (e.high k l) (upper-falls n e.cut k h),
)

-- there are such fractions, for every cut: the lower bound itself, and 0 past the table; and the upper one, and 1/2
unfoldable pub least : (n : ℕ) → 5 ≤ n → Exponential
least n h = record {
  cut = n;
  close = h;
  value = λ k. lower n k;
  low = λ k h. omega arith;
  high = λ k h. power-rises (series n) (doubled n) (series-plain n) (doubled-plain n) (more-low (series n) (term n) (term-plain n)) k;
  past = λ k. natural 0;
  past-low = λ k h. omega arith;
  past-high = λ k h. omega arith;
}

unfoldable pub greatest : (n : ℕ) → 5 ≤ n → Exponential
greatest n h = record {
  cut = n;
  close = h;
  value = λ k. upper n k;
  low = λ k h. power-rises (series n) (doubled n) (series-plain n) (doubled-plain n) (more-low (series n) (term n) (term-plain n)) k;
  high = λ k h. omega arith;
  past = λ k. ratio (pos 1) 2 (lit< tt);
  past-low = λ k h. omega arith;
  past-high = λ k h. omega arith;
}
