-- THE TABLE'S RULE (A.8): each entry is the whole number nearest to 65536 / (1 + e^(k/20)), for every exponential between the two bounds. Assumes nothing.
use mathlib.Core.Path.{◌≡◌, refl, ap}
use mathlib.Core.Bool.{Bool, ◌&&◌}
use Prim.Native.Nat.{ℕ, zero, suc, ◌+◌, ◌-◌, ◌*◌, ◌^◌, ◌≤◌, ◌<◌}
use native.Mathlib.Nat.{le_antisymm, mul-le-mul_left, mul-le-mul_right}
use native.Mathlib.Decide.{dec_le, dec_lt}
use native.Mathlib.Omega.{arith}
use lib.Dec.{T, ltb, ltb→lt, lit<, lit≤}
use Rattle.whole.specs.Fraction.{Fraction, natural, power, power-plain, ◌≤ᶠ◌, Within}
use Rattle.whole.proofs.Tests.{first, second}
use Rattle.whole.proofs.FractionLaws.{atmost-trans}
use Rattle.whole.proofs.PowerLaws.{power-rises, power-plus, power-under}
use Rattle.lists.proofs.EachLaws.{each, each_at}
use Rattle.blend.specs.Logistic.{logistic, weight_at}
use Rattle.blend.specs.Series.{term, series, lower, doubled, upper, series-plain, doubled-plain}
use Rattle.blend.specs.Exponential.{Exponential, not-below0, logistic_of, weight_by, exact_weight}
use Rattle.blend.proofs.LogisticLaws.{entries, past}
use Rattle.blend.proofs.Cuts.{later-cut}

-- w is the whole number nearest to x, less than 1/2 from it
pub record Nearest (w : ℕ) (x : Fraction) : Type 0 where
  pub low : 2 * w * x.under + 2 * x.minus < 2 * x.plus + x.under
  pub high : 2 * x.plus < (2 * w + 1) * x.under + 2 * x.minus

-- and there is no other
pub nearest-only : (v w : ℕ) (x : Fraction) → Nearest v x → Nearest w x → v ≡ w
nearest-only v w x h k = le_antisymm (below v w h k) (below w v k h)
  where
    below : (v w : ℕ) → Nearest v x → Nearest w x → v ≤ w
    below v w h k = elim (dec_le v w) [
      | yes l ↦ l
      | no l ↦ let g : suc w ≤ v = omega arith in absurd (let z : ⊥ = omega (arith, mul-le-mul_right x.under g) in z)
    ]

-- ---- the rule at both bounds, one test over the whole table

-- over 20⁵ 5!, the bounds of the series cut after x⁵/5! are 403688101, and one more with the last term twice
abbrev over : ℕ → Fraction
over a = record { plus = a; minus = 0; under = 384000000; proper = lit< tt }

at_lower : (k w : ℕ) → Bool
at_lower k w = ltb (131072 * 384000000 ^ k) ((2 * w + 1) * (384000000 ^ k + 403688101 ^ k))

at_upper : (k w : ℕ) → Bool
at_upper k w = ltb ((2 * w - 1) * (384000000 ^ k + 403688102 ^ k)) (131072 * 384000000 ^ k)

right : (k w : ℕ) → Bool
right k w = at_lower k w && at_upper k w

all_right : T (each right 0 logistic)
unfolding logistic right at_lower at_upper
all_right = tt

-- what a bound's test says of (p − m)/u between the bounds L/D and U/D; N is u + p − m
from_low : (K c D L u p m N : ℕ) → 0 < u → N + m ≡ u + p → K * D < c * (D + L) → L * u + m * D ≤ p * D → K * u < c * N
from_low K c D L u p m N l e h k = elim (dec_lt (K * u) (c * N)) [
  | yes g ↦ g
  | no g ↦ let f : c * N ≤ K * u = omega arith in absurd (let z : ⊥ = omega (arith, mul-le-mul_right D f, mul-le-mul_right u h, mul-le-mul_left c k, ap (λ (x : ℕ). c * D * x) e) in z)
]

from-high : (K c D U u p m N : ℕ) → 0 < u → N + m ≡ u + p → c * (D + U) < K * D → p * D ≤ U * u + m * D → c * N < K * u
from-high K c D U u p m N l e h k = elim (dec_lt (c * N) (K * u)) [
  | yes g ↦ g
  | no g ↦ let f : K * u ≤ c * N = omega arith in absurd (let z : ⊥ = omega (arith, mul-le-mul_right D f, mul-le-mul_right u h, mul-le-mul_left c k, ap (λ (x : ℕ). c * D * x) e) in z)
]

-- the two as `Nearest` has them, of 65536 / (1 + (p − m)/u)
abbrev Low : (w u N : ℕ) → Type 0
Low w u N = 2 * w * (1 * N) + 2 * (0 * (1 * u)) < 2 * (65536 * (1 * u)) + 1 * N

abbrev High : (w u N : ℕ) → Type 0
High w u N = 2 * (65536 * (1 * u)) < (2 * w + 1) * (1 * N) + 2 * (0 * (1 * u))

from-tests : (w u N : ℕ) → 131072 * u < (2 * w + 1) * N → (2 * w - 1) * N < 131072 * u → Low w u N × High w u N
from-tests zero u N h k = (omega arith, omega arith)
from-tests (suc w) u N h k = let e : 2 * suc w - 1 ≡ 2 * w + 1 = omega arith in (omega (arith, rw e at k), omega arith)

-- ---- the rule

module _ (e : Exponential) (k : ℕ) (h : k < 256) where
  abbrev x : Fraction
  x = e.value k

  above : power (over 403688101) k ≤ᶠ x
  unfolding series term
  above =
      atmost-trans (power (over 403688101) k) (lower 5 k) x 0 0 1 (power-rises (over 403688101) (series 5) refl (series-plain 5) (lit≤ tt) k)
      (later-cut e 5 e.close k h).0

  below : x ≤ᶠ power (over 403688102) k
  unfolding series term
  below =
      atmost-trans x (upper 5 k) (power (over 403688102) k) 0 0 1 (later-cut e 5 e.close k h).1
      (power-rises (doubled 5) (over 403688102) (doubled-plain 5) refl (lit≤ tt) k)

  -- the same without fractions
  low : 403688101 ^ k * x.under + x.minus * 384000000 ^ k ≤ x.plus * 384000000 ^ k
  low = omega (arith, rw (power-plain (over 403688101) refl k, power-plus (over 403688101) refl k, power-under (over 403688101) k) at above)

  high : x.plus * 384000000 ^ k ≤ 403688102 ^ k * x.under + x.minus * 384000000 ^ k
  high = omega (arith, rw (power-plain (over 403688102) refl k, power-plus (over 403688102) refl k, power-under (over 403688102) k) at below)

  -- the true logistic is 65536 u / N, with x = (p − m) / u and N = u + p − m
  abbrev N : ℕ
  N = 1 * x.under + x.plus * 1 - (0 * x.under + x.minus * 1)

  sum : N + x.minus ≡ x.under + x.plus
  sum = omega (arith, not-below0 e k h)

  -- u / N is below c / K if it is so at the lower bound, and above it if it is so at the upper one
  pub by-lower : (K c : ℕ) → K * 384000000 ^ k < c * (384000000 ^ k + 403688101 ^ k) → K * x.under < c * N
  by-lower K c t = from_low K c (384000000 ^ k) (403688101 ^ k) x.under x.plus x.minus N x.proper sum t low

  pub by-upper : (K c : ℕ) → c * (384000000 ^ k + 403688102 ^ k) < K * 384000000 ^ k → c * N < K * x.under
  by-upper K c t = from-high K c (384000000 ^ k) (403688102 ^ k) x.under x.plus x.minus N x.proper sum t high

  pub table-right : Nearest (weight_at k) (logistic_of e k h)
  unfolding logistic_of right at_lower at_upper
  table-right =
      let w = weight_at k in
      let test : T (at_lower k w && at_upper k w) = each_at right logistic all_right k (rw entries h) in
      let t = from-tests w x.under N (by-lower 131072 (2 * w + 1) (ltb→lt _ _ (first (at_lower k w) (at_upper k w) test))) (by-upper 131072 (2 * w - 1) (ltb→lt _ _ (second (at_lower k w) (at_upper k w) test))) in
      record { low = t.0; high = t.1 }

  near : Within (natural (weight_at k)) (logistic_of e k h) 1 2
  near = let r = table-right in record { low = omega arith; high = omega arith }

-- so each weight is within 1/2 of the true one, past the table too
pub weight-near : (e : Exponential) (k : ℕ) → Within (natural (weight_at k)) (exact_weight e k) 1 2
unfolding exact_weight
weight-near e k = by_place (dec_lt k 256)
  where
    by_place : (d : Dec (k < 256)) → Within (natural (weight_at k)) (weight_by e k d) 1 2
    by_place (yes h) = near e k h
    by_place (no h) = rw (past k (omega arith)) (record { low = omega (arith, e.past-low k (omega arith)); high = omega (arith, e.past-high k (omega arith)) })
