-- The sums of the four directions, as the passes over a row work them out and leave them. Assumes nothing.
use Prim.Native.Nat.{ℕ, zero, suc, ◌+◌, ◌-◌, ◌*◌, ◌/◌, ◌≤◌, ◌<◌}
use mathlib.Core.List.{List, [], ◌∷◌}
use mathlib.Core.Path.{◌≡◌, refl, ap, ap₂, ◌∙◌}
use native.Mathlib.Nat.{le_trans, le_of_eq}
use native.Mathlib.Omega.{arith}
use lib.Dec.{lit≤}
use lib.IntN.{ℤ, pos, nat_abs, ◌+ℤ◌, ◌*ℤ◌}
use lib.ListN.{length, get_or}
use Rattle.whole.specs.Clamp.{clamp}
use Rattle.whole.proofs.Pairs.{anyₚ, ◌+ₚ◌, eq-by}
use Rattle.lists.specs.Table.{table, joined}
use Rattle.lists.specs.Bound.{AllAtMost, AllWithin}
use Rattle.lists.proofs.TableLaws.{length-table, table_same, table-all, get_or-table}
use Rattle.lists.proofs.JoinedLaws.{parts, get_or-parts}
use Rattle.lists.proofs.BoundLaws.{all-parts}
use Rattle.bayer.specs.Parity.{is_odd}
use Rattle.bayer.proofs.ParityLaws.{odd-by}
use Rattle.half_rows.proofs.HalfLaws.{choice-same}
use Rattle.gbtf.specs.Bounds.{most_difference, most_gradient, most_sum}
use Rattle.gbtf.specs.Difference.{turned}
use Rattle.gbtf.specs.Direction.{direction_sum, alternating, five_sum, total, direction}
use Rattle.gbtf.specs.Fusion.{fused}
use Rattle.gbtf.specs.Machine.{Fitting}
use Rattle.gbtf.specs.Weights.{scale}
use Rattle.fusion.proofs.FusedBound.{fused-within}
use Rattle.gbtf.proofs.PixelBounds.{five-sum-within}
use Rattle.gbtf.proofs.Signs.{abs-turned}
use Rattle.gbtf.proofs.GreenLocal.{five-sum-same}
use Rattle.green_row.specs.Directions.{window_in, after, before, reversed, five_in, direction_in, direction_from}
use Rattle.green_row.specs.Buffers.{InRange}
use Rattle.green_row.specs.GreenIn.{fused_by, green_by, green_in}
use Rattle.green_row.proofs.BufferBounds.{window-at-most}

-- the same place, named otherwise
pub five-after : (ws : List ℕ) (step : ℕ) (d : List ℤ) {p q : ℕ} → p ≡ q → five_sum ws (alternating (after step d p)) ≡ five_sum ws (alternating (after step d q))
five-after ws step d e = ap (λ p. five_sum ws (alternating (after step d p))) e

pub five-before : (ws : List ℕ) (step : ℕ) (d : List ℤ) {p q : ℕ} → p ≡ q → five_sum ws (alternating (before step d p)) ≡ five_sum ws (alternating (before step d q))
five-before ws step d e = ap (λ p. five_sum ws (alternating (before step d p))) e

-- the other way round
backwards : (ws : List ℕ) (D : ℕ → ℤ) → five_sum (reversed ws) D ≡ five_sum ws (λ k. D (4 - k))
backwards ws D =
    let a : ℕ → ℤ = λ k. pos (get_or ws k 0) *ℤ D (4 - k) in
    eq-by (anyₚ (a 4) +ₚ anyₚ (a 3) +ₚ anyₚ (a 2) +ₚ anyₚ (a 1) +ₚ anyₚ (a 0)) (anyₚ (a 0) +ₚ anyₚ (a 1) +ₚ anyₚ (a 2) +ₚ anyₚ (a 3) +ₚ anyₚ (a 4)) (omega arith)

pub five-reversed : (ws : List ℕ) {back : List ℕ} (step : ℕ) (d : List ℤ) (p q : ℕ) → back ≡ reversed ws → p + 4 * step ≡ q → five_sum back (alternating (after step d p)) ≡ five_sum ws (alternating (before step d q))
five-reversed ws step d p q r e = rw r (backwards ws (alternating (after step d p)) ∙ five-sum-same ws (λ k. alternating (after step d p) (4 - k)) (alternating (before step d q)) at)
  where
    at : (k : ℕ) → k ≤ 4 → alternating (after step d p) (4 - k) ≡ alternating (before step d q) k
    at k l =
        let i : 4 ≡ (4 - k) + k = omega arith in
        let m : p + (4 - k) * step ≡ q - k * step = omega (arith, ap (λ n. n * step) i) in
        ap₂ turned (odd-by (4 - k) k (omega arith)) (ap (λ n. get_or d n (pos 0)) m)

-- ---- a row of readings x, whose n red and blue pixels are at the columns odd, odd + 2, ..: its direction sums and five-sums, what fusion adds, and green from that
module _ (ws : List ℕ) (s odd n : ℕ) (dh dv : List ℤ) (gh : List ℕ) where
  abbrev pub sums : List ℕ
  sums = table (λ k. direction_sum (window_in s gh (3 + odd + 2 * k))) (n + 1)

  abbrev five_at : ℕ → ℕ → ℤ
  five_at k i = five_in ws s dh dv k (2 * i + odd)

  abbrev pub fives : List ℤ
  fives = joined (parts five_at n) 4

  sums-at-most : AllAtMost most_gradient gh → AllAtMost most_sum sums
  sums-at-most a = table-all (λ m. m ≤ most_sum) _ (n + 1) (omega arith) (λ k _. window-at-most gh s (3 + odd + 2 * k) a)

  fives-within : AllWithin most_difference dh → AllWithin most_difference dv → AllWithin (32767 * total ws) fives
  fives-within a b = all-parts (λ z. nat_abs z ≤ 32767 * total ws) (pos 0) (omega arith) five_at n 4 (λ k i _ _. le_trans (within k (2 * i + odd)) (omega arith))
    where
      sign : (d : List ℤ) → AllWithin most_difference d → (k p : ℕ) → nat_abs (turned (is_odd k) (get_or d p (pos 0))) ≤ most_difference
      sign d c k p = le_trans (le_of_eq (abs-turned (is_odd k) (get_or d p (pos 0)))) (c p)

      within : (k j : ℕ) → nat_abs (five_in ws s dh dv k j) ≤ total ws * most_difference
      within zero j = five-sum-within ws (alternating (after 1 dh (s + (j + 7)))) (λ i. sign dh a i _)
      within (suc zero) j = five-sum-within ws (alternating (before 1 dh (s + (j + 7)))) (λ i. sign dh a i _)
      within (suc (suc zero)) j = five-sum-within ws (alternating (before s dv (4 * s + (j + 7)))) (λ i. sign dv b i _)
      within (suc (suc (suc k))) j = five-sum-within ws (alternating (after s dv (4 * s + (j + 7)))) (λ i. sign dv b i _)

  -- as lists and totals that are these
  pub sums-fit : {t : List ℕ} → t ≡ sums → AllAtMost most_gradient gh → AllAtMost most_sum t
  sums-fit e a = rw e (sums-at-most a)

  pub fives-fit : {T : ℕ} {f : List ℤ} → T ≡ total ws → f ≡ fives → AllWithin most_difference dh → AllWithin most_difference dv → AllWithin (32767 * T) f
  fives-fit p e a b = rw (p, e) (fives-within a b)

  module _ (bit : odd < 2) (h : ℕ) (tv : List ℕ) where
    -- pixel i is at column 2 i + odd
    direction-at : (i k : ℕ) → i < n → direction_from n h sums tv fives i k ≡ direction_in ws s h dh dv gh tv (2 * i + odd) k
    direction-at i zero l =
        ap₂ direction
        ((let e : i ≡ 0 * n + i = omega arith in ap (λ p. get_or fives p (pos 0)) e) ∙ get_or-parts five_at n 4 0 i (pos 0) (lit≤ tt) l)
        (get_or-table _ (n + 1) (i + 1) 0 (omega arith) ∙ (let e : 3 + odd + 2 * (i + 1) ≡ 2 * i + odd + 5 = omega arith in ap (λ p. direction_sum (window_in s gh p)) e))
    direction-at i (suc zero) l =
        ap₂ direction
        ((let e : n + i ≡ 1 * n + i = omega arith in ap (λ p. get_or fives p (pos 0)) e) ∙ get_or-parts five_at n 4 1 i (pos 0) (lit≤ tt) l)
        (get_or-table _ (n + 1) i 0 (omega arith) ∙ (let e : 3 + odd + 2 * i ≡ 2 * i + odd + 3 = omega arith in ap (λ p. direction_sum (window_in s gh p)) e))
    direction-at i (suc (suc zero)) l = ap₂ direction (get_or-parts five_at n 4 2 i (pos 0) (lit≤ tt) l) (let e : i ≡ (2 * i + odd) / 2 = omega arith in ap (λ p. get_or tv p 0) e)
    direction-at i (suc (suc (suc k))) l = ap₂ direction (get_or-parts five_at n 4 3 i (pos 0) (lit≤ tt) l) (let e : i ≡ (2 * i + odd) / 2 = omega arith in ap (λ p. get_or tv (2 * h + p) 0) e)

    -- what fusion adds at each of them, for a share scale K
    abbrev pub added : (K : ℕ) → List ℤ
    added K = table (λ i. fused_by K (total ws) (direction_in ws s h dh dv gh tv (2 * i + odd))) n

    -- and that from the lists and the total that are these
    pub added-is : (K : ℕ) {T : ℕ} {t : List ℕ} {f r : List ℤ} → T ≡ total ws → t ≡ sums → f ≡ fives → r ≡ table (λ i. fused_by K T (direction_from n h t tv f i)) n → r ≡ added K
    unfolding fused_by
    added-is K p q d a =
        rw (a, d, q, p)
        (table_same _ _ n (λ i l. λ t. fused K (total ws) (direction-at i 0 l t) (direction-at i 1 l t ∷ direction-at i 2 l t ∷ direction-at i 3 l t ∷ [])))

    -- for the rules' own share scale it is as small as the clamp takes it
    module _ {T : ℕ} {t : List ℕ} {f r : List ℤ} (p : T ≡ total ws) (q : t ≡ sums) (d : f ≡ fives) (a : r ≡ table (λ i. fused_by scale T (direction_from n h t tv f i)) n) where
      pub added-within : 0 < total ws → InRange dh dv gh tv → AllWithin 131072 r
      unfolding fused_by
      added-within above b =
          rw (a, d, q, p)
          (table-all (λ z. nat_abs z ≤ 131072) _ n (omega arith)
          (λ i _. fused-within (total ws) _ _ _ _ above (fits i (s-small (i + 1))) (fits (n + i) (s-small i)) (fits (2 * n + i) (b.tv-within i)) (fits (3 * n + i) (b.tv-within (2 * h + i)))))
        where
          s-small : AllAtMost most_sum sums
          s-small = sums-at-most b.gh-within

          fits : (p : ℕ) {t : ℕ} → t ≤ most_sum → Fitting (total ws) (direction (get_or fives p (pos 0)) t)
          fits p l = record { five = fives-within b.dh-within b.dv-within p; sum = l }

      -- as many numbers, each as small
      pub added-fit : 0 < total ws → AllWithin most_difference dh → AllWithin most_difference dv → AllAtMost most_gradient gh → AllAtMost most_sum tv → (length r ≡ n) × (AllWithin 131072 r)
      added-fit above b c g l = (rw a (length-table _ n), added-within above (record { dh-within = b; dv-within = c; gh-within = g; tv-within = l }))

-- green of a row of readings x, from what fusion adds at its red and blue pixels
pub row-from-added : (K : ℕ) (ws : List ℕ) (s odd : ℕ) (x : List ℕ) (dh dv : List ℤ) (gh tv : List ℕ) (bit : odd < 2) {n : ℕ} {r : List ℤ} → n ≡ (length x + 1 - odd) / 2 → r ≡ added ws s odd n dh dv gh bit ((length x + 1) / 2) tv K
    → table (green_by odd x (λ j. get_or r (j / 2) (pos 0))) (length x) ≡ table (green_in K ws s odd x dh dv gh tv) (length x)
unfolding green_in
row-from-added K ws s odd x dh dv gh tv bit {n} e a =
    rw a
    (table_same _ _ (length x)
    (λ j l. choice-same (j + odd) (λ _. refl)
    (λ red. ap (λ z. clamp (pos (16 * get_or x j 0) +ℤ z))
    (get_or-table _ n (j / 2) (pos 0) (omega arith)
    ∙ (let m : 2 * (j / 2) + odd ≡ j = omega arith in ap (λ i. fused_by K (total ws) (direction_in ws s ((length x + 1) / 2) dh dv gh tv i)) m)))))
