-- The sharp error of green at every place of a continued mosaic whose readings are at most 4095: 1/2 + 393120 / K. Assumes nothing.
use mathlib.Core.Path.{refl}
use mathlib.Core.List.{List, [], ◌∷◌}
use mathlib.Core.Bool.{Bool}
use Prim.Native.Nat.{ℕ, ◌+◌, ◌*◌, ◌≤◌, ◌<◌}
use native.Mathlib.Omega.{arith}
use lib.IntN.{ℤ, pos, nat_abs, sub_ℕ, ◌+ℤ◌, ◌-ℤ◌}
use Rattle.whole.specs.Fraction.{Fraction, ratio, natural, Within, Same}
use Rattle.whole.proofs.Distance.{is-quotient}
use Rattle.whole.proofs.FractionLaws.{within_same, within_wider, within-cond}
use Rattle.bayer.specs.Mosaic.{Mosaic, is_green}
use Rattle.gbtf.specs.Bounds.{most_difference, most_plain_gradient, most_gradient, most_sum}
use Rattle.gbtf.specs.Direction.{direction_sum, total}
use Rattle.gbtf.specs.GreenAt.{difference_along, plain_gradient_along, gradient_along, DH, DV, GH, GV, window, east, west, north, south, green_at, exact_green_at}
use Rattle.gbtf.proofs.PixelBounds.{difference-within, plain-gradient-within, gradient-within, direction-sum-within, five-sum-within}
use Rattle.gbtf.proofs.GreenError.{green-within}

-- g units are within 1/2 + 393120 / K of G
abbrev pub WithinSharp : (K g : ℕ) → Fraction → Type 0
WithinSharp K g G = Within (natural g) G (K + 786240) (2 * K)

pub exact-sharp : (K n : ℕ) → WithinSharp K n (natural n)
exact-sharp K n = within_wider {b = 1} (K + 786240) (2 * K) (omega arith) (omega arith) (within_same {x = natural n} {y = natural n} 1 refl)

-- along a line of readings, in a row or in a column
along-bound : (green : ℤ → Bool) (x : ℤ → ℕ) → ((k : ℤ) → x k ≤ 4095) → (k : ℤ) → nat_abs (difference_along green x k) ≤ most_difference
along-bound green x range k = difference-within (green k) (record { centre = range _; left = range _; right = range _; second = range _; other = range _ })

gradient-bound : (D : ℤ → ℤ) → ((k : ℤ) → nat_abs (D k) ≤ most_difference) → (k : ℤ) → gradient_along D k ≤ most_gradient
gradient-bound D h k = gradient-within (plain (k -ℤ pos 1)) (plain k) (plain (k +ℤ pos 1))
  where
    plain : (k : ℤ) → plain_gradient_along D k ≤ most_plain_gradient
    plain k = plain-gradient-within (D (k -ℤ pos 1)) (D (k +ℤ pos 1)) (h (k -ℤ pos 1)) (h (k +ℤ pos 1))

sum_bound : (G : ℤ → ℤ → ℕ) → ((i j : ℤ) → G i j ≤ most_gradient) → (i j : ℤ) → direction_sum (window G i j) ≤ most_sum
sum_bound G h i j = direction-sum-within (h _ _) (h _ _) (h _ _) (h _ _) (h _ _) (h _ _) (h _ _) (h _ _) (h _ _)

module _ (m : Mosaic) (range : (i j : ℤ) → m.reading i j ≤ 4095) where
  pub DH-bound : (i j : ℤ) → nat_abs (DH m i j) ≤ most_difference
  unfolding DH
  DH-bound i j = along-bound (λ k. is_green m i k) (λ k. m.reading i k) (λ k. range i k) j

  pub DV-bound : (i j : ℤ) → nat_abs (DV m i j) ≤ most_difference
  unfolding DV
  DV-bound i j = along-bound (λ k. is_green m k j) (λ k. m.reading k j) (λ k. range k j) i

  GH-bound : (i j : ℤ) → GH m i j ≤ most_gradient
  unfolding GH
  GH-bound i j = gradient-bound (λ k. DH m i k) (λ k. DH-bound i k) j

  GV-bound : (i j : ℤ) → GV m i j ≤ most_gradient
  unfolding GV
  GV-bound i j = gradient-bound (λ k. DV m k j) (λ k. DV-bound k j) i

  -- of each direction
  pub direction-sums-bound : (ws : List ℕ) (i j : ℤ) → ((east ws m i j).sum ≤ most_sum) × ((west ws m i j).sum ≤ most_sum) × ((north ws m i j).sum ≤ most_sum) × ((south ws m i j).sum ≤ most_sum)
  direction-sums-bound ws i j = (sum_bound (GH m) GH-bound _ _, sum_bound (GH m) GH-bound _ _, sum_bound (GV m) GV-bound _ _, sum_bound (GV m) GV-bound _ _)

  pub green_at-sharp : (ws : List ℕ) (hT : 0 < total ws) (K : ℕ) → 0 < K → (i j : ℤ) → WithinSharp K (green_at ws m i j K) (exact_green_at ws m i j hT)
  unfolding green_at exact_green_at
  green_at-sharp ws hT K hK i j =
      within-cond (is_green m i j) (exact-sharp K (16 * m.reading i j))
      (green-within K (total ws) (m.reading i j) hK hT most_difference (east ws m i j) (west ws m i j ∷ north ws m i j ∷ south ws m i j ∷ []) (
        five-sum-within ws (λ k. DH m i (j +ℤ pos k)) (λ k. DH-bound i (j +ℤ pos k)),
        (
          five-sum-within ws (λ k. DH m i (j -ℤ pos k)) (λ k. DH-bound i (j -ℤ pos k)),
          (
            five-sum-within ws (λ k. DV m (i -ℤ pos k) j) (λ k. DV-bound (i -ℤ pos k) j),
            (five-sum-within ws (λ k. DV m (i +ℤ pos k) j) (λ k. DV-bound (i +ℤ pos k) j), tt),
          ),
        ),
      ))

-- exact green is a quotient of whole numbers, the lower above 0
pub exact_green-quotient : (ws : List ℕ) (m : Mosaic) (i j : ℤ) (hT : 0 < total ws) → (z : ℤ) × (d : ℕ) × (h : 0 < d) × Same (exact_green_at ws m i j hT) (ratio z d h)
exact_green-quotient ws m i j hT = let x = exact_green_at ws m i j hT in (sub_ℕ x.plus x.minus, x.under, x.proper, is-quotient x)
