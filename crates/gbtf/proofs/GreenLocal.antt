-- Green, and exact green, of a row that is at most one row away from row i depend on rows i − 7 to i + 7 of the continued mosaic only:
-- two mosaics that agree on these rows have the same. Assumes nothing.
use mathlib.Core.Path.{◌≡◌, ap, ap₂}
use mathlib.Core.List.{List, [], ◌∷◌}
use mathlib.Core.Bool.{cond}
use Prim.Native.Nat.{ℕ, ◌+◌, ◌*◌, ◌≤◌, ◌<◌}
use native.Mathlib.Omega.{arith}
use lib.Dec.{lit≤}
use lib.IntN.{ℤ, pos, ◌+ℤ◌, ◌-ℤ◌}
use Rattle.whole.specs.Fraction.{natural}
use Rattle.bayer.specs.declared.colour.Colour.{Colour}
use Rattle.bayer.specs.Mosaic.{Mosaic, is_green}
use Rattle.bayer.proofs.Near.{Near, wider, plus, minus, back}
use Rattle.gbtf.specs.Difference.{difference, plain_gradient}
use Rattle.gbtf.specs.Direction.{direction_sum, five_sum, total, direction}
use Rattle.gbtf.specs.Fusion.{green}
use Rattle.gbtf.specs.Exact.{exact_green}
use Rattle.gbtf.specs.GreenAt.{plain_gradient_along, gradient_along, DH, DV, GH, GV, three_from, window, east, west, north, south, green_at, exact_green_at}

-- five-sums of differences that are the same
pub five-sum-same : (ws : List ℕ) (D E : ℕ → ℤ) → ((k : ℕ) → k ≤ 4 → D k ≡ E k) → five_sum ws D ≡ five_sum ws E
five-sum-same ws D E h = rw (h 0 (lit≤ tt), h 1 (lit≤ tt), h 2 (lit≤ tt), h 3 (lit≤ tt), h 4 (lit≤ tt))

-- windows whose three rows are the same
window_same : (G F : ℤ → ℤ → ℕ) (i j : ℤ) → G i ≡ F i → G (i +ℤ pos 1) ≡ F (i +ℤ pos 1) → G (i +ℤ pos 2) ≡ F (i +ℤ pos 2) → direction_sum (window G i j) ≡ direction_sum (window F i j)
window_same G F i j p q r = λ t. direction_sum (three_from (p t) j ∷ three_from (q t) j ∷ three_from (r t) j ∷ [])

module _ (colour : ℤ → ℤ → Colour) (m n : ℤ → ℤ → ℕ) (i : ℤ) (agree : (r : ℤ) → Near 7 i r → m r ≡ n r) where
  abbrev x : Mosaic
  x = record { reading = m; colour = colour }

  abbrev y : Mosaic
  y = record { reading = n; colour = colour }

  DH-same : (r : ℤ) → Near 7 i r → DH x r ≡ DH y r
  unfolding DH
  DH-same r h = λ t j. difference (is_green x r j) (agree r h t j) (agree r h t (j -ℤ pos 1)) (agree r h t (j +ℤ pos 1)) (agree r h t (j -ℤ pos 2)) (agree r h t (j +ℤ pos 2))

  DV-same : (r : ℤ) → Near 5 i r → DV x r ≡ DV y r
  unfolding DV
  DV-same r h =
      λ t j. difference (is_green x r j) (agree r (wider 7 r h (lit≤ tt)) t j) (agree (r -ℤ pos 1) (minus 7 1 r h (lit≤ tt)) t j) (agree (r +ℤ pos 1) (plus 7 1 r h (lit≤ tt)) t j)
      (agree (r -ℤ pos 2) (minus 7 2 r h (lit≤ tt)) t j) (agree (r +ℤ pos 2) (plus 7 2 r h (lit≤ tt)) t j)

  GH-same : (r : ℤ) → Near 7 i r → GH x r ≡ GH y r
  unfolding GH
  GH-same r h = λ t j. gradient_along (DH-same r h t) j

  plain-same : (r : ℤ) → Near 4 i r → (j : ℤ) → plain_gradient_along (λ k. DV x k j) r ≡ plain_gradient_along (λ k. DV y k j) r
  plain-same r h j = λ t. plain_gradient (DV-same (r -ℤ pos 1) (minus 5 1 r h (lit≤ tt)) t j) (DV-same (r +ℤ pos 1) (plus 5 1 r h (lit≤ tt)) t j)

  GV-same : (r : ℤ) → Near 3 i r → GV x r ≡ GV y r
  unfolding GV
  GV-same r h = λ t j. plain-same (r -ℤ pos 1) (minus 4 1 r h (lit≤ tt)) j t + plain-same r (wider 4 r h (lit≤ tt)) j t + plain-same (r +ℤ pos 1) (plus 4 1 r h (lit≤ tt)) j t

  module _ (ws : List ℕ) (r : ℤ) (h : Near 1 i r) (j : ℤ) where
    -- the gradients along rows r − 1 to r + 1, from any column on
    GH-window-same : (k : ℤ) → direction_sum (window (GH x) (r -ℤ pos 1) k) ≡ direction_sum (window (GH y) (r -ℤ pos 1) k)
    GH-window-same k = window_same (GH x) (GH y) (r -ℤ pos 1) k (GH-same _ (minus 7 1 r h (lit≤ tt))) (GH-same _ (back 7 1 1 r h (lit≤ tt) (lit≤ tt))) (GH-same _ (back 7 1 2 r h (lit≤ tt) (lit≤ tt)))

    east-same : east ws x r j ≡ east ws y r j
    east-same = ap₂ direction (five-sum-same ws _ _ (λ k l. ap (λ D. D (j +ℤ pos k)) (DH-same r (wider 7 r h (lit≤ tt))))) (GH-window-same j)

    west-same : west ws x r j ≡ west ws y r j
    west-same = ap₂ direction (five-sum-same ws _ _ (λ k l. ap (λ D. D (j -ℤ pos k)) (DH-same r (wider 7 r h (lit≤ tt))))) (GH-window-same (j -ℤ pos 2))

    north-same : north ws x r j ≡ north ws y r j
    north-same = ap₂ direction
        (five-sum-same ws _ _ (λ k l. ap (λ D. D j) (DV-same (r -ℤ pos k) (minus 5 k r h (omega arith)))))
        (window_same (GV x) (GV y) (r -ℤ pos 2) (j -ℤ pos 1) (GV-same _ (minus 3 2 r h (lit≤ tt))) (GV-same _ (back 3 2 1 r h (lit≤ tt) (lit≤ tt))) (GV-same _ (back 3 2 2 r h (lit≤ tt) (lit≤ tt))))

    south-same : south ws x r j ≡ south ws y r j
    south-same = ap₂ direction
        (five-sum-same ws _ _ (λ k l. ap (λ D. D j) (DV-same (r +ℤ pos k) (plus 5 k r h (omega arith)))))
        (window_same (GV x) (GV y) r (j -ℤ pos 1) (GV-same _ (wider 3 r h (lit≤ tt))) (GV-same _ (plus 3 1 r h (lit≤ tt))) (GV-same _ (plus 3 2 r h (lit≤ tt))))

    reading-same : m r j ≡ n r j
    reading-same = ap (λ f. f j) (agree r (wider 7 r h (lit≤ tt)))

    pub green_at-same : (K : ℕ) → green_at ws x r j K ≡ green_at ws y r j K
    unfolding green_at
    green_at-same K = λ t. cond (is_green x r j) (16 * reading-same t) (green K (total ws) (reading-same t) (east-same t) (west-same t ∷ north-same t ∷ south-same t ∷ []))

    pub exact_green_at-same : (hT : 0 < total ws) → exact_green_at ws x r j hT ≡ exact_green_at ws y r j hT
    unfolding exact_green_at
    exact_green_at-same hT = λ t. cond (is_green x r j) (natural (16 * reading-same t)) (exact_green (total ws) (reading-same t) hT (east-same t) (west-same t ∷ north-same t ∷ south-same t ∷ []))
