-- Green over a continued mosaic: differences, gradients and windows along each axis, and the four directions. Assumes nothing.
use Rattle.std.specs.Prelude.{ℕ, ◌+◌, ◌*◌, ◌<◌, Bool, cond, List, [], ◌∷◌, ℤ, pos, ◌+ℤ◌, ◌-ℤ◌}
use Rattle.whole.specs.Fraction.{Fraction, natural}
use Rattle.bayer.specs.Mosaic.{Mosaic, is_green}
use Rattle.gbtf.specs.declared.direction.Direction.{Direction}
use Rattle.gbtf.specs.Difference.{difference, plain_gradient}
use Rattle.gbtf.specs.Direction.{direction_sum, five_sum, total, direction}
use Rattle.gbtf.specs.Fusion.{green}
use Rattle.gbtf.specs.Exact.{exact_green}

-- along a line of positions, of which some are green: the difference at position k
abbrev pub difference_along : (green : ℤ → Bool) (x : ℤ → ℕ) → ℤ → ℤ
difference_along green x k = difference (green k) (x k) (x (k -ℤ pos 1)) (x (k +ℤ pos 1)) (x (k -ℤ pos 2)) (x (k +ℤ pos 2))

-- the plain gradient, from the differences along the line
abbrev pub plain_gradient_along : (D : ℤ → ℤ) → ℤ → ℕ
plain_gradient_along D k = plain_gradient (D (k -ℤ pos 1)) (D (k +ℤ pos 1))

-- and a pixel's gradient, as the authors' code has it: the sum of three plain ones, at the pixel and its two neighbours along the line (source 000, equations 35 and 36; its Algorithm 3 prints the sum across, and document 02 decides)
abbrev pub gradient_along : (D : ℤ → ℤ) → ℤ → ℕ
gradient_along D k = plain_gradient_along D (k -ℤ pos 1) + plain_gradient_along D k + plain_gradient_along D (k +ℤ pos 1)

module _ (m : Mosaic) where
  -- along a row
  unfoldable pub DH : (i j : ℤ) → ℤ
  DH i j = difference_along (λ k. is_green m i k) (λ k. m.reading i k) j

  unfoldable pub GH : (i j : ℤ) → ℕ
  GH i j = gradient_along (λ k. DH i k) j

  -- along a column
  unfoldable pub DV : (i j : ℤ) → ℤ
  DV i j = difference_along (λ k. is_green m k j) (λ k. m.reading k j) i

  unfoldable pub GV : (i j : ℤ) → ℕ
  GV i j = gradient_along (λ k. DV k j) i

-- the window of gradients from row i and column j on
abbrev pub three_from : (ℤ → ℕ) → ℤ → List ℕ
three_from G j = G j ∷ G (j +ℤ pos 1) ∷ G (j +ℤ pos 2) ∷ []

abbrev pub window : (G : ℤ → ℤ → ℕ) (i j : ℤ) → List (List ℕ)
window G i j = three_from (G i) j ∷ three_from (G (i +ℤ pos 1)) j ∷ three_from (G (i +ℤ pos 2)) j ∷ []

-- the four directions. Source 004's equation 9 prints the five-sums of east and west crossed; source 000, equation 31, decides
module _ (ws : List ℕ) (m : Mosaic) (i j : ℤ) where
  abbrev pub east : Direction
  east = direction (five_sum ws (λ k. DH m i (j +ℤ pos k))) (direction_sum (window (GH m) (i -ℤ pos 1) j))

  abbrev pub west : Direction
  west = direction (five_sum ws (λ k. DH m i (j -ℤ pos k))) (direction_sum (window (GH m) (i -ℤ pos 1) (j -ℤ pos 2)))

  abbrev pub north : Direction
  north = direction (five_sum ws (λ k. DV m (i -ℤ pos k) j)) (direction_sum (window (GV m) (i -ℤ pos 2) (j -ℤ pos 1)))

  abbrev pub south : Direction
  south = direction (five_sum ws (λ k. DV m (i +ℤ pos k) j)) (direction_sum (window (GV m) i (j -ℤ pos 1)))

  -- green in units, at share scale K
  unfoldable pub green_at : (K : ℕ) → ℕ
  green_at K = cond (is_green m i j) (16 * m.reading i j) (green K (total ws) (m.reading i j) east (west ∷ north ∷ south ∷ []))

  unfoldable pub exact_green_at : 0 < total ws → Fraction
  exact_green_at h = cond (is_green m i j) (natural (16 * m.reading i j)) (exact_green (total ws) (m.reading i j) h east (west ∷ north ∷ south ∷ []))
