-- The colour differences of a row as a list, and what is filled in from such lists. Assumes nothing.
use Rattle.std.specs.Prelude.{ℕ, ◌+◌, ◌-◌, ◌*◌, ◌/◌, ◌≡◌, min, cond, List, [], ◌∷◌, ℤ, pos, length, get_or}
use Rattle.lists.specs.Table.{table}
use Rattle.lists.specs.Bound.{AllWithin}
use Rattle.bayer.specs.Parity.{is_odd}
use Rattle.half_rows.specs.HalfRow.{pixels}
use Rattle.demosaic.specs.Fill.{sum_of, fill}
use Rattle.fill_rows.specs.FillRow.{colour_difference_at}

-- how many places the list of a row w wide has, whether its red or blue pixels start at column 0 or at column 1
abbrev pub places : (w : ℕ) → ℕ
places w = (w + 1) / 2 + 2

-- a list of colour differences of a row w wide, of the length and in the range that they have
pub record Differences (w : ℕ) (e : List ℤ) : Type 0 where
  pub long : length e ≡ places w
  pub range : AllWithin 1048560 e

-- the colour differences at those pixels, at the columns side, side + 2, .., from left to right: pixel k stands at place k + 1, and the first and the last stand once more, at the ends.
-- Where the row has a pixel less on this side than on the other (an odd width, side 1), the last stands a third time.
unfoldable pub edged : (w side : ℕ) (x g : List ℕ) → List ℤ
edged w side x g = table (λ k. colour_difference_at x g (2 * min (k - 1) (pixels w side - 1) + side)) (places w)

-- place k of a half row from every second green, filled from place k of two lists of differences, or from places k and k + 1 of two
unfoldable pub pair_in : (g : List ℕ) (a b : List ℤ) (k : ℕ) → ℕ
pair_in g a b k = fill 2 (get_or g (2 * k) 0) (sum_of (get_or a k (pos 0) ∷ get_or b k (pos 0) ∷ []))

unfoldable pub diagonal_in : (g : List ℕ) (a b : List ℤ) (k : ℕ) → ℕ
diagonal_in g a b k = fill 4 (get_or g (2 * k) 0) (sum_of (get_or a k (pos 0) ∷ get_or a (k + 1) (pos 0) ∷ get_or b k (pos 0) ∷ get_or b (k + 1) (pos 0) ∷ []))

-- `own_in` from the row's list, and `other_in` from those of the rows above and below
unfoldable pub own_edged : (odd : ℕ) (x g : List ℕ) (e : List ℤ) (j : ℕ) → ℕ
own_edged odd x g e j =
    cond (is_odd (j + odd)) (fill 2 (get_or g j 0) (sum_of (get_or e ((j + 1 - odd) / 2) (pos 0) ∷ get_or e ((j + 1 - odd) / 2 + 1) (pos 0) ∷ []))) (16 * get_or x j 0)

unfoldable pub other_edged : (odd : ℕ) (g : List ℕ) (above below : List ℤ) (j : ℕ) → ℕ
other_edged odd g above below j =
    cond (is_odd (j + odd)) (fill 2 (get_or g j 0) (sum_of (get_or above (j / 2 + 1) (pos 0) ∷ get_or below (j / 2 + 1) (pos 0) ∷ [])))
    (fill 4 (get_or g j 0) (sum_of (get_or above ((j + odd) / 2) (pos 0) ∷ get_or above ((j + odd) / 2 + 1) (pos 0) ∷ get_or below ((j + odd) / 2) (pos 0) ∷ get_or below ((j + odd) / 2 + 1) (pos 0) ∷ [])))
