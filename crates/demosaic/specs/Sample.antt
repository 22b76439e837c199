-- The samples of the three planes at a pixel of a frame, in units of a sixteenth of a reading, by the whole-number rules. Assumes nothing.
use Rattle.std.specs.Prelude.{ℕ, ◌+◌, ◌*◌, cond, List, [], ◌∷◌, map, ℤ, pos, ◌+ℤ◌, ◌-ℤ◌, length}
use Rattle.lists.specs.Table.{table, joined}
use Rattle.bayer.specs.declared.colour.Colour.{Colour}
use Rattle.bayer.specs.declared.colour.Colour.TheVariants.{Red, Green, Blue}
use Rattle.bayer.specs.declared.frame.Frame.{Frame}
use Rattle.bayer.specs.Colour.{same}
use Rattle.bayer.specs.Mirror.{mirror}
use Rattle.bayer.specs.Mosaic.{Mosaic, continued, is_green}
use Rattle.green_rule.specs.Greens.{greens}
use Rattle.demosaic.specs.Fill.{colour_difference, sum_of, fill}

pub record Pixel : Type 0 where
  pub row : ℕ
  pub col : ℕ

module _ (f : Frame) where
  -- the pixel that the mirrors read
  abbrev pub inside : (i j : ℤ) → Pixel
  inside i j = record { row = mirror f.height i; col = mirror f.width j }

  -- the neighbours of a pixel; outside the frame, the pixels that their mirrors read
  abbrev pub diagonal : (i j : ℤ) → List Pixel
  diagonal i j = inside (i -ℤ pos 1) (j -ℤ pos 1) ∷ inside (i -ℤ pos 1) (j +ℤ pos 1) ∷ inside (i +ℤ pos 1) (j -ℤ pos 1) ∷ inside (i +ℤ pos 1) (j +ℤ pos 1) ∷ []

  abbrev pub in_row : (i j : ℤ) → List Pixel
  in_row i j = inside i (j -ℤ pos 1) ∷ inside i (j +ℤ pos 1) ∷ []

  abbrev pub in_column : (i j : ℤ) → List Pixel
  in_column i j = inside (i -ℤ pos 1) j ∷ inside (i +ℤ pos 1) j ∷ []

-- a pixel's reading
abbrev pub reading_of : Mosaic → Pixel → ℕ
reading_of m p = m.reading (pos p.row) (pos p.col)

-- the neighbours that colour k is filled from at row i and column j, a pixel of another colour:
-- at green the two in its row, if the right one has the colour (the left one then has it too: `neighbours-have-colour`), or else the two in its column; at the opposite colour the four diagonal ones
unfoldable pub neighbours : Frame → Mosaic → (k : Colour) (i j : ℤ) → List Pixel
neighbours f m k i j = cond (is_green m i j) (cond (same (m.colour i (j +ℤ pos 1)) k) (in_row f i j) (in_column f i j)) (diagonal f i j)

-- from any greens in units, G
module _ (f : Frame) (m : Mosaic) (G : (i j : ℤ) → ℕ) where
  abbrev pub colour_differences : List Pixel → List ℤ
  colour_differences l = map (λ p. colour_difference (G (pos p.row) (pos p.col)) (reading_of m p)) l

  -- red or blue, k: the observed sample at a pixel of the colour, and elsewhere filled from neighbours
  unfoldable pub other_from : (k : Colour) (i j : ℤ) → ℕ
  other_from k i j =
      cond (same (m.colour i j) k) (16 * m.reading i j)
      (fill (length (neighbours f m k i j)) (G i j) (sum_of (colour_differences (neighbours f m k i j))))

  -- plane k
  abbrev pub sample_from : (k : Colour) (i j : ℤ) → ℕ
  sample_from Red i j = other_from Red i j
  sample_from Green i j = G i j
  sample_from Blue i j = other_from Blue i j

-- plane k of a frame at row i and column j, with the frame's greens, from the frame's rows from row `first` on
unfoldable pub sample : Frame → (first : ℕ) (rows : List ℕ) (k : Colour) (i j : ℕ) → ℕ
sample f first rows k i j = sample_from f (continued f first rows) (greens f first rows) k (pos i) (pos j)

-- rows a to a + n − 1 of it
unfoldable pub plane_rows : Frame → (first : ℕ) (rows : List ℕ) (a n : ℕ) (k : Colour) → List ℕ
plane_rows f first rows a n k = joined (λ i. table (λ j. sample f first rows k (a + i) j) f.width) n

-- those rows of the whole frame, and all of its rows
abbrev pub frame_rows : Frame → (readings : List ℕ) (a n : ℕ) (k : Colour) → List ℕ
frame_rows f readings a n k = plane_rows f 0 readings a n k

abbrev pub frame_plane : Frame → (readings : List ℕ) (k : Colour) → List ℕ
frame_plane f readings k = frame_rows f readings 0 f.height k
