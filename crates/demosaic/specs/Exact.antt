-- The exact reconstruction of a frame: exact green, and the exact form of red and blue over it. Fractions; nothing is rounded. Assumes nothing.
use Rattle.std.specs.Prelude.{ℕ, suc, ◌*◌, cond, List, [], ◌∷◌, map, ℤ, pos, length}
use Rattle.std.proofs.Common.{zero-lt-suc}
use Rattle.whole.specs.Fraction.{Fraction, natural, ◌+ᶠ◌, ◌-ᶠ◌, divided_by, clampᶠ}
use Rattle.bayer.specs.declared.colour.Colour.{Colour}
use Rattle.bayer.specs.declared.colour.Colour.TheVariants.{Red, Green, Blue}
use Rattle.bayer.specs.declared.frame.Frame.{Frame}
use Rattle.bayer.specs.Colour.{same}
use Rattle.bayer.specs.Mosaic.{Mosaic, continued}
use Rattle.green_rule.specs.Greens.{exact_greens}
use Rattle.demosaic.specs.Sample.{Pixel, reading_of, neighbours}

-- "exact green minus 16 × reading"
abbrev pub exact_difference : (green : Fraction) (reading : ℕ) → Fraction
exact_difference green reading = green -ᶠ natural (16 * reading)

abbrev pub sum_of_fractions : List Fraction → Fraction
sum_of_fractions [] = natural 0
sum_of_fractions (x ∷ l) = x +ᶠ sum_of_fractions l

-- their plain mean
unfoldable pub mean : List Fraction → Fraction
mean [] = natural 0
mean (x ∷ l) = divided_by (sum_of_fractions (x ∷ l)) (suc (length l)) (zero-lt-suc (length l))

-- exact green less the mean of the neighbours' exact differences, clamped
unfoldable pub exact_fill : (green : Fraction) (differences : List Fraction) → Fraction
exact_fill green differences = clampᶠ (green -ᶠ mean differences)

-- over any exact greens, G, and the same neighbours
module _ (f : Frame) (m : Mosaic) (G : (i j : ℤ) → Fraction) where
  abbrev pub exact_differences : List Pixel → List Fraction
  exact_differences l = map (λ p. exact_difference (G (pos p.row) (pos p.col)) (reading_of m p)) l

  unfoldable pub exact_other_from : (k : Colour) (i j : ℤ) → Fraction
  exact_other_from k i j = cond (same (m.colour i j) k) (natural (16 * m.reading i j)) (exact_fill (G i j) (exact_differences (neighbours f m k i j)))

  abbrev pub exact_from : (k : Colour) (i j : ℤ) → Fraction
  exact_from Red i j = exact_other_from Red i j
  exact_from Green i j = G i j
  exact_from Blue i j = exact_other_from Blue i j

-- plane k of a frame's exact reconstruction at row i and column j, from the frame's rows from row `first` on
unfoldable pub exact_sample : Frame → (first : ℕ) (rows : List ℕ) (k : Colour) (i j : ℕ) → Fraction
exact_sample f first rows k i j = exact_from f (continued f first rows) (exact_greens f first rows) k (pos i) (pos j)

-- how far a delivered sample of each plane may lie from it, in hundredths of a unit
abbrev pub printed_error : Colour → ℕ
printed_error Red = 155
printed_error Green = 53
printed_error Blue = 155
