-- The printed error, where readings are at most 4095: first of red and blue over any greens that are near the exact ones, then of the frame's greens. Assumes nothing.
use mathlib.Core.Path.{◌≡◌, refl}
use mathlib.Core.List.{List}
use Prim.Native.Nat.{ℕ, ◌+◌, ◌*◌, ◌≤◌, ◌<◌}
use native.Mathlib.Omega.{arith}
use lib.Dec.{lit≤}
use lib.IntN.{ℤ, pos}
use lib.ListN.{length}
use Rattle.whole.specs.Fraction.{Fraction, natural, Within}
use Rattle.whole.proofs.FractionLaws.{within_same, within_wider, within-cond}
use Rattle.lists.specs.Bound.{AllAtMost}
use Rattle.lists.proofs.EveryLaws.{everywhere}
use Rattle.bayer.specs.declared.colour.Colour.{Colour}
use Rattle.bayer.specs.declared.colour.Colour.TheVariants.{Red, Green, Blue}
use Rattle.bayer.specs.declared.frame.Frame.{Frame}
use Rattle.bayer.specs.Colour.{same}
use Rattle.bayer.specs.Mosaic.{Mosaic, continued}
use Rattle.green_rule.specs.Greens.{greens, exact_greens, green_thousandths}
use Rattle.green_rule.proofs.GreensLaws.{greens-near}
use Rattle.demosaic.specs.Fill.{fill, sum_of}
use Rattle.demosaic.specs.Sample.{Pixel, diagonal, in_row, in_column, reading_of, colour_differences, other_from, sample_from, sample}
use Rattle.demosaic.specs.Exact.{exact_fill, exact_differences, exact_other_from, exact_from, exact_sample, printed_error}
use Rattle.demosaic.proofs.Neighbours.{neighbours-cases}
use Rattle.demosaic.proofs.FillError.{fill-within}

-- greens within a/(2c) everywhere give red and blue within 1/2 + 2a/(2c)
module _ (f : Frame) (m : Mosaic) (G : (i j : ℤ) → ℕ) (E : (i j : ℤ) → Fraction) (a c : ℕ) (near : (i j : ℤ) → Within (natural (G i j)) (E i j) a (2 * c)) where
  abbrev FillNear : (i j : ℤ) → List Pixel → Type 0
  FillNear i j l = Within (natural (fill (length l) (G i j) (sum_of (colour_differences f m G l)))) (exact_fill (E i j) (exact_differences f m E l)) (c + (a + a)) (2 * c)

  fill-near : (h : ℕ) (i j : ℤ) (l : List Pixel) → 0 < h → length l ≡ 2 * h → FillNear i j l
  fill-near h i j l p e =
      fill-within (λ p. G (pos p.row) (pos p.col)) (reading_of m) (λ p. E (pos p.row) (pos p.col)) _ _ h c a a l p e (near i j)
      (everywhere (λ p. near (pos p.row) (pos p.col)) l)

  other_from-within : (k : Colour) (i j : ℤ) → Within (natural (other_from f m G k i j)) (exact_other_from f m E k i j) (c + (a + a)) (2 * c)
  unfolding other_from exact_other_from
  other_from-within k i j =
      within-cond (same (m.colour i j) k) (within_wider {b = 1} _ (2 * c) (omega arith) (omega arith) (within_same {x = natural (16 * m.reading i j)} {y = natural (16 * m.reading i j)} 1 refl))
      (neighbours-cases (FillNear i j) f m k i j (fill-near 1 i j (in_row f i j) (lit≤ tt) refl) (fill-near 1 i j (in_column f i j) (lit≤ tt) refl) (fill-near 2 i j (diagonal f i j) (lit≤ tt) refl))

  -- any printed figures, in hundredths, that these bounds reach
  pub sample_from-within : (figure : Colour → ℕ) → 0 < c → a * 100 ≤ figure Green * (2 * c) → ((c + (a + a)) * 100 ≤ figure Red * (2 * c)) → ((c + (a + a)) * 100 ≤ figure Blue * (2 * c))
      → (k : Colour) (i j : ℤ) → Within (natural (sample_from f m G k i j)) (exact_from f m E k i j) (figure k) 100
  sample_from-within figure p g r b Red i j = within_wider (figure Red) 100 (omega arith) r (other_from-within Red i j)
  sample_from-within figure p g r b Green i j = within_wider (figure Green) 100 (omega arith) g (near i j)
  sample_from-within figure p g r b Blue i j = within_wider (figure Blue) 100 (omega arith) b (other_from-within Blue i j)

-- THE PRINTED ERROR, whose figures are document 02's (A.4.6), by green's sharper bound
pub printed-error : (f : Frame) (first : ℕ) (rows : List ℕ) → AllAtMost 4095 rows
    → (k : Colour) (i j : ℕ) → Within (natural (sample f first rows k i j)) (exact_sample f first rows k i j) (printed_error k) 100
unfolding sample exact_sample
printed-error f first rows range k i j =
    sample_from-within f (continued f first rows) (greens f first rows) (exact_greens f first rows) green_thousandths 500 (greens-near f first rows range) printed_error (lit≤ tt) (lit≤ tt) (lit≤ tt) (lit≤ tt) k (pos i) (pos j)
