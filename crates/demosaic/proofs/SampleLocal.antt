-- Locality of the fills: red and blue of row i depend on the greens and readings of the pixels at most one row away, over any greens; likewise their exact forms. Assumes nothing.
use mathlib.Core.Path.{◌≡◌, ap₂}
use mathlib.Core.Bool.{cond}
use Prim.Native.Nat.{ℕ, ◌*◌}
use lib.IntN.{ℤ, pos, ◌+ℤ◌, ◌-ℤ◌}
use lib.ListN.{length}
use Rattle.whole.specs.Fraction.{Fraction, natural}
use Rattle.lists.specs.Every.{Every}
use Rattle.lists.proofs.EveryLaws.{map_same}
use Rattle.bayer.specs.declared.colour.Colour.{Colour}
use Rattle.bayer.specs.declared.colour.Colour.TheVariants.{Red, Green, Blue}
use Rattle.bayer.specs.declared.frame.Frame.{Frame}
use Rattle.bayer.specs.Colour.{same}
use Rattle.bayer.specs.Mirror.{mirror}
use Rattle.bayer.specs.Mosaic.{Mosaic}
use Rattle.bayer.proofs.Near.{Near}
use Rattle.demosaic.specs.Fill.{colour_difference, sum_of, fill}
use Rattle.demosaic.specs.Sample.{Pixel, colour_differences, neighbours, other_from, sample_from}
use Rattle.demosaic.specs.Exact.{exact_difference, exact_fill, exact_differences, exact_other_from, exact_from}
use Rattle.demosaic.proofs.Neighbours.{neighbours-cases}

module _ (f : Frame) (colour : ℤ → ℤ → Colour) (m n : ℤ → ℤ → ℕ) (i : ℤ) (read_same : (r : ℤ) → Near 1 i r → (j : ℤ) → m r j ≡ n r j)
    (here : Near 1 i i) (above : Near 1 i (pos (mirror f.height (i -ℤ pos 1)))) (level : Near 1 i (pos (mirror f.height i))) (below : Near 1 i (pos (mirror f.height (i +ℤ pos 1)))) where
  abbrev x : Mosaic
  x = record { reading = m; colour = colour }

  abbrev y : Mosaic
  y = record { reading = n; colour = colour }

  -- a pixel whose row is at most one row away from row i: every neighbour is
  abbrev Beside : Pixel → Type 0
  Beside p = Near 1 i (pos p.row)

  beside : (k : Colour) (j : ℤ) → Every Beside (neighbours f x k i j)
  beside k j = neighbours-cases (Every Beside) f x k i j (level, (level, tt)) (above, (below, tt)) (above, (above, (below, (below, tt))))

  module _ (G F : ℤ → ℤ → ℕ) (greens : (r : ℤ) → Near 1 i r → (j : ℤ) → G r j ≡ F r j) where
    other_from-same : (k : Colour) (j : ℤ) → other_from f x G k i j ≡ other_from f y F k i j
    unfolding other_from neighbours
    other_from-same k j = λ t. cond (same (colour i j) k) (16 * read_same i here j t) (fill (length (neighbours f x k i j)) (greens i here j t) (sum_of (differences t)))
      where
        differences : colour_differences f x G (neighbours f x k i j) ≡ colour_differences f y F (neighbours f x k i j)
        differences = map_same _ _ (λ p b. ap₂ colour_difference (greens (pos p.row) b (pos p.col)) (read_same (pos p.row) b (pos p.col))) (neighbours f x k i j) (beside k j)

    pub sample_from-same : (k : Colour) (j : ℤ) → sample_from f x G k i j ≡ sample_from f y F k i j
    sample_from-same Red j = other_from-same Red j
    sample_from-same Green j = greens i here j
    sample_from-same Blue j = other_from-same Blue j

  module _ (G F : ℤ → ℤ → Fraction) (greens : (r : ℤ) → Near 1 i r → (j : ℤ) → G r j ≡ F r j) where
    exact_other_from-same : (k : Colour) (j : ℤ) → exact_other_from f x G k i j ≡ exact_other_from f y F k i j
    unfolding exact_other_from neighbours
    exact_other_from-same k j = λ t. cond (same (colour i j) k) (natural (16 * read_same i here j t)) (exact_fill (greens i here j t) (differences t))
      where
        differences : exact_differences f x G (neighbours f x k i j) ≡ exact_differences f y F (neighbours f x k i j)
        differences = map_same _ _ (λ p b. ap₂ exact_difference (greens (pos p.row) b (pos p.col)) (read_same (pos p.row) b (pos p.col))) (neighbours f x k i j) (beside k j)

    pub exact_from-same : (k : Colour) (j : ℤ) → exact_from f x G k i j ≡ exact_from f y F k i j
    exact_from-same Red j = exact_other_from-same Red j
    exact_from-same Green j = greens i here j
    exact_from-same Blue j = exact_other_from-same Blue j
