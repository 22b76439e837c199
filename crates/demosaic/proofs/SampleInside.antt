-- At a pixel of the frame the fills read greens of the frame's own pixels only: greens that agree on these give the same samples. Assumes nothing.
use mathlib.Core.Path.{◌≡◌, ap}
use mathlib.Core.Bool.{cond}
use Prim.Native.Nat.{ℕ, ◌*◌, ◌<◌}
use native.Mathlib.Omega.{arith}
use lib.IntN.{ℤ, pos}
use lib.ListN.{length}
use Rattle.lists.specs.Every.{Every}
use Rattle.lists.proofs.EveryLaws.{map_same}
use Rattle.bayer.specs.declared.colour.Colour.{Colour}
use Rattle.bayer.specs.declared.colour.Colour.TheVariants.{Red, Green, Blue}
use Rattle.bayer.specs.declared.frame.Frame.{Frame}
use Rattle.bayer.specs.Colour.{same}
use Rattle.bayer.specs.Mirror.{mirror}
use Rattle.bayer.specs.Mosaic.{Mosaic}
use Rattle.bayer.proofs.MirrorLaws.{mirror-lt}
use Rattle.demosaic.specs.Fill.{colour_difference, sum_of, fill}
use Rattle.demosaic.specs.Sample.{Pixel, reading_of, neighbours, other_from, sample_from}
use Rattle.demosaic.proofs.Neighbours.{neighbours-cases}

module _ (f : Frame) (m : Mosaic) (G F : ℤ → ℤ → ℕ)
    (greens : (i j : ℕ) → i < f.height → j < f.width → G (pos i) (pos j) ≡ F (pos i) (pos j)) (i j : ℕ) (hi : i < f.height) (hj : j < f.width) where
  abbrev Inside : Pixel → Type 0
  Inside p = (p.row < f.height) × (p.col < f.width)

  other_from-inside : (k : Colour) → other_from f m G k (pos i) (pos j) ≡ other_from f m F k (pos i) (pos j)
  unfolding other_from
  other_from-inside k = λ t.
      cond (same (m.colour (pos i) (pos j)) k) (16 * m.reading (pos i) (pos j))
      (fill (length (neighbours f m k (pos i) (pos j))) (greens i j hi hj t) (sum_of (map_same _ _ (λ p b. ap (λ g. colour_difference g (reading_of m p)) (greens p.row p.col b.0 b.1)) (neighbours f m k (pos i) (pos j)) all t)))
    where
      row : (z : ℤ) → mirror f.height z < f.height
      row z = mirror-lt f.height z (omega arith)

      col : (z : ℤ) → mirror f.width z < f.width
      col z = mirror-lt f.width z (omega arith)

      all : Every Inside (neighbours f m k (pos i) (pos j))
      all = neighbours-cases (Every Inside) f m k (pos i) (pos j) ((row _, col _), ((row _, col _), tt)) ((row _, col _), ((row _, col _), tt)) ((row _, col _), ((row _, col _), ((row _, col _), ((row _, col _), tt))))

  pub sample_from-inside : (k : Colour) → sample_from f m G k (pos i) (pos j) ≡ sample_from f m F k (pos i) (pos j)
  sample_from-inside Red = other_from-inside Red
  sample_from-inside Green = greens i j hi hj
  sample_from-inside Blue = other_from-inside Blue
