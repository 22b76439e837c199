-- The range of samples: where readings are at most 4095, every sample is at most 65520. Assumes nothing.
use mathlib.Core.List.{List}
use Prim.Native.Nat.{ℕ, ◌*◌, ◌/◌, ◌≤◌}
use native.Mathlib.Omega.{arith}
use lib.IntN.{ℤ, pos, ◌+ℤ◌, ◌-ℤ◌}
use Rattle.whole.specs.Floor.{floor_div}
use Rattle.whole.proofs.Tests.{cond_both}
use Rattle.whole.proofs.FloorLaws.{clamp-le}
use Rattle.lists.specs.Bound.{AllAtMost}
use Rattle.bayer.specs.declared.colour.Colour.{Colour}
use Rattle.bayer.specs.declared.colour.Colour.TheVariants.{Red, Green, Blue}
use Rattle.bayer.specs.declared.frame.Frame.{Frame}
use Rattle.bayer.specs.Colour.{same}
use Rattle.bayer.specs.Mosaic.{Mosaic, continued}
use Rattle.green_rule.specs.Greens.{greens}
use Rattle.green_rule.proofs.GreensLaws.{reading-range, greens-range}
use Rattle.demosaic.specs.Fill.{fill}
use Rattle.demosaic.specs.Sample.{other_from, sample_from, sample}

fill-range : (n g : ℕ) (sum : ℤ) → fill n g sum ≤ 65520
unfolding fill
fill-range n g sum = clamp-le (floor_div (pos (n * g) -ℤ sum +ℤ pos (n / 2)) n)

-- over any greens, G, that are in this range
module _ (f : Frame) (m : Mosaic) (range : (i j : ℤ) → m.reading i j ≤ 4095) (G : (i j : ℤ) → ℕ) (greens-in : (i j : ℤ) → G i j ≤ 65520) (i j : ℤ) where
  other-range : (k : Colour) → other_from f m G k i j ≤ 65520
  unfolding other_from
  other-range k = cond_both (λ x. x ≤ 65520) (same (m.colour i j) k) _ _ (omega (arith, range i j)) (fill-range _ _ _)

  pub sample_from-range : (k : Colour) → sample_from f m G k i j ≤ 65520
  sample_from-range Red = other-range Red
  sample_from-range Green = greens-in i j
  sample_from-range Blue = other-range Blue

pub sample-range : (f : Frame) (first : ℕ) (rows : List ℕ) → AllAtMost 4095 rows → (k : Colour) (i j : ℕ) → sample f first rows k i j ≤ 65520
unfolding sample
sample-range f first rows range k i j =
    sample_from-range f (continued f first rows) (reading-range f first rows range) (greens f first rows) (greens-range f first rows range) (pos i) (pos j) k
