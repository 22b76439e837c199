-- The rows that are worked out are the planes that the contract names, and the first row of the readings may be named in two ways. Assumes nothing.
use Prim.Native.Nat.{ℕ, ◌+◌}
use mathlib.Core.Path.{◌≡◌, refl, ap}
use mathlib.Core.List.{List}
use Rattle.lists.specs.Table.{joined}
use Rattle.bayer.specs.declared.colour.Colour.{Colour}
use Rattle.bayer.specs.declared.colour.Colour.TheVariants.{Red, Green, Blue}
use Rattle.bayer.specs.declared.frame.Frame.{Frame}
use Rattle.green_rule.specs.Greens.{green_row}
use Rattle.demosaic.specs.Sample.{sample, plane_rows}
use Rattle.strip_rows.specs.StripRows.{colour_row}

module _ (f : Frame) (first : ℕ) (rows : List ℕ) (a n : ℕ) where
  pub red-plane : joined (λ i. colour_row f first rows Red (a + i)) n ≡ plane_rows f first rows a n Red
  unfolding plane_rows sample
  red-plane = refl

  pub green-plane : joined (λ i. green_row f first rows (a + i)) n ≡ plane_rows f first rows a n Green
  unfolding plane_rows sample
  green-plane = refl

  pub blue-plane : joined (λ i. colour_row f first rows Blue (a + i)) n ≡ plane_rows f first rows a n Blue
  unfolding plane_rows sample
  blue-plane = refl

module _ (f : Frame) {start first : ℕ} (e : start ≡ first) (rows : List ℕ) (a n : ℕ) where
  pub plane-from : (k : Colour) → plane_rows f start rows a n k ≡ plane_rows f first rows a n k
  plane-from k = ap (λ s. plane_rows f s rows a n k) e
