-- In the plane of its own colour a pixel has 16 times its reading. Assumes nothing.
use Prim.Native.Nat.{ℕ, ◌+◌, ◌*◌, ◌-◌, ◌<◌}
use mathlib.Core.Path.{◌≡◌, ap, ap₂, ◌∙◌}
use mathlib.Core.List.{List}
use lib.IntN.{pos}
use lib.ListN.{get_or}
use Rattle.lists.specs.Part.{row_of}
use Rattle.lists.proofs.PartLaws.{row-entry}
use Rattle.bayer.specs.declared.colour.Colour.{Colour}
use Rattle.bayer.specs.declared.colour.Colour.TheVariants.{Red, Green, Blue}
use Rattle.bayer.specs.declared.frame.Frame.{Frame}
use Rattle.bayer.specs.Colour.{colour_at}
use Rattle.bayer.specs.Mirror.{mirror}
use Rattle.bayer.specs.Mosaic.{continued}
use Rattle.bayer.proofs.MirrorLaws.{mirror-inside}
use Rattle.green_rule.proofs.GreensLaws.{greens-observed}
use Rattle.demosaic.specs.Sample.{other_from, sample}

own-colour : (f : Frame) (first : ℕ) (rows : List ℕ) (k : Colour) (i j : ℕ) → (continued f first rows).colour (pos i) (pos j) ≡ k → sample f first rows k i j ≡ 16 * (continued f first rows).reading (pos i) (pos j)
unfolding sample other_from
own-colour f first rows Red i j e = rw e
own-colour f first rows Green i j e = greens-observed f first rows (pos i) (pos j) (rw e)
own-colour f first rows Blue i j e = rw e

-- rows from row `first` on
pub observed-sample : (f : Frame) (first : ℕ) (rows : List ℕ) (i j : ℕ) → i < f.height → j < f.width → sample f first rows (colour_at f.layout i j) i j ≡ 16 * get_or rows ((i - first) * f.width + j) 0
observed-sample f first rows i j hi hj = own-colour f first rows (colour_at f.layout i j) i j (ap₂ (colour_at f.layout) row col) ∙ ap (λ x. 16 * x) read
  where
    row : mirror f.height (pos i) ≡ i
    row = mirror-inside f.height i hi

    col : mirror f.width (pos j) ≡ j
    col = mirror-inside f.width j hj

    read : (continued f first rows).reading (pos i) (pos j) ≡ get_or rows ((i - first) * f.width + j) 0
    read = ap₂ (λ r c. get_or (row_of f.width (r - first) rows) c 0) row col ∙ row-entry f.width (i - first) rows j hj
