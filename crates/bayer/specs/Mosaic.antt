-- The continued mosaic: a reading and a colour for every whole row and column, by the mirrors. Assumes nothing.
use Rattle.std.specs.Prelude.{ℕ, ◌-◌, Bool, List, ℤ, get_or}
use Rattle.lists.specs.Part.{row_of}
use Rattle.bayer.specs.declared.colour.Colour.{Colour}
use Rattle.bayer.specs.declared.colour.Colour.TheVariants.{Green}
use Rattle.bayer.specs.declared.frame.Frame.{Frame}
use Rattle.bayer.specs.Colour.{colour_at, same}
use Rattle.bayer.specs.Mirror.{mirror}

pub record Mosaic : Type 0 where
  pub reading : (i j : ℤ) → ℕ
  pub colour : (i j : ℤ) → Colour

abbrev pub is_green : Mosaic → (i j : ℤ) → Bool
is_green m i j = same (m.colour i j) Green

-- the continuation of a frame whose rows, from row `first` on, are given
abbrev pub continued : Frame → (first : ℕ) (rows : List ℕ) → Mosaic
continued f first rows = record {
  reading = λ i j. get_or (row_of f.width (mirror f.height i - first) rows) (mirror f.width j) 0;
  colour = λ i j. colour_at f.layout (mirror f.height i) (mirror f.width j);
}
