-- What a call from C names by plain numbers. Assumes nothing.
use Rattle.std.specs.Prelude.{ℕ}
use Rattle.bayer.specs.declared.colour.Colour.{Colour}
use Rattle.bayer.specs.declared.colour.Colour.TheVariants.{Red, Green, Blue}

-- the number of a plane
abbrev pub plane_number : Colour → ℕ
plane_number Red = 0
plane_number Green = 1
plane_number Blue = 2
