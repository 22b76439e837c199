-- The three planes of a frame or of a strip, by colour. Assumes nothing.
use Rattle.std.specs.Prelude.{ℕ, List}
use Rattle.bayer.specs.declared.colour.Colour.{Colour}
use Rattle.bayer.specs.declared.colour.Colour.TheVariants.{Red, Green, Blue}

abbrev pub Planes : Type 0
Planes = Colour → List ℕ

abbrev pub three_planes : (red green blue : List ℕ) → Planes
three_planes red green blue Red = red
three_planes red green blue Green = green
three_planes red green blue Blue = blue

-- the red or the blue plane. (No plane shares a row with green by the name of green: for it this says red.)
abbrev pub plane_of {ℓ} : {A : Type ℓ} → Colour → (red blue : A) → A
plane_of Red red blue = red
plane_of Green red blue = red
plane_of Blue red blue = blue
