-- Red and blue away from their own pixels, in whole numbers. Assumes nothing.
use Rattle.std.specs.Prelude.{ℕ, ◌*◌, ◌/◌, List, [], ◌∷◌, ℤ, pos, ◌+ℤ◌, ◌-ℤ◌}
use Rattle.whole.specs.Floor.{floor_div}
use Rattle.whole.specs.Clamp.{clamp}

-- document 01's e: green minus 16 × reading, at a pixel of the wanted colour
abbrev pub colour_difference : (green reading : ℕ) → ℤ
colour_difference green reading = pos green -ℤ pos (16 * reading)

abbrev pub sum_of : List ℤ → ℤ
sum_of [] = pos 0
sum_of (e ∷ es) = e +ℤ sum_of es

-- from n neighbours, four or two, of which e adds to sum, at a pixel of green g: the floor of (n g − sum + n/2) / n
abbrev pub unclamped : (n g : ℕ) (sum : ℤ) → ℤ
unclamped n g sum = floor_div (pos (n * g) -ℤ sum +ℤ pos (n / 2)) n

-- clamped
unfoldable pub fill : (n g : ℕ) (sum : ℤ) → ℕ
fill n g sum = clamp (unclamped n g sum)
