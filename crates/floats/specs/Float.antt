-- Whole numbers in 64-bit floats. Assumes nothing.
use Rattle.std.specs.Prelude.{ℕ, ◌/◌, ◌≤◌, ◌≡◌, false, Float}
use Rattle.std.specs.Float.Ieee.{round}
use Rattle.std.specs.Float.{binary64}
use Rattle.std.specs.Float.Ieee.Positive.{num, den}

-- the float nearest to n
unfoldable pub float : ℕ → Float
float n = round binary64 false n 1

-- a finite float's size, rounded down
unfoldable pub val : Float → ℕ
val x = num x / den x

-- x is a whole number from 0 to b
pub record WholeUpTo (b : ℕ) (x : Float) : Type 0 where
  pub whole : x ≡ float (val x)
  pub most : val x ≤ b
