-- What the code asks of the readings of a pixel. Assumes nothing.
use Rattle.std.specs.Prelude.{ℕ, ◌≤◌}

-- a centre, its neighbours and its second neighbours along a row or a column are readings of the camera
pub record Readings (c l r p q : ℕ) : Type 0 where
  pub centre : c ≤ 4095
  pub left : l ≤ 4095
  pub right : r ≤ 4095
  pub second : p ≤ 4095
  pub other : q ≤ 4095
