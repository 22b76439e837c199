-- What keeps the numbers of the code inside the machine's: no rules of the papers. Assumes nothing.
use Rattle.std.specs.Prelude.{ℕ, ◌*◌, ◌≤◌, nat_abs}
use Rattle.gbtf.specs.declared.direction.Direction.{Direction}
use Rattle.gbtf.specs.Bounds.{most_sum}

-- the five are readings of the camera
pub record Readings (c l r p q : ℕ) : Type 0 where
  pub centre : c ≤ 4095
  pub left : l ≤ 4095
  pub right : r ≤ 4095
  pub second : p ≤ 4095
  pub other : q ≤ 4095

-- a direction's numbers are inside what fusion takes, T the weights' total: a five-sum of readings is within 16380 T
pub record Fitting (T : ℕ) (d : Direction) : Type 0 where
  pub five : nat_abs d.five ≤ 32767 * T
  pub sum : d.sum ≤ most_sum
