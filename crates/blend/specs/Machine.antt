-- What keeps the numbers of the code inside the machine's, and the place of the table that it reads. Assumes nothing.
use Rattle.std.specs.Prelude.{ℕ, ◌/◌, ◌≤◌, min, pos, nat_abs, ◌-ℤ◌}
use Rattle.blend.specs.declared.axis.Axis.{Axis}

-- k, stopped at the table's last place, from the two variations in any order
abbrev pub place_of : (row column : ℕ) → ℕ
place_of row column = min (nat_abs (pos row -ℤ pos column) / 16) 255

-- two estimates of readings with one centre
pub record Fitting (row column : Axis) : Type 0 where
  pub along : nat_abs row.estimate ≤ 24570
  pub across : nat_abs column.estimate ≤ 24570
  pub apart : nat_abs (row.estimate -ℤ column.estimate) ≤ 24570
