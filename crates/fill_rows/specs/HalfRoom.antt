-- The lengths of the two half rows that are lent as room, and what a row takes of them. Assumes nothing.
use Rattle.std.specs.Prelude.{ℕ, ◌*◌, ◌≤◌}

-- of the first and of the second half row
pub record HalfSizes : Type 0 where
  pub first : ℕ
  pub second : ℕ

-- each suffices for a row w wide
abbrev pub HalfRowsFor : (w : ℕ) (room : HalfSizes) → Type 0
HalfRowsFor w room = (w ≤ 2 * room.first) × (w ≤ 2 * room.second)
