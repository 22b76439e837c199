-- The arrays that the rows of a strip are worked out in. Assumes nothing.
use Rattle.std.specs.Prelude.{ℕ, ◌+◌, ◌*◌, ◌≤◌}
use Rattle.fill_rows.specs.HalfFill.{places}
use Rattle.green_row.specs.Buffers.{RowRoomFor}
use Rattle.green_blocks.specs.Room.{Room}

-- lengths that suffice for frames of up to w columns, and are few. Colours are filled in where the five-sums and the half rows of green were: there is room for the lists of colour differences of eight rows and of those above and below them
pub record Arrays (w readings differences gradients column-sums sums fives half : ℕ) : Type 0 where
  pub for-block : Room w readings differences gradients column-sums w
  pub for-row : RowRoomFor w sums fives half half half
  pub for-colours : 10 * places w ≤ fives
  pub few : readings + differences + gradients + column-sums + sums + fives + half ≤ 400000
