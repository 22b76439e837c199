-- The room that green is worked out in, block after block. Assumes nothing.
use Rattle.std.specs.Prelude.{ℕ, ◌+◌, ◌*◌, ◌/◌, ◌≤◌, ◌≡◌}
use Rattle.green_row.specs.Buffers.{RowSizes}

-- how many columns it suffices for, and how long its parts are
pub record RoomSizes : Type 0 where
  pub columns : ℕ
  pub readings : ℕ
  pub differences : ℕ
  pub gradients : ℕ
  pub column_sums : ℕ
  pub row : RowSizes

-- lengths that suffice for blocks of up to eight rows, w columns wide, beside room for rows of as many columns
pub record Room (w readings differences gradients column-sums row : ℕ) : Type 0 where
  pub for-readings : 20 * (w + 14) ≤ readings
  pub for-differences : 26 * (w + 14) ≤ differences
  pub for-gradients : 22 * (w + 14) ≤ gradients
  pub for-column-sums : 10 * ((w + 1) / 2) ≤ column-sums
  pub for-row : row ≡ w
