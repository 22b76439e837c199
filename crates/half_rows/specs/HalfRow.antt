-- A row as two half rows: every second column from column `side` on, and the others. Place k of the first is column 2 k + side. Assumes nothing.
use Rattle.std.specs.Prelude.{ℕ, ◌+◌, ◌*◌, ◌-◌, ◌/◌, cond, List, length, get_or}
use Rattle.std.proofs.Math.IntN.{sub_ℕ}
use Rattle.bayer.specs.Mirror.{mirror}
use Rattle.bayer.specs.Parity.{is_odd}

-- how many columns side, side + 2, .. a row w wide has
abbrev pub pixels : (w side : ℕ) → ℕ
pixels w side = (w + 1 - side) / 2

-- how many places such a half row has with a column more at each side, whether side is 0 or 1
abbrev pub places : (w : ℕ) → ℕ
places w = (w + 1) / 2 + 2

-- place k of the readings at the columns side − 2, side, side + 2, .. of a row of the continued mosaic
abbrev pub half_column : (side : ℕ) (row : List ℕ) (k : ℕ) → ℕ
half_column side row k = get_or row (mirror (length row) (sub_ℕ (2 * k + side) 2)) 0

-- column j of the row: p at the columns side, side + 2, .., q at the others
unfoldable pub interleaved : (side : ℕ) (p q : List ℕ) (j : ℕ) → ℕ
interleaved side p q j = cond (is_odd (j + side)) (get_or q (j / 2) 0) (get_or p (j / 2) 0)
