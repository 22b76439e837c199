-- Rows of readings, continued by the mirrors. Assumes nothing.
use Rattle.std.specs.Prelude.{ℕ, ◌+◌, ◌-◌, List, length, get_or}
use Rattle.std.proofs.Math.IntN.{sub_ℕ}
use Rattle.lists.specs.Part.{row_of}
use Rattle.lists.specs.Table.{table}
use Rattle.bayer.specs.declared.frame.Frame.{Frame}
use Rattle.bayer.specs.Mirror.{mirror}

-- place c of a row is column c − 7
abbrev pub column : (row : List ℕ) (c : ℕ) → ℕ
column row c = get_or row (mirror (length row) (sub_ℕ c 7)) 0

-- row v − 6 + r of the continued mosaic, s places of it; rows holds the frame's from row `first` on
abbrev pub extended_row : Frame → (first : ℕ) (rows : List ℕ) (v s r : ℕ) → List ℕ
extended_row f first rows v s r = table (column (row_of f.width (mirror f.height (sub_ℕ (v + r) 6) - first) rows)) s
