-- The rows that a strip works out. Assumes nothing.
use Rattle.std.specs.Prelude.{ℕ, ◌+◌, ◌*◌, ◌-◌, ◌≤◌, ◌<◌, ◌≡◌, cond, List, ltb, ℤ, pos, length}
use Rattle.std.proofs.Math.IntN.{sub_ℕ}
use Rattle.lists.specs.Table.{table, joined}
use Rattle.lists.specs.Part.{row_of}
use Rattle.lists.specs.Bound.{AllAtMost}
use Rattle.bayer.specs.declared.colour.Colour.{Colour}
use Rattle.bayer.specs.declared.colour.Colour.TheVariants.{Red, Green, Blue}
use Rattle.bayer.specs.declared.frame.Frame.{Frame}
use Rattle.bayer.specs.Colour.{same, partner}
use Rattle.bayer.specs.Mirror.{mirror}
use Rattle.bayer.specs.Parity.{starts_green}
use Rattle.bayer.specs.Condition.{FrameFits}
use Rattle.bayer.specs.Piece.{piece_start}
use Rattle.bayer.specs.Mosaic.{continued}
use Rattle.bayer.specs.Lent.{Lent}
use Rattle.green_rule.specs.Greens.{greens, green_row}
use Rattle.demosaic.specs.Sample.{other_from, plane_rows}
use Rattle.fill_rows.specs.HalfFill.{places, edged, own_edged, other_edged}
use Rattle.fill_rows.specs.HalfRoom.{HalfSizes, HalfRowsFor}

-- row v of colour k, red or blue
abbrev pub colour_row : Frame → (first : ℕ) (rows : List ℕ) → Colour → (v : ℕ) → List ℕ
colour_row f first rows k v = table (λ j. other_from f (continued f first rows) (greens f first rows) k (pos v) (pos j)) f.width

-- the readings from row `first` on have all that rows a to a + n − 1 of a frame, and the rows of green beside them, are worked out from
pub record Readable (f : Frame) (first : ℕ) (rows : List ℕ) (a n : ℕ) : Type 0 where
  pub frame : FrameFits f
  pub some : 0 < n
  pub inside : a + n ≤ f.height
  pub range : AllAtMost 4095 rows
  pub lent : (v : ℕ) → v < f.height → a ≤ v + 1 → v ≤ a + n → Lent f first (length rows) v

-- row u − 1 of green, if the frame has such a row
abbrev pub GreenBeside : Frame → (first : ℕ) (rows : List ℕ) (u : ℕ) → List ℕ → Type 0
GreenBeside f first rows u row = (v : ℕ) → v + 1 ≡ u → v < f.height → row ≡ green_row f first rows v

-- the greens of rows a to a + n − 1, and those of the rows above and below them
pub record GreensOf (f : Frame) (first : ℕ) (rows : List ℕ) (a n : ℕ) (green above below : List ℕ) : Type 0 where
  pub own : green ≡ joined (λ i. green_row f first rows (a + i)) n
  pub above-is : GreenBeside f first rows a above
  pub below-is : GreenBeside f first rows (a + n + 1) below

-- row v of them
abbrev pub among_greens : (w a n : ℕ) (green above below : List ℕ) (v : ℕ) → List ℕ
among_greens w a n green above below v = cond (ltb v a) above (cond (ltb v (a + n)) (row_of w (v - a) green) below)

-- the lengths of the room for red and blue of a block: of its lists of colour differences, and of two half rows
pub record ColourSizes : Type 0 where
  pub differences : ℕ
  pub halves : HalfSizes

-- the lists of colour differences of a block of up to eight rows, w wide, and of the rows above and below it, and the two half rows of a row have room
pub record ColourRoomFor (w : ℕ) (room : ColourSizes) : Type 0 where
  pub for-differences : 10 * places w ≤ room.differences
  pub for-halves : HalfRowsFor w room.halves

-- rows v to v + b − 1, one to eight of them, are a block of rows a to a + n − 1
pub record Block (a n v b : ℕ) : Type 0 where
  pub from : a ≤ v
  pub some : 0 < b
  pub few : b ≤ 8
  pub inside : v + b ≤ a + n

-- row v of colour k, red or blue, from its readings x, its greens g and the colour differences of the row that is read above it, of its own and of the row that is read below it
abbrev pub colour_edged : Frame → Colour → (v : ℕ) (x g : List ℕ) (above own below : List ℤ) → List ℕ
colour_edged f k v x g above own below =
    let odd = starts_green f.layout v in
    cond (same k (partner f.layout v)) (table (own_edged odd x g own) f.width) (table (other_edged odd g above below) f.width)

-- the colour differences of row u, and list i of a block from row v on, of the row that is read for row v + i − 1
abbrev pub row_differences : Frame → (first : ℕ) (rows : List ℕ) (u : ℕ) → List ℤ
row_differences f first rows u = edged f.width (starts_green f.layout u) (row_of f.width (u - first) rows) (green_row f first rows u)

abbrev pub block_differences : Frame → (first : ℕ) (rows : List ℕ) (v i : ℕ) → List ℤ
block_differences f first rows v i = row_differences f first rows (mirror f.height (sub_ℕ (v + i) 1))

-- the lengths of three planes of n rows
pub record Sized (f : Frame) (n red green blue : ℕ) : Type 0 where
  pub red-is : red ≡ n * f.width
  pub green-is : green ≡ n * f.width
  pub blue-is : blue ≡ n * f.width

-- three planes hold the samples of rows a to a + n − 1, from a strip's piece
pub record Filled (f : Frame) (a n : ℕ) (piece red green blue : List ℕ) : Type 0 where
  pub red-is : red ≡ plane_rows f (piece_start a) piece a n Red
  pub green-is : green ≡ plane_rows f (piece_start a) piece a n Green
  pub blue-is : blue ≡ plane_rows f (piece_start a) piece a n Blue
