-- Green of the rows of a block, from buffers that they share. Assumes nothing.
use Rattle.std.specs.Prelude.{ℕ, ◌+◌, ◌-◌, ◌*◌, ◌/◌, ◌%◌, ◌≡◌, List, drop, ℤ}
use Rattle.lists.specs.Part.{row_of, part}
use Rattle.lists.specs.Table.{table}
use Rattle.bayer.specs.declared.frame.Frame.{Frame}
use Rattle.bayer.specs.Parity.{starts_green}
use Rattle.gbtf.specs.Direction.{direction_sum}
use Rattle.gbtf.specs.Weights.{scale, weights_of}
use Rattle.green_row.specs.Directions.{window_in}
use Rattle.green_row.specs.GreenIn.{green_in}

-- A block of b rows, from row v of the frame on. Each buffer but tv is rows of s = w + 14 places, w the width; tv is rows of (w + 1) / 2. Which row of a buffer is which of the frame:
--
--     frame             x       dv      gv      dh, gh, tv
--     v − 6             0
--     v − 5             1
--     v − 4             2       0
--     v − 3             3       1
--     v − 2             4       2       0
--     v − 1             5       3       1       0
--     v                 6       4       2       1          first row of the block
--     v + b − 1         b + 5   b + 3   b + 1   b          its last row
--     v + b             b + 6   b + 4   b + 2   b + 1
--     v + b + 1         b + 7   b + 5   b + 3
--     v + b + 3         b + 9   b + 7
--     v + b + 5         b + 11
--     rows in all       b + 12  b + 8   b + 4   b + 2
--
--     place             0 .. 6          7 .. w + 6        w + 7 .. s − 1
--     in x, dv, gv, dh  columns −7 ..   columns 0 .. w−1  columns w ..       gh starts two places later: its place p is column p − 5
--
-- x: readings. dh, dv: differences along rows and columns; d holds first dh, then dv. gh, gv: their gradients; g holds first gh, then gv. tv: direction sums of gv's windows.
-- dh is worked out from x's place 5 s − 2 on, two places before row v − 1, so that its places stand under x's; gh from dh's own start, so that it starts later, and is four places short.
-- The first two and last two places of a row of dh, and the first two and last six of gh, reach into the row beside; none of these is read.
-- Row i of the block is handed what lies from its place i on: 3 rows of dh, of which the row itself is row 1; 3 rows less four places of gh; 9 rows of dv, of which it is row 4; and 3 rows of tv, as in green_row/specs/Directions.

-- row i of tv: the window about every second pixel of row v − 1 + i, at the columns of the green ones, which are the red and blue ones of the rows above and below
abbrev pub column_sums : (w s odd : ℕ) (gv : List ℕ) (i : ℕ) → List ℕ
column_sums w s odd gv i = table (λ k. direction_sum (window_in s gv (i * s + 6 + (odd + i) % 2 + 2 * k))) ((w + 1) / 2)

-- green of row i of a block, whose own readings are rows of w
abbrev pub green_row_in : (K : ℕ) (ws : List ℕ) (w odd : ℕ) (own : List ℕ) (dh dv : List ℤ) (gh tv : List ℕ) (i : ℕ) → List ℕ
green_row_in K ws w odd own dh dv gh tv i =
    let s = w + 14 in
    let h = (w + 1) / 2 in
    table (green_in K ws s ((odd + i) % 2) (row_of w i own) (part (i * s) (3 * s) dh) (part (i * s) (9 * s) dv) (part (i * s) (3 * s - 4) gh) (part (i * h) (3 * h) tv)) w

-- where that is a block of a frame's rows from row v on, of which `rows` holds the frame's from row `first` on
abbrev pub fused_row_in : Frame → (first : ℕ) (rows : List ℕ) (v : ℕ) (dh dv : List ℤ) (gh tv : List ℕ) (i : ℕ) → List ℕ
fused_row_in f first rows v dh dv gh tv i = green_row_in scale (weights_of f.smoothing) f.width (starts_green f.layout v) (drop ((v - first) * f.width) rows) dh dv gh tv i

-- the lengths of the buffers x, d, g and tv of b rows of w columns
pub record BlockLong (w b x d g tv : ℕ) : Type 0 where
  pub x-long : x ≡ b * (w + 14) + 12 * (w + 14)
  pub d-long : d ≡ b * (w + 14) + 2 * (w + 14) + (b * (w + 14) + 8 * (w + 14))
  pub g-long : g ≡ b * (w + 14) + 2 * (w + 14) - 4 + (b * (w + 14) + 4 * (w + 14))
  pub tv-long : tv ≡ (b + 2) * ((w + 1) / 2)

-- and of dh, dv, gh and tv, where rows of the first three are s places wide
pub record AroundBlock (w b s dh dv gh tv : ℕ) : Type 0 where
  pub stride : s ≡ w + 14
  pub dh-long : dh ≡ b * s + 2 * s
  pub dv-long : dv ≡ b * s + 8 * s
  pub gh-long : gh ≡ b * s + 2 * s - 4
  pub tv-long : tv ≡ (b + 2) * ((w + 1) / 2)
