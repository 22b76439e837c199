-- Green by logistic blend of a row, from half rows of readings. Assumes nothing.
use Rattle.std.specs.Prelude.{ℕ, ◌+◌, ◌*◌, ◌-◌, ◌/◌, ◌%◌, ◌≤◌, ◌<◌, ◌≡◌, cond, List, eqb, ℤ, pos, length, get_or}
use Rattle.std.proofs.Math.IntN.{sub_ℕ}
use Rattle.lists.specs.Table.{table}
use Rattle.lists.specs.Part.{part}
use Rattle.lists.specs.Bound.{AllAtMost}
use Rattle.bayer.specs.Mosaic.{Mosaic}
use Rattle.half_rows.specs.HalfRow.{pixels, places, interleaved}
use Rattle.blend.specs.declared.axis.Axis.{Axis}
use Rattle.blend.specs.Logistic.{weight_at}
use Rattle.blend.specs.Blend.{axis, blend}
use Rattle.blend.specs.Machine.{place_of, Fitting}

-- A block of b rows of a frame w wide, from row v on, has two buffers, of the even and of the odd columns, each of b + 4 half rows of h = places w places. Half row r is of row v − 2 + r, and its place k is column
-- 2 k + side − 2, side 0 or 1. A row whose red and blue pixels stand at the columns side, side + 2, .. is handed five half rows of their parity, `own`, of which it is row 2, and its half row of the other parity, `beside`.

abbrev pub half_row : (m : Mosaic) (v side w r : ℕ) → List ℕ
half_row m v side w r = table (λ k. m.reading (sub_ℕ (v + r) 2) (sub_ℕ (2 * k + side) 2)) (places w)

-- five lists that start where the first pixel reads its centre, neighbours and second neighbours
abbrev pub axis_from : (c l r p q : List ℕ) (k : ℕ) → Axis
axis_from c l r p q k = axis (get_or c k 0) (get_or l k 0) (get_or r k 0) (get_or p k 0) (get_or q k 0)

-- they hold readings, of n pixels at least
pub record Lines (n : ℕ) (c l r p q : List ℕ) : Type 0 where
  pub long-c : n ≤ length c
  pub long-l : n ≤ length l
  pub long-r : n ≤ length r
  pub long-p : n ≤ length p
  pub long-q : n ≤ length q
  pub small-c : AllAtMost 4095 c
  pub small-l : AllAtMost 4095 l
  pub small_r : AllAtMost 4095 r
  pub small-p : AllAtMost 4095 p
  pub small-q : AllAtMost 4095 q

-- five half rows and the one beside hold readings
pub record HalfRows (h : ℕ) (own beside : List ℕ) : Type 0 where
  pub five : length own ≡ 5 * h
  pub one : length beside ≡ h
  pub own-small : AllAtMost 4095 own
  pub beside-small : AllAtMost 4095 beside

-- pixel k of the row, along the row and along the column
unfoldable pub row_axis_in : (h side : ℕ) (own beside : List ℕ) (k : ℕ) → Axis
row_axis_in h side own beside k = axis (get_or own (2 * h + 1 + k) 0) (get_or beside (side + k) 0) (get_or beside (side + 1 + k) 0) (get_or own (2 * h + k) 0) (get_or own (2 * h + 2 + k) 0)

unfoldable pub column_axis_in : (h : ℕ) (own : List ℕ) (k : ℕ) → Axis
column_axis_in h own k = axis (get_or own (2 * h + 1 + k) 0) (get_or own (h + 1 + k) 0) (get_or own (3 * h + 1 + k) 0) (get_or own (1 + k) 0) (get_or own (4 * h + 1 + k) 0)

abbrev pub blend_in : (h side : ℕ) (own beside : List ℕ) (k : ℕ) → ℕ
blend_in h side own beside k = blend (row_axis_in h side own beside k) (column_axis_in h own k)

-- an axis from lists of variations and estimates
abbrev pub axis_of : (v : List ℕ) (x : List ℤ) (k : ℕ) → Axis
axis_of v x k = record { variation = get_or v k 0; estimate = get_or x k (pos 0) }

-- of n pixels, along the row and along the column; and the weights of those
pub record Axes (n : ℕ) (vr vc : List ℕ) (xr xc : List ℤ) : Type 0 where
  pub vr-long : n ≤ length vr
  pub vc-long : n ≤ length vc
  pub xr-long : n ≤ length xr
  pub xc-long : n ≤ length xc
  pub fitting : (k : ℕ) → k < n → Fitting (axis_of vr xr k) (axis_of vc xc k)

pub record Weighted (n : ℕ) (weights vr vc : List ℕ) : Type 0 where
  pub weights-long : n ≤ length weights
  pub weighted : (k : ℕ) → k < n → get_or weights k 0 ≡ weight_at (place_of (get_or vr k 0) (get_or vc k 0))

-- the row, w wide
abbrev pub blend_row_in : (w h side : ℕ) (own beside : List ℕ) → List ℕ
blend_row_in w h side own beside = table (interleaved side (table (blend_in h side own beside) (pixels w side)) (table (λ k. 16 * get_or beside (1 + k) 0) (w - pixels w side))) w

-- from five half rows of each parity
abbrev pub row_from : (w h side : ℕ) (e o : List ℕ) → List ℕ
row_from w h side e o = cond (eqb side 0) (blend_row_in w h side e (part (2 * h) h o)) (blend_row_in w h side o (part (2 * h) h e))

-- row i of a block whose first row has its red and blue pixels at the columns odd, odd + 2, ..
abbrev pub block_row : (w odd : ℕ) (e o : List ℕ) (i : ℕ) → List ℕ
block_row w odd e o i = let h = places w in row_from w h ((odd + i) % 2) (part (i * h) (5 * h) e) (part (i * h) (5 * h) o)

-- lengths that suffice for the variations, the estimates and the two half rows of a row w wide
pub record Room (w variations estimates half other_half : ℕ) : Type 0 where
  pub for-variations : 2 * ((w + 1) / 2) ≤ variations
  pub for-estimates : 2 * ((w + 1) / 2) ≤ estimates
  pub for-half : (w + 1) / 2 ≤ half
  pub for-other-half : (w + 1) / 2 ≤ other_half
