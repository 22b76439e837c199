-- Green at a red or blue pixel by logistic blend (A.8; source 002, equations 8 and 13), in whole numbers. Assumes nothing.
use Rattle.std.specs.Prelude.{ℕ, ◌+◌, ◌-◌, ◌/◌, cond, ltb, ℤ, pos, nat_abs, ◌+ℤ◌, ◌-ℤ◌, ◌*ℤ◌}
use Rattle.whole.specs.Floor.{floor_div}
use Rattle.whole.specs.Clamp.{clamp}
use Rattle.blend.specs.declared.axis.Axis.{Axis}
use Rattle.blend.specs.Logistic.{weight_at}

-- along the row or the column: centre c, neighbours l and r, second neighbours p and q.
-- Document 02's variation (Hamilton and Adams, US patent 5,629,734; source 002's equation 2 has half of it), and its X, four times the directional estimate of green (source 004, equation 4)
unfoldable pub axis : (c l r p q : ℕ) → Axis
axis c l r p q = record {
  variation = nat_abs (pos l -ℤ pos r) + nat_abs (pos 2 *ℤ pos c -ℤ pos p -ℤ pos q);
  estimate = pos 2 *ℤ (pos l +ℤ pos r) +ℤ pos 2 *ℤ pos c -ℤ pos p -ℤ pos q;
}

-- document 02's k: the distance of the two variations, divided by 16 and rounded down. (Source 002's k is another number, the 1/20 of the exponential.)
abbrev pub step : (more less : Axis) → ℕ
step more less = (more.variation - less.variation) / 16

-- the one that varies more has the weight w, the other 65536 less it
abbrev pub weighted : (w : ℕ) (more less : Axis) → ℤ
weighted w more less = pos w *ℤ more.estimate +ℤ pos (65536 - w) *ℤ less.estimate

-- the weighted sum divided by 16384, to the nearest unit, halves upward
unfoldable pub rounded : (more less : Axis) → ℤ
rounded more less = floor_div (weighted (weight_at (step more less)) more less +ℤ pos 8192) 16384

-- a rule for the axis that varies more and the other, of the row's and the column's. (If they vary alike, k is 0 and both have the weight 32768.)
abbrev pub by_variation : {A : Type 0} → ((more less : Axis) → A) → (row column : Axis) → A
by_variation rule row column = cond (ltb column.variation row.variation) (rule row column) (rule column row)

-- green in units before it is clamped
unfoldable pub unclamped_blend : (row column : Axis) → ℤ
unclamped_blend row column = by_variation rounded row column

-- clamped: document 01 says "stopped". (Source 002 also clips to the picture's own extremes; document 02 does not.)
unfoldable pub blend : (row column : Axis) → ℕ
blend row column = clamp (unclamped_blend row column)
