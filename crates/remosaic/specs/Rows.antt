-- Rows of observed samples, as the code takes them from rows of planes. Assumes nothing.
use Rattle.std.specs.Prelude.{ℕ, ◌+◌, ◌*◌, ◌≤◌, ◌≡◌, cond, List, length, get_or}
use Rattle.bayer.specs.declared.colour.Colour.{Colour}
use Rattle.bayer.specs.declared.frame.Frame.{Frame}
use Rattle.bayer.specs.Condition.{FrameFits}
use Rattle.bayer.specs.Parity.{is_odd}
use Rattle.bayer.specs.Planes.{Planes}

-- planes of n rows, from row a on, of a frame that is not refused
pub record RowsLent (f : Frame) (a n : ℕ) (planes : Planes) : Type 0 where
  pub frame : FrameFits f
  pub inside : a + n ≤ f.height
  pub long : (k : Colour) → length (planes k) ≡ n * f.width

-- column j of a row, from the row in the green plane and in that of the colour that shares it: green is at the columns j where j + odd is odd
abbrev pub observed_in : (odd : ℕ) (green other : List ℕ) (j : ℕ) → ℕ
observed_in odd green other j = cond (is_odd (j + odd)) (get_or green j 0) (get_or other j 0)
