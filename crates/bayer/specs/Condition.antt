-- Conditions of refusals. Assumes nothing.
use Rattle.std.specs.Prelude.{ℕ, ◌+◌, ◌*◌, ◌≤◌, Bool, not, ◌||◌, List, [], ◌∷◌, ◌++◌, ltb, eqb}
use Rattle.lists.specs.Bound.{any_above}
use Rattle.bayer.specs.declared.frame.Frame.{Frame}
use Rattle.bayer.specs.declared.refusal.Refusal.TheVariants.{SizeOutOfRange, UnknownLayout, UnknownSmoothing, RowsOutsideFrame, WrongPlaneLength, ReadingOutOfRange}
use Rattle.bayer.specs.Refusal.{Case, ◌when◌}

-- 1, for a width or a height: outside 2 to 4096
abbrev pub outside_sizes : ℕ → Bool
outside_sizes n = ltb n 2 || ltb 4096 n

abbrev pub size_cases : (width height : ℕ) → List Case
size_cases width height = (SizeOutOfRange when (outside_sizes width || outside_sizes height)) ∷ []

-- 2: a layout above 3
abbrev pub outside_layouts : (layout : ℕ) → Bool
outside_layouts layout = ltb 3 layout

abbrev pub layout_cases : (layout : ℕ) → List Case
layout_cases layout = (UnknownLayout when outside_layouts layout) ∷ []

-- 1 and 2, of a frame description
abbrev pub frame_cases : Frame → List Case
frame_cases f = size_cases f.width f.height ++ layout_cases f.layout

-- a frame that neither is refused for
pub record FrameFits (f : Frame) : Type 0 where
  pub wide : 2 ≤ f.width
  pub narrow : f.width ≤ 4096
  pub high : 2 ≤ f.height
  pub low : f.height ≤ 4096
  pub known : f.layout ≤ 3

-- 10, which strip calls test, and no other routine that takes a frame: a smoothing above 1
abbrev pub smoothing_cases : (smoothing : ℕ) → List Case
smoothing_cases smoothing = (UnknownSmoothing when ltb 1 smoothing) ∷ []

-- 3, of n rows from row a on: there is none, or they run past the frame
abbrev pub rows_outside : (H a n : ℕ) → Bool
rows_outside H a n = eqb n 0 || ltb H (a + n)

abbrev pub rows_cases : Frame → (a n : ℕ) → List Case
rows_cases f a n = (RowsOutsideFrame when rows_outside f.height a n) ∷ []

-- 5, of three planes: one of them is not so long
abbrev pub planes_misfit : (size red green blue : ℕ) → Bool
planes_misfit size red green blue = not (eqb red size) || (not (eqb green size) || not (eqb blue size))

-- 5, of one list that is lent
abbrev pub misfit_cases : (size lent : ℕ) → List Case
misfit_cases size lent = (WrongPlaneLength when not (eqb lent size)) ∷ []

-- 6: some reading is above 4095
abbrev pub range_cases : (readings : List ℕ) → List Case
range_cases readings = (ReadingOutOfRange when any_above 4095 readings) ∷ []

-- 7: a plane of this length lacks row i
abbrev pub lacks_row : (length w i : ℕ) → Bool
lacks_row length w i = ltb length ((i + 1) * w)
