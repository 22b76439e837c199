-- What a program prints of a frame. Assumes nothing.
use Rattle.std.specs.Prelude.{ℕ, List, ◌++◌}
use Rattle.bayer.specs.declared.frame.Frame.{Frame}
use Rattle.bayer.specs.Condition.{frame_cases, smoothing_cases, range_cases}
use Rattle.bayer.specs.Refusal.{first_of}
use Rattle.demosaic.specs.Sample.{frame_plane}
use Rattle.plane_text.specs.Text.{lines, printed}

-- the lines of its planes, by its readings; or, of another number than 0, the line of that refusal
unfoldable pub frame_text : (number : ℕ) → Frame → (readings : List ℕ) → List ℕ
frame_text number f readings = printed number (lines (frame_plane f readings))

-- the number of a strip call by the full-size entry over the whole frame that is lent all its readings: 1, 2; 10; 6
abbrev pub whole_number : Frame → (readings : List ℕ) → ℕ
whole_number f readings = first_of (frame_cases f ++ (smoothing_cases f.smoothing ++ range_cases readings))
