-- The nine bytes that name a test frame, and what the program prints of them. Assumes nothing.
use Rattle.std.specs.Prelude.{ℕ, ◌*◌, not, List, [], ◌∷◌, ◌++◌, ltb, eqb, length}
use Rattle.frame_bytes.specs.FrameBytes.{big_endian, frame_at}
use Rattle.bayer.specs.declared.frame.Frame.{Frame}
use Rattle.bayer.specs.Condition.{frame_cases}
use Rattle.bayer.specs.declared.refusal.Refusal.TheVariants.{MalformedFile}
use Rattle.bayer.specs.Refusal.{Case, ◌when◌, first_of}
use Rattle.frame_text.specs.FrameText.{frame_text}
use Rattle.test_frames.specs.TestFrame.{test_frame}

-- seed, four bytes; W and H, two bytes each; layout, one
abbrev pub seed_of : (bytes : List ℕ) → ℕ
seed_of bytes = big_endian bytes 0 4

abbrev pub frame_of : (bytes : List ℕ) → Frame
frame_of bytes = frame_at bytes 4

abbrev pub readings : (bytes : List ℕ) → List ℕ
readings bytes = test_frame (seed_of bytes) (frame_of bytes).width (frame_of bytes).height

-- 8: W × H is above 4096
abbrev pub large_cases : Frame → List Case
large_cases f = (MalformedFile when ltb 4096 (f.width * f.height)) ∷ []

-- of the frame that is named: 1, 2; then 8, if it is too large
abbrev pub named_cases : Frame → List Case
named_cases f = frame_cases f ++ large_cases f

-- the program's number: 8, if there are not exactly nine bytes; then the cases of the frame. 0 where none holds
unfoldable pub bytes_number : (bytes : List ℕ) → ℕ
bytes_number bytes = first_of ((MalformedFile when not (eqb (length bytes) 9)) ∷ named_cases (frame_of bytes))

-- WHAT THE PROGRAM PRINTS, for any bytes
unfoldable pub output : (bytes : List ℕ) → List ℕ
output bytes = frame_text (bytes_number bytes) (frame_of bytes) (readings bytes)
