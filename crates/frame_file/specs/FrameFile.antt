-- The frame file, and what the small program prints of it. Assumes nothing.
use Rattle.std.specs.Prelude.{ℕ, ◌+◌, ◌*◌, Bool, not, ◌||◌, List, ◌∷◌, ◌++◌, ltb, eqb, length, get_or, drop}
use Rattle.lists.specs.Table.{table}
use Rattle.frame_bytes.specs.FrameBytes.{big_endian, frame_at}
use Rattle.bayer.specs.declared.frame.Frame.{Frame}
use Rattle.bayer.specs.Condition.{frame_cases, range_cases}
use Rattle.bayer.specs.declared.refusal.Refusal.TheVariants.{MalformedFile}
use Rattle.bayer.specs.Refusal.{◌when◌, first_of}
use Rattle.frame_text.specs.FrameText.{frame_text}

-- a version byte; a four-byte length of all that follows it; W and H, two bytes each; one layout byte; W × H readings, two bytes each
abbrev pub version : (bytes : List ℕ) → ℕ
version bytes = get_or bytes 0 0

abbrev pub rest_length : (bytes : List ℕ) → ℕ
rest_length bytes = big_endian bytes 1 4

abbrev pub frame_of : (bytes : List ℕ) → Frame
frame_of bytes = frame_at bytes 5

unfoldable pub readings : (bytes : List ℕ) → List ℕ
readings bytes = table (λ k. big_endian bytes (10 + 2 * k) 2) ((frame_of bytes).width * (frame_of bytes).height)

-- 8: over 8202 bytes, under 10, version not 1, length not that of the rest, or not 5 + 2 × W × H
unfoldable pub malformed : (bytes : List ℕ) → Bool
malformed bytes =
    ltb 8202 (length bytes)
    || (ltb (length bytes) 10
    || (not (eqb (version bytes) 1)
    || (not (eqb (rest_length bytes) (length (drop 5 bytes)))
    || not (eqb (rest_length bytes) (5 + 2 * (frame_of bytes).width * (frame_of bytes).height)))))

-- the program's number: 8, then 1, 2, 6; 0 where none holds
unfoldable pub file_number : (bytes : List ℕ) → ℕ
file_number bytes = first_of ((MalformedFile when malformed bytes) ∷ (frame_cases (frame_of bytes) ++ range_cases (readings bytes)))

-- WHAT THE PROGRAM PRINTS, for any bytes
unfoldable pub output : (bytes : List ℕ) → List ℕ
output bytes = frame_text (file_number bytes) (frame_of bytes) (readings bytes)
