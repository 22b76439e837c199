-- What the program prints of a malformed file, and of any other. Assumes nothing.
use Prim.Native.Nat.{ℕ}
use mathlib.Core.Path.{◌≡◌, refl}
use mathlib.Core.Bool.{true, false}
use mathlib.Core.List.{List}
use Rattle.bayer.specs.Refusal.{first_of}
use Rattle.plane_text.specs.Text.{refusal_line, printed}
use Rattle.frame_text.specs.FrameText.{frame_text, whole_number}
use Rattle.frame_text.proofs.FrameTextLaws.{number-evenly}
use Rattle.frame_file.specs.FrameFile.{frame_of, readings, malformed, file_number, output}

pub torn-line : (bytes : List ℕ) → malformed bytes ≡ true → output bytes ≡ refusal_line 8
unfolding output frame_text printed file_number first_of
torn-line bytes e = rw e

pub frame-lines : (bytes : List ℕ) → malformed bytes ≡ false → output bytes ≡ frame_text (whole_number (frame_of bytes) (readings bytes)) (frame_of bytes) (readings bytes)
unfolding output file_number first_of
frame-lines bytes e = rw (e, number-evenly (frame_of bytes) (readings bytes) refl)
