-- The program refuses every file of 8203 bytes or more. Assumes nothing.
use Rattle.std.specs.Prelude.{ℕ, ◌≤◌, ◌≡◌, List, length}
use borrow.Author.Tests.{lt-ltb}
use Rattle.bayer.specs.Refusal.{first_of}
use Rattle.plane_text.specs.Text.{refusal_line, printed}
use Rattle.frame_text.specs.FrameText.{frame_text}
use Rattle.frame_file.specs.FrameFile.{malformed, file_number, output}

pub long_line : (bytes : List ℕ) → 8203 ≤ length bytes → output bytes ≡ refusal_line 8
unfolding output frame_text printed file_number first_of malformed
long_line bytes h = rw (lt-ltb 8202 (length bytes) h)
