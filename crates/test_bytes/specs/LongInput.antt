-- The program refuses every input of other than nine bytes, and so of ten or more. Assumes nothing.
use Rattle.std.specs.Prelude.{ℕ, ◌≤◌, ◌≡◌, List, length}
use Rattle.std.proofs.Common.{arith}
use borrow.Author.Tests.{ne_eqb}
use Rattle.bayer.specs.Refusal.{first_of}
use Rattle.plane_text.specs.Text.{refusal_line, printed}
use Rattle.frame_text.specs.FrameText.{frame_text}
use Rattle.test_bytes.specs.TestBytes.{bytes_number, output}

pub not-nine : (bytes : List ℕ) → (length bytes ≡ 9 → ⊥) → output bytes ≡ refusal_line 8
unfolding output frame_text printed bytes_number first_of
not-nine bytes h = rw (ne_eqb (length bytes) 9 h)

pub long_line : (bytes : List ℕ) → 10 ≤ length bytes → output bytes ≡ refusal_line 8
long_line bytes h = not-nine bytes (λ e. omega (arith, h, e))
