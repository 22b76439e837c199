-- What holds of a frame that is not refused; and what the program prints: for other than nine bytes, for a refused frame, and for any other. Assumes nothing.
use Prim.Native.Nat.{ℕ, ◌*◌, ◌≤◌, ◌<◌}
use mathlib.Core.Path.{◌≡◌, sym, ◌∙◌}
use mathlib.Core.List.{List}
use native.Mathlib.Omega.{arith}
use borrow.Author.Tests.{eq-eqb, lt-ltb, ltb-false}
use lib.ListN.{length}
use Rattle.bayer.specs.declared.frame.Frame.{Frame}
use Rattle.bayer.specs.Condition.{size_cases, layout_cases, frame_cases, range_cases}
use Rattle.bayer.specs.declared.refusal.Refusal.{Refusal}
use Rattle.bayer.specs.Refusal.{number, first_of}
use Rattle.bayer.proofs.RefusalLaws.{number_positive, later, off, off-append, on-append}
use Rattle.bayer.proofs.ConditionLaws.{readings-pass}
use Rattle.plane_text.specs.Text.{refusal_line}
use Rattle.plane_text.proofs.LineLaws.{refused-line}
use Rattle.frame_text.specs.FrameText.{frame_text, whole_number}
use Rattle.frame_text.proofs.FrameTextLaws.{number-evenly}
use Rattle.test_frames.specs.TestFrame.{test_frame}
use Rattle.test_frames.proofs.FrameLaws.{readings-range}
use Rattle.test_bytes.specs.TestBytes.{frame_of, readings, large_cases, named_cases, bytes_number, output}

-- the sizes and the layout pass: the number of readings decides
pub too_large : (f : Frame) → first_of (frame_cases f) ≡ 0 → 4096 < f.width * f.height → first_of (named_cases f) ≡ 8
unfolding first_of
too_large f zero h = later (frame_cases f) (large_cases f) zero ∙ rw (lt-ltb 4096 (f.width * f.height) h)

-- its sizes pass, and it has at most 4096 readings
pub named-fits : (f : Frame) → first_of (named_cases f) ≡ 0 → (first_of (size_cases f.width f.height) ≡ 0) × (f.width * f.height ≤ 4096)
named-fits f e =
    let o = off-append (frame_cases f) (large_cases f) e in
    ((off-append (size_cases f.width f.height) (layout_cases f.layout) o.0).0, ltb-false 4096 (f.width * f.height) (off (large_cases f) o.1).0)

-- and a strip call over it is accepted, whatever the seed
pub strip-accepts : (f : Frame) (seed : ℕ) → first_of (named_cases f) ≡ 0 → f.smoothing ≡ 0 → whole_number f (test_frame seed f.width f.height) ≡ 0
strip-accepts f seed e z = number-evenly f (test_frame seed f.width f.height) z ∙ on-append (frame_cases f) (range_cases _) (off-append (frame_cases f) (large_cases f) e).0 (readings-pass _ (readings-range seed (f.width * f.height)))

-- nine bytes: the number is that of the frame
pub nine_output : (bytes : List ℕ) → length bytes ≡ 9 → output bytes ≡ frame_text (first_of (named_cases (frame_of bytes))) (frame_of bytes) (readings bytes)
unfolding output bytes_number first_of
nine_output bytes nine = rw (eq-eqb (length bytes) 9 nine)

module _ (f : Frame) (seed : ℕ) where
  -- of a refused frame, the line of its refusal
  pub refused_text : (r : Refusal) → number r ≡ first_of (named_cases f) → refusal_line (number r) ≡ frame_text (first_of (named_cases f)) f (test_frame seed f.width f.height)
  unfolding frame_text
  refused_text r e = rw (← e) (sym (refused-line (number r) _ (λ z. omega (arith, number_positive r, z))))

  -- of an accepted one, what is printed of its walk
  pub accepted_text : {r : List ℕ} → first_of (named_cases f) ≡ 0 → f.smoothing ≡ 0 → r ≡ test_frame seed f.width f.height
      → frame_text (whole_number f r) f r ≡ frame_text (first_of (named_cases f)) f (test_frame seed f.width f.height)
  accepted_text e z w = rw (w, strip-accepts f seed e z, e)
