-- Test frames and strip calls. Assumes nothing.
use Prim.Native.Nat.{ℕ, ◌*◌, ◌≤◌}
use mathlib.Core.Path.{◌≡◌}
use mathlib.Core.Bool.{false}
use mathlib.Core.List.{List}
use native.Mathlib.Omega.{arith}
use Rattle.lists.specs.Bound.{any_above}
use Rattle.lists.proofs.AnyLaws.{above-none}
use Rattle.lists.proofs.BoundLaws.{all-part}
use Rattle.bayer.specs.declared.frame.Frame.{Frame}
use Rattle.bayer.specs.Piece.{piece_start, piece_rows, piece_of}
use Rattle.bayer.proofs.RefusalLaws.{never}
use Rattle.strip.specs.declared.entry.Entry.{Entry}
use Rattle.strip.specs.Strip.{asked, strip_number}
use Rattle.test_frames.specs.TestFrame.{test_frame}
use Rattle.test_frames.proofs.FrameLaws.{readings-range}

module _ (f : Frame) (seed a n : ℕ) where
  abbrev piece : List ℕ
  piece = piece_of f.width f.height a n (test_frame seed f.width f.height)

  in-range : any_above 4095 piece ≡ false
  in-range = above-none 4095 piece (all-part (λ x. x ≤ 4095) 0 (omega arith) (piece_start a * f.width) (piece_rows f.height a n * f.width) _ (readings-range seed (f.width * f.height)))

  -- a strip call, by either entry, that is brought a piece of a test frame is never refused with 6
  pub never-over-range : (e : Entry) (red green blue : ℕ) → strip_number (asked e f a n piece) red green blue ≡ 6 → ⊥
  unfolding strip_number
  never-over-range e red green blue =
      never 6 (omega arith) _ (
        λ z. absurd (omega arith),
        (λ z. absurd (omega arith), (λ z. absurd (omega arith), (λ z. absurd (omega arith), (λ z. absurd (omega arith), (λ z. absurd (omega arith), (λ z. absurd (omega arith), (λ z. in-range, tt))))))),
      )
