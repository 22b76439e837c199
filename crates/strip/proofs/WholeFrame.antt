-- A strip call over a whole frame: by the full-size entry tests 3, 4 and 5 are passed, and by either what is accepted delivers the frame's planes. Assumes nothing.
use Prim.Native.Nat.{ℕ, ◌*◌}
use mathlib.Core.Path.{◌≡◌, ap, ◌∙◌}
use mathlib.Core.Bool.{false, not}
use mathlib.Core.List.{List, ◌++◌}
use native.Mathlib.Nat.{mul_comm}
use native.Mathlib.Omega.{arith}
use borrow.Author.Tests.{eq-eqb}
use lib.Dec.{eqb}
use lib.ListN.{length}
use Rattle.bayer.specs.declared.colour.Colour.{Colour}
use Rattle.bayer.specs.declared.frame.Frame.{Frame}
use Rattle.bayer.specs.Planes.{Planes}
use Rattle.bayer.specs.Piece.{piece_rows}
use Rattle.bayer.specs.Refusal.{Case, first_of}
use Rattle.bayer.specs.Condition.{frame_cases, smoothing_cases, rows_cases, planes_misfit, range_cases}
use Rattle.bayer.proofs.RefusalLaws.{on, skip, off-append}
use Rattle.bayer.proofs.ConditionLaws.{frame-fits, rows_pass, planes-pass}
use Rattle.demosaic.specs.Sample.{frame_plane}
use Rattle.strip.specs.declared.entry.Entry.{Entry}
use Rattle.strip.specs.declared.entry.Entry.TheVariants.{FullSize}
use Rattle.strip.specs.Strip.{asked, entry_cases, length_cases, strip_number, Promise}
use Rattle.strip.proofs.Demand2.{accepted-plane}

module _ (f : Frame) (readings : List ℕ) (long : length readings ≡ f.width * f.height) {red green blue : ℕ} (r : red ≡ f.width * f.height) (g : green ≡ f.width * f.height) (b : blue ≡ f.width * f.height) where
  abbrev H : ℕ
  H = f.height

  turned : f.width * H ≡ H * f.width
  turned = mul_comm f.width H

  rows : first_of (frame_cases f) ≡ 0 → first_of (rows_cases f 0 H) ≡ 0
  rows e = let high = (frame-fits f e).high in rows_pass f 0 H (omega arith) (omega arith)

  piece : not (eqb (length readings) (piece_rows H 0 H * f.width)) ≡ false
  piece =
      let p : H ≡ piece_rows H 0 H = omega arith in
      rw (eq-eqb (length readings) (piece_rows H 0 H * f.width) (long ∙ turned ∙ ap (λ x. x * f.width) p))

  planes : planes_misfit (H * f.width) red green blue ≡ false
  planes = planes-pass (H * f.width) red green blue (r ∙ turned) (g ∙ turned) (b ∙ turned)

  -- of what is named of the frame
  abbrev named : List Case
  named = frame_cases f ++ smoothing_cases f.smoothing

  pub whole-number : strip_number (asked FullSize f 0 H readings) red green blue ≡ first_of (frame_cases f ++ (smoothing_cases f.smoothing ++ range_cases readings))
  unfolding strip_number first_of
  whole-number =
      skip named (rows_cases f 0 H) (entry_cases FullSize f.width H ++ (length_cases f 0 H readings red green blue ++ range_cases readings)) (λ e. rows (off-append (frame_cases f) (smoothing_cases f.smoothing) e).0)
      ∙ skip named (length_cases f 0 H readings red green blue) (range_cases readings) (λ e. on (length_cases f 0 H readings red green blue) (piece, (planes, tt)))

pub whole-plane : {e : Entry} (f : Frame) (readings : List ℕ) {lent after : Planes} {answer : ℕ} → Promise (asked e f 0 f.height readings) lent answer after → answer ≡ 0 → (k : Colour) → after k ≡ frame_plane f readings k
whole-plane f readings p z k = accepted-plane p z k
