-- What a strip call on a whole frame answers is what is printed of the frame; and where its smoothing is 0, as the programs name it, the number is not 10. Assumes nothing.
use Prim.Native.Nat.{ℕ, zero, suc, ◌*◌}
use mathlib.Core.Path.{◌≡◌, refl, sym, ◌∙◌}
use mathlib.Core.List.{List, ◌++◌}
use lib.ListN.{length}
use Rattle.bayer.specs.declared.colour.Colour.TheVariants.{Red, Green, Blue}
use Rattle.bayer.specs.declared.frame.Frame.{Frame}
use Rattle.bayer.specs.Planes.{Planes}
use Rattle.bayer.specs.Condition.{frame_cases, smoothing_cases, range_cases}
use Rattle.bayer.specs.Refusal.{first_of}
use Rattle.bayer.proofs.RefusalLaws.{skip}
use Rattle.strip.specs.declared.entry.Entry.TheVariants.{FullSize}
use Rattle.strip.specs.Strip.{asked, Promise}
use Rattle.strip.proofs.WholeFrame.{whole-number, whole-plane}
use Rattle.plane_text.specs.Text.{lines, printed}
use Rattle.plane_text.proofs.LineLaws.{same_lines}
use Rattle.frame_text.specs.FrameText.{frame_text, whole_number}

pub number-evenly : (f : Frame) (readings : List ℕ) → f.smoothing ≡ 0 → whole_number f readings ≡ first_of (frame_cases f ++ range_cases readings)
unfolding first_of
number-evenly f readings e = skip (frame_cases f) (smoothing_cases f.smoothing) (range_cases readings) (λ _. rw e)

module _ (f : Frame) (mosaic : List ℕ) (long : length mosaic ≡ f.width * f.height) {lent after : Planes} {number : ℕ}
    (p : Promise (asked FullSize f 0 f.height mosaic) lent number after)
    (r : length (lent Red) ≡ length mosaic) (g : length (lent Green) ≡ length mosaic) (b : length (lent Blue) ≡ length mosaic) where
  numbered : number ≡ whole_number f mosaic
  numbered = p.number ∙ whole-number f mosaic long (r ∙ long) (g ∙ long) (b ∙ long)

  printed_by : (n : ℕ) → n ≡ number → frame_text n f mosaic ≡ printed n (lines after)
  unfolding frame_text printed
  printed_by zero z = sym (same_lines _ _ (whole-plane f mosaic p (sym z) Red) (whole-plane f mosaic p (sym z) Green) (whole-plane f mosaic p (sym z) Blue))
  printed_by (suc n) z = refl

  pub printed_whole : printed number (lines after) ≡ frame_text (whole_number f mosaic) f mosaic
  printed_whole = rw (← numbered) (sym (printed_by number refl))
