-- What an accepted call was lent, and which call is accepted. Assumes nothing.
use Prim.Native.Nat.{ℕ, ◌*◌, ◌<◌}
use mathlib.Core.Path.{◌≡◌, ◌∙◌}
use mathlib.Core.Bool.{false, not}
use mathlib.Core.List.{◌++◌}
use borrow.Author.Tests.{eq-eqb}
use lib.Dec.{eqb}
use lib.ListN.{length}
use Rattle.whole.proofs.Tests.{neither}
use Rattle.lists.specs.Any.{any}
use Rattle.bayer.specs.declared.colour.Colour.{Colour}
use Rattle.bayer.specs.declared.colour.Colour.TheVariants.{Red, Green, Blue}
use Rattle.bayer.specs.declared.frame.Frame.{Frame}
use Rattle.bayer.specs.Condition.{frame_cases, rows_cases, planes_misfit}
use Rattle.bayer.specs.Planes.{Planes}
use Rattle.bayer.specs.Refusal.{first_of}
use Rattle.bayer.proofs.RefusalLaws.{later, off, on, off-append}
use Rattle.bayer.proofs.ConditionLaws.{frame-fits, frame-passes, rows_fit, rows_pass, same_number, planes-fit, planes-pass}
use Rattle.remosaic.specs.MosaicBack.{observed_rows, not_of_camera, lent_cases, mosaic_number}
use Rattle.remosaic.specs.Rows.{RowsLent}

module _ (f : Frame) (a n : ℕ) (planes : Planes) where
  -- where 1, 2, 3 and 5 of the planes do not hold
  pub rows-lent : first_of (frame_cases f ++ rows_cases f a n) ≡ 0 → planes_misfit (n * f.width) (length (planes Red)) (length (planes Green)) (length (planes Blue)) ≡ false → RowsLent f a n planes
  rows-lent e m = record { frame = frame-fits f o.0; inside = (rows_fit f a n o.1).1; long = long }
    where
      o : (first_of (frame_cases f) ≡ 0) × (first_of (rows_cases f a n) ≡ 0)
      o = off-append (frame_cases f) (rows_cases f a n) e

      p : (length (planes Red) ≡ n * f.width) × (length (planes Green) ≡ n * f.width) × (length (planes Blue) ≡ n * f.width)
      p = planes-fit (n * f.width) (length (planes Red)) (length (planes Green)) (length (planes Blue)) m

      long : (k : Colour) → length (planes k) ≡ n * f.width
      long Red = p.0
      long Green = p.1
      long Blue = p.2

  pub record Fits (mosaic : ℕ) : Type 0 where
    pub lent : RowsLent f a n planes
    pub room : mosaic ≡ n * f.width
    pub camera : any not_of_camera (observed_rows f a n planes) ≡ false

  pub fits : (mosaic : ℕ) → mosaic_number f a n planes mosaic ≡ 0 → Fits mosaic
  unfolding mosaic_number
  fits mosaic e =
      let o = off-append (frame_cases f ++ rows_cases f a n) (lent_cases f a n planes mosaic) e in
      let l = off (lent_cases f a n planes mosaic) o.1 in
      let m = neither (planes_misfit (n * f.width) (length (planes Red)) (length (planes Green)) (length (planes Blue))) (not (eqb mosaic (n * f.width))) l.0 in
      record { lent = rows-lent o.0 m.0; room = same_number mosaic (n * f.width) m.1; camera = l.1.0 }

  pub accepted : (mosaic : ℕ) → 0 < n → Fits mosaic → mosaic_number f a n planes mosaic ≡ 0
  unfolding mosaic_number
  accepted mosaic h w =
      let l = w.lent.long in
      later (frame_cases f) (rows_cases f a n ++ lent_cases f a n planes mosaic) (frame-passes f w.lent.frame)
      ∙ later (rows_cases f a n) (lent_cases f a n planes mosaic) (rows_pass f a n h w.lent.inside)
      ∙ on (lent_cases f a n planes mosaic) (rw (planes-pass (n * f.width) _ _ _ (l Red) (l Green) (l Blue), eq-eqb mosaic (n * f.width) w.room), (w.camera, tt))
