-- What a call that gives the mosaic back delivers: readings in range, from the observed samples alone; and planes from which it gives back known readings. Assumes nothing.
use Prim.Native.Nat.{ℕ, ◌+◌, ◌*◌, ◌/◌, ◌%◌, ◌≤◌, ◌<◌}
use mathlib.Core.Path.{◌≡◌, refl, sym, ap, ◌∙◌}
use mathlib.Core.Bool.{false, not}
use mathlib.Core.List.{List}
use native.Mathlib.Omega.{arith}
use borrow.Author.Tests.{eq-eqb, le-ltb, ltb-false}
use lib.Dec.{ltb, eqb}
use lib.ListN.{length, get_or}
use Rattle.whole.proofs.Tests.{neither}
use Rattle.lists.specs.Any.{any}
use Rattle.lists.specs.Bound.{AllAtMost}
use Rattle.lists.proofs.AnyLaws.{parts_none, none-in-parts}
use Rattle.lists.proofs.BoundLaws.{all-parts}
use Rattle.lists.proofs.JoinedLaws.{parts_same, joined-entries}
use Rattle.bayer.specs.declared.colour.Colour.{Colour}
use Rattle.bayer.specs.declared.colour.Colour.TheVariants.{Red, Green, Blue}
use Rattle.bayer.specs.declared.frame.Frame.{Frame}
use Rattle.bayer.specs.Frame.{smoothed}
use Rattle.bayer.specs.Planes.{Planes}
use Rattle.bayer.specs.Refusal.{held_after}
use Rattle.bayer.proofs.RefusalLaws.{delivers}
use Rattle.remosaic.specs.MosaicBack.{observed, observed_rows, not_of_camera, mosaic_number, mosaic_rows, MosaicPromise, ComesBack}
use Rattle.remosaic.specs.Rows.{RowsLent}
use Rattle.remosaic.proofs.NumberLaws.{fits, accepted}

-- the smoothing is neither tested nor read
pub any-smoothing : (w h layout c d a n : ℕ) (planes : Planes) (mosaic : ℕ)
    → (mosaic_number (smoothed w h layout c) a n planes mosaic ≡ mosaic_number (smoothed w h layout d) a n planes mosaic) × (mosaic_rows (smoothed w h layout c) a n planes ≡ mosaic_rows (smoothed w h layout d) a n planes)
unfolding mosaic_number
any-smoothing w h layout c d a n planes mosaic = (refl, refl)

pub back-any-smoothing : (w h layout c d a n : ℕ) {planes : Planes} {readings : List ℕ} → ComesBack (smoothed w h layout c) a n planes readings → ComesBack (smoothed w h layout d) a n planes readings
unfolding mosaic_number
back-any-smoothing w h layout c d a n b = record { camera = b.camera; back = b.back }

module _ (f : Frame) (a n : ℕ) where
  -- every reading that a call delivers is at most 4095
  pub mosaic-range : (planes : Planes) {lent after : List ℕ} {answer : ℕ} → MosaicPromise f a n planes lent answer after → answer ≡ 0 → AllAtMost 4095 after
  mosaic-range planes {lent} p e =
      rw (delivers p e)
      (all-parts (λ x. x ≤ 4095) 0 (omega arith) (λ i j. observed f a planes i j / 16) f.width n
      (λ i j h k. in-range (observed f a planes i j) (none-in-parts not_of_camera (observed f a planes) f.width n (fits f a n planes (length lent) (sym p.answered ∙ e)).camera i j h k)))
    where
      in-range : (s : ℕ) → not_of_camera s ≡ false → s / 16 ≤ 4095
      in-range s z = let h : s ≤ 65520 = ltb-false 65520 s (neither (not (eqb (s % 16) 0)) (ltb 65520 s) z).1 in omega arith

  -- the samples that are not observed decide nothing
  pub observed-decide : (p q : Planes) (mosaic : ℕ) → ((k : Colour) → length (p k) ≡ length (q k)) → ((i j : ℕ) → i < n → j < f.width → observed f a p i j ≡ observed f a q i j)
      → (mosaic_number f a n p mosaic ≡ mosaic_number f a n q mosaic) × (mosaic_rows f a n p ≡ mosaic_rows f a n q)
  unfolding mosaic_number
  observed-decide p q mosaic l h =
      let s : observed_rows f a n p ≡ observed_rows f a n q = parts_same (observed f a p) (observed f a q) f.width n h in
      (rw (l Red, l Green, l Blue, s), parts_same _ _ f.width n (λ i j g k. ap (λ x. x / 16) (h i j g k)))

  -- so planes that were edited elsewhere give back what they gave before
  pub edited-back : (p q : Planes) {readings : List ℕ} → ((k : Colour) → length (p k) ≡ length (q k)) → ((i j : ℕ) → i < n → j < f.width → observed f a p i j ≡ observed f a q i j)
      → ComesBack f a n p readings → ComesBack f a n q readings
  edited-back p q l h b = record {
    camera = sym (ap (any not_of_camera) (parts_same (observed f a p) (observed f a q) f.width n h)) ∙ b.camera;
    back = λ {lent} {after} {answer} e c.
        let d = observed-decide p q (length lent) l h in
        b.back e (record { answered = c.answered ∙ sym d.0; held = c.held ∙ ap (λ x. held_after answer x lent) (sym d.1) });
  }

  -- planes whose observed samples are 16 times these readings
  module _ (planes : Planes) (readings : List ℕ) (lent : RowsLent f a n planes) (some : 0 < n) (long : length readings ≡ n * f.width)
      (sixteen : (i j : ℕ) → i < n → j < f.width → observed f a planes i j ≡ 16 * get_or readings (i * f.width + j) 0)
      (range : (i j : ℕ) → i < n → j < f.width → get_or readings (i * f.width + j) 0 ≤ 4095) where
    of-camera : (x : ℕ) → x ≤ 4095 → not_of_camera (16 * x) ≡ false
    of-camera x h = rw (eq-eqb (16 * x % 16) 0 (omega arith), le-ltb 65520 (16 * x) (omega arith))

    camera : any not_of_camera (observed_rows f a n planes) ≡ false
    camera = parts_none not_of_camera (observed f a planes) f.width n (λ i j h k. rw (sixteen i j h k) (of-camera _ (range i j h k)))

    divided : mosaic_rows f a n planes ≡ readings
    divided =
        parts_same _ _ f.width n (λ i j h k. rw (sixteen i j h k) (let e : 16 * get_or readings (i * f.width + j) 0 / 16 ≡ get_or readings (i * f.width + j) 0 = omega arith in e))
        ∙ joined-entries f.width n readings long

    pub comes_back : ComesBack f a n planes readings
    comes_back = record {
      camera = camera;
      back = λ e p.
          let z = p.answered ∙ accepted f a n planes _ some (record { lent = lent; room = e; camera = camera }) in
          (z, delivers p z ∙ divided);
    }
