-- The preview beside the full-size entry: what it accepts, what number each answers, and that both deliver the same samples. Assumes nothing.
use Prim.Native.Nat.{ℕ, ◌≤◌, ◌<◌}
use mathlib.Core.Path.{◌≡◌, refl, sym, ◌∙◌}
use mathlib.Core.Bool.{Bool, true, false, ◌||◌}
use mathlib.Core.Logic.{◌⊎◌, inl, inr}
use mathlib.Core.List.{List, [], ◌∷◌, ◌++◌}
use native.Mathlib.Omega.{arith}
use borrow.Author.Tests.{ltb-false, lt-ltb, le-ltb}
use lib.Dec.{ltb}
use Rattle.whole.proofs.Tests.{neither}
use Rattle.bayer.specs.declared.colour.Colour.{Colour}
use Rattle.bayer.specs.declared.frame.Frame.{Frame}
use Rattle.bayer.specs.Planes.{Planes}
use Rattle.bayer.specs.declared.refusal.Refusal.TheVariants.{OverPreviewSize}
use Rattle.bayer.specs.Refusal.{◌when◌, first_of}
use Rattle.bayer.specs.Condition.{frame_cases, smoothing_cases, rows_cases, range_cases}
use Rattle.bayer.proofs.RefusalLaws.{or_else, first-append, never}
use Rattle.strip.specs.declared.entry.Entry.{Entry}
use Rattle.strip.specs.declared.entry.Entry.TheVariants.{FullSize, Preview}
use Rattle.strip.specs.Strip.{asked, over_preview, length_cases, strip_number, Promise}
use Rattle.strip.proofs.StripLaws.{fits}
use Rattle.strip.proofs.Demand2.{accepted-plane}

under : (columns rows : ℕ) → over_preview Preview columns rows ≡ false → (columns ≤ 1024) × (rows ≤ 64)
under columns rows h = let p = neither (ltb 1024 columns) (ltb 64 rows) h in (ltb-false 1024 columns p.0, ltb-false 64 rows p.1)

over : (columns rows : ℕ) → (1024 < columns) ⊎ (64 < rows) → over_preview Preview columns rows ≡ true
over columns rows (inl h) = rw (lt-ltb 1024 columns h)
over columns rows (inr h) = rw (lt-ltb 64 rows h) (either (ltb 1024 columns))
  where
    either : (b : Bool) → (b || true) ≡ true
    either true = refl
    either false = refl

-- ---- a call of these rows, piece and planes' lengths, by either entry
module _ (f : Frame) (a n : ℕ) (piece : List ℕ) (red green blue : ℕ) where
  abbrev number : Entry → ℕ
  number e = strip_number (asked e f a n piece) red green blue

  -- the full-size entry never answers 11
  pub full-size-never : number FullSize ≡ 11 → ⊥
  unfolding strip_number
  full-size-never =
      never 11 (omega arith) _ (
        λ z. absurd (omega arith),
        (λ z. absurd (omega arith), (λ z. absurd (omega arith), (λ z. absurd (omega arith), (λ z. refl, (λ z. absurd (omega arith), (λ z. absurd (omega arith), (λ z. absurd (omega arith), tt))))))),
      )

  -- its number is by the conditions that there were before the preview
  pub full-size-number : number FullSize ≡ first_of (frame_cases f ++ (smoothing_cases f.smoothing ++ (rows_cases f a n ++ (length_cases f a n piece red green blue ++ range_cases piece))))
  unfolding strip_number first_of
  full-size-number = refl

  same-unless-over : over_preview Preview f.width n ≡ false → number Preview ≡ number FullSize
  unfolding strip_number first_of
  same-unless-over h = rw h

  -- within the preview's limits both answer the same number
  pub within-limits : f.width ≤ 1024 → n ≤ 64 → number Preview ≡ number FullSize
  within-limits h k = same-unless-over (rw (le-ltb 1024 f.width h, le-ltb 64 n k))

  -- beyond them the preview answers 11, unless 1, 2, 10 or 3 holds
  pub beyond-limits : (1024 < f.width) ⊎ (64 < n) → number Preview ≡ or_else (first_of (frame_cases f ++ (smoothing_cases f.smoothing ++ rows_cases f a n))) 11
  unfolding strip_number first_of
  beyond-limits h = rw (over f.width n h) (first-append (frame_cases f ++ (smoothing_cases f.smoothing ++ rows_cases f a n)) ((OverPreviewSize when true) ∷ []))

  -- what the preview accepts is within its limits, and the full-size entry accepts it
  pub preview-accepts : number Preview ≡ 0 → (f.width ≤ 1024) × (n ≤ 64) × (number FullSize ≡ 0)
  preview-accepts e =
      let h = (fits (asked Preview f a n piece) red green blue e).within-preview in
      let l = under f.width n h in
      (l.0, l.1, sym (same-unless-over h) ∙ e)

-- where both entries accept, both deliver the same samples, whatever the planes held
pub both-deliver : {e e' : Entry} {f : Frame} {a n : ℕ} {piece : List ℕ} {lent lent' after after' : Planes} {answer answer' : ℕ} → Promise (asked e f a n piece) lent answer after
    → Promise (asked e' f a n piece) lent' answer' after' → answer ≡ 0 → answer' ≡ 0 → (k : Colour) → after k ≡ after' k
both-deliver p p' z z' k = accepted-plane p z k ∙ sym (accepted-plane p' z' k)
