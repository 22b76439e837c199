-- Document 01's bench figures marked M, in its order (the shares are document 02's, A.4), the printed hundredths, the figures that the requests print, and readings of test frames that the other
-- implementation worked out, as a table of claims about the written rules. proofs/FigureTable.antt has the theorem. Assumes nothing.
use Rattle.std.specs.Prelude.{ℕ, zero, suc, ◌*◌, ◌≡◌, Bool, true, false, ◌&&◌, List, [], ◌∷◌, ◌++◌, T, eqb, ℤ, pos, negsuc, ◌+ℤ◌, length}
use Rattle.lists.specs.Part.{part}
use Rattle.bayer.specs.declared.colour.Colour.{Colour}
use Rattle.bayer.specs.declared.colour.Colour.TheVariants.{Red, Green, Blue}
use Rattle.bayer.specs.declared.frame.Frame.{Frame}
use Rattle.bayer.specs.Frame.{frame, smoothed}
use Rattle.bayer.specs.Mirror.{mirror}
use Rattle.bayer.specs.Planes.{three_planes}
use Rattle.bayer.specs.declared.refusal.Refusal.{Refusal}
use Rattle.bayer.specs.Refusal.{number, first_of}
use Rattle.bayer.specs.declared.refusal.Refusal.TheVariants.{SizeOutOfRange, UnknownLayout, RowsOutsideFrame, WrongPieceLength, WrongPlaneLength, ReadingOutOfRange, RowMissing, MalformedFile, NotCameraPlanes, UnknownSmoothing, OverPreviewSize}
use Rattle.bayer.specs.Condition.{size_cases}
use Rattle.gbtf.specs.declared.direction.Direction.{Direction}
use Rattle.gbtf.specs.Difference.{difference}
use Rattle.gbtf.specs.Direction.{total, guarded, direction, guarded_sum}
use Rattle.gbtf.specs.Fusion.{smallest_sum, share, shares, shared_differences, fusion}
use Rattle.gbtf.specs.Weights.{scale, weights_of}
use Rattle.demosaic.specs.Fill.{fill}
use Rattle.demosaic.specs.Exact.{printed_error}
use Rattle.strip.specs.declared.entry.Entry.{Entry}
use Rattle.strip.specs.declared.entry.Entry.TheVariants.{FullSize, Preview}
use Rattle.strip.specs.Strip.{asked, strip_number}
use Rattle.remosaic.specs.MosaicBack.{not_of_camera, mosaic_rows}
use Rattle.test_frames.specs.Generator.{readings_after}
use Rattle.worked_planes.specs.Rule.{PlanesAre}

pub data Claim : Type 0 where
  -- the difference, for a centre that is green or not
  difference_is : (green : Bool) (c l r p q : ℕ) → ℤ → Claim
  -- the shares of four directions, by their guarded sums
  shares_are : (t₁ t₂ t₃ t₄ : ℕ) → (q₁ q₂ q₃ q₄ : ℕ) → Claim
  -- for weights of total T, and any four directions of equal t whose five-sums A add to this: what fusion adds
  fusion_adds : (T : ℕ) (sum : ℤ) → ℤ → Claim
  -- a fill from n neighbours, by what their e adds to
  fill_is : (n g : ℕ) (sum : ℤ) → ℕ → Claim
  -- every sample of the three planes of the 8 by 8 frame, layout 0, of this smoothing, whose red, green and blue readings are these
  planes_of : (smoothing : ℕ) (red green blue : ℕ) → (R G B : ℕ) → Claim
  mirror_reads : (size : ℕ) (position : ℤ) → ℕ → Claim
  -- the number that a width and a height are refused with, or 0
  sizes_are : (width height : ℕ) → ℕ → Claim
  -- the hundredths of a unit that plane k may lie from the exact reconstruction
  printed_is : (k : Colour) → ℕ → Claim
  number_is : Refusal → ℕ → Claim
  -- the number of a strip call by this entry, of n rows from row a on of a frame of this width, height, layout and smoothing, lent nothing: 4 where no test before that is met
  nothing_lent_is : Entry → (width height layout smoothing a n : ℕ) → ℕ → Claim
  -- the weights of a smoothing, and their total
  weights_are : (smoothing : ℕ) → List ℕ → (T : ℕ) → Claim
  -- the smoothing of a frame description that names none
  unnamed_is : (smoothing : ℕ) → Claim
  -- whether an observed sample is refused
  refused_is : (sample : ℕ) → Bool → Claim
  -- rows a to a + n − 1 of the 8 by 8 frame, layout 0, whose red, green and blue readings are these, from planes that hold R, G and B everywhere
  mosaic_is : (a n : ℕ) (R G B : ℕ) → (red green blue : ℕ) → Claim
  -- the first readings from a seed
  readings_from : (seed : ℕ) → List ℕ → Claim

abbrev pub equal : ℤ → ℤ → Bool
equal (pos m) (pos n) = eqb m n
equal (pos m) (negsuc n) = false
equal (negsuc m) (pos n) = false
equal (negsuc m) (negsuc n) = eqb m n

abbrev pub adds : (T : ℕ) → Direction → List Direction → ℤ
adds T d l = fusion (shared_differences scale (smallest_sum d l) (d ∷ l)) (shares scale (smallest_sum d l) (d ∷ l)) T

-- n times over
abbrev pub repeated : ℕ → List ℕ → List ℕ
repeated zero l = []
repeated (suc n) l = l ++ repeated n l

abbrev pub frame8 : (smoothing : ℕ) → Frame
frame8 smoothing = smoothed 8 8 0 smoothing

abbrev pub readings8 : (red green blue : ℕ) → List ℕ
readings8 red green blue = repeated 4 (repeated 4 (red ∷ green ∷ []) ++ repeated 4 (green ∷ blue ∷ []))

abbrev pub holds : Claim → Type 0
holds (difference_is b c l r p q z) = T (equal (difference b c l r p q) z)
holds (shares_are t₁ t₂ t₃ t₄ q₁ q₂ q₃ q₄) =
    let m = smallest_sum (direction (pos 0) t₁) (direction (pos 0) t₂ ∷ direction (pos 0) t₃ ∷ direction (pos 0) t₄ ∷ []) in
    T (eqb (share scale m (guarded t₁)) q₁ && (eqb (share scale m (guarded t₂)) q₂ && (eqb (share scale m (guarded t₃)) q₃ && eqb (share scale m (guarded t₄)) q₄)))
holds (fusion_adds T sum z) =
    (e w n s : Direction) → guarded_sum e ≡ guarded_sum w → guarded_sum e ≡ guarded_sum n → guarded_sum e ≡ guarded_sum s → e.five +ℤ w.five +ℤ n.five +ℤ s.five ≡ sum → adds T e (w ∷ n ∷ s ∷ []) ≡ z
holds (fill_is n g sum v) = T (eqb (fill n g sum) v)
holds (planes_of smoothing red green blue R G B) = PlanesAre (frame8 smoothing) (readings8 red green blue) (λ i j. R) (λ i j. G) (λ i j. B)
holds (mirror_reads size z v) = T (eqb (mirror size z) v)
holds (sizes_are width height n) = first_of (size_cases width height) ≡ n
holds (printed_is k n) = T (eqb (printed_error k) n)
holds (number_is r n) = T (eqb (number r) n)
holds (nothing_lent_is e width height layout smoothing a n k) = strip_number (asked e (smoothed width height layout smoothing) a n []) 0 0 0 ≡ k
holds (weights_are smoothing ws T) = (weights_of smoothing ≡ ws) × (total ws ≡ T)
holds (unnamed_is smoothing) = (frame 8 8 0).smoothing ≡ smoothing
holds (refused_is sample b) = not_of_camera sample ≡ b
holds (mosaic_is a n R G B red green blue) =
    mosaic_rows (frame8 1) a n (three_planes (repeated (n * 8) (R ∷ [])) (repeated (n * 8) (G ∷ [])) (repeated (n * 8) (B ∷ []))) ≡ part (a * 8) (n * 8) (readings8 red green blue)
holds (readings_from seed l) = readings_after seed (length l) ≡ l

abbrev pub figures : List Claim
figures =
    difference_is false 100 10 20 90 98 (negsuc 327) ∷ difference_is true 100 10 20 90 98 (pos 328)
    ∷ shares_are 4 4 4 8 16777216 16777216 16777216 4194304
    ∷ shares_are 12 4 12 12 1864135 16777216 1864135 1864135 ∷ shares_are 12 12 12 4 1864135 1864135 1864135 16777216
    ∷ fusion_adds 5 (pos 3) (pos 1) ∷ fusion_adds 5 (pos 2) (pos 0) ∷ fusion_adds 5 (negsuc 1) (pos 0) ∷ fusion_adds 5 (negsuc 2) (negsuc 0)
    ∷ fusion_adds 100 (pos 50) (pos 1) ∷ fusion_adds 100 (pos 49) (pos 0) ∷ fusion_adds 100 (negsuc 49) (pos 0) ∷ fusion_adds 100 (negsuc 50) (negsuc 0)
    ∷ fill_is 4 10 (pos 2) 10 ∷ fill_is 4 10 (negsuc 1) 11 ∷ fill_is 2 10 (pos 1) 10
    ∷ planes_of 0 400 200 100 6400 3200 1600 ∷ planes_of 1 400 200 100 6400 3200 1600
    ∷ planes_of 0 4095 0 0 65520 0 0 ∷ planes_of 1 4095 0 0 65520 0 0
    ∷ mirror_reads 8 (negsuc 0) 1 ∷ mirror_reads 8 (negsuc 6) 7 ∷ mirror_reads 8 (pos 8) 6 ∷ mirror_reads 8 (pos 14) 0
    ∷ mirror_reads 2 (negsuc 2) 1 ∷ mirror_reads 2 (pos 4) 0 ∷ mirror_reads 3 (pos 7) 1
    ∷ sizes_are 1 8 1 ∷ sizes_are 8 1 1 ∷ sizes_are 2 2 0 ∷ sizes_are 4096 4096 0 ∷ sizes_are 4097 8 1 ∷ sizes_are 8 4097 1
    ∷ printed_is Red 155 ∷ printed_is Green 53 ∷ printed_is Blue 155
    ∷ number_is SizeOutOfRange 1 ∷ number_is UnknownLayout 2 ∷ number_is RowsOutsideFrame 3 ∷ number_is WrongPieceLength 4
    ∷ number_is WrongPlaneLength 5 ∷ number_is ReadingOutOfRange 6 ∷ number_is RowMissing 7 ∷ number_is MalformedFile 8
    ∷ number_is NotCameraPlanes 9 ∷ number_is UnknownSmoothing 10 ∷ number_is OverPreviewSize 11
    ∷ nothing_lent_is FullSize 8 8 0 0 0 0 3 ∷ nothing_lent_is FullSize 8 8 0 1 0 0 3 ∷ nothing_lent_is FullSize 8 8 0 2 0 0 10 ∷ nothing_lent_is FullSize 8 8 0 255 0 0 10 ∷ nothing_lent_is FullSize 8 8 4 2 0 0 2
    ∷ nothing_lent_is Preview 1024 80 0 1 0 64 4 ∷ nothing_lent_is Preview 1025 80 0 1 0 64 11 ∷ nothing_lent_is Preview 1024 80 0 1 0 65 11 ∷ nothing_lent_is FullSize 1025 80 0 1 0 65 4
    ∷ nothing_lent_is Preview 4097 80 4 2 0 81 1 ∷ nothing_lent_is Preview 1025 80 4 2 0 81 2 ∷ nothing_lent_is Preview 1025 80 0 2 0 81 10 ∷ nothing_lent_is Preview 1025 80 0 1 0 81 3
    ∷ weights_are 0 (1 ∷ 1 ∷ 1 ∷ 1 ∷ 1 ∷ []) 5 ∷ weights_are 1 (26 ∷ 24 ∷ 21 ∷ 17 ∷ 12 ∷ []) 100 ∷ unnamed_is 1
    ∷ refused_is 16 false ∷ refused_is 17 true ∷ refused_is 65520 false ∷ refused_is 65521 true ∷ refused_is 65536 true
    ∷ mosaic_is 0 8 6400 3200 1600 400 200 100 ∷ mosaic_is 3 2 65520 0 0 4095 0 0
    ∷ readings_from 0 (966 ∷ []) ∷ readings_from 0 (966 ∷ 1141 ∷ 3356 ∷ 2735 ∷ 1573 ∷ 2546 ∷ 1407 ∷ 2621 ∷ []) ∷ readings_from 4294967295 (965 ∷ 769 ∷ 552 ∷ 2583 ∷ [])
    ∷ []
