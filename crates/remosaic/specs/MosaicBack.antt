-- The mosaic back from three planes: the number that a call answers, and what it leaves in the mosaic it was lent. Assumes nothing.
use Rattle.std.specs.Prelude.{ℕ, ◌+◌, ◌*◌, ◌/◌, ◌%◌, ◌≡◌, Bool, false, not, ◌||◌, List, [], ◌∷◌, ◌++◌, ltb, eqb, length, get_or}
use Rattle.lists.specs.Any.{any}
use Rattle.lists.specs.Table.{table, joined}
use Rattle.bayer.specs.declared.colour.Colour.TheVariants.{Red, Green, Blue}
use Rattle.bayer.specs.declared.frame.Frame.{Frame}
use Rattle.bayer.specs.Colour.{colour_at}
use Rattle.bayer.specs.Planes.{Planes}
use Rattle.bayer.specs.declared.refusal.Refusal.TheVariants.{WrongPlaneLength, NotCameraPlanes}
use Rattle.bayer.specs.Refusal.{Case, ◌when◌, first_of, Delivers}
use Rattle.bayer.specs.Condition.{frame_cases, rows_cases, planes_misfit}

-- the observed sample at row i of a strip from row a on, which is row a + i of the frame, and column j: that of the pixel's own colour
abbrev pub observed : Frame → (a : ℕ) → Planes → (i j : ℕ) → ℕ
observed f a planes i j = get_or (planes (colour_at f.layout (a + i) j)) (i * f.width + j) 0

-- those of n rows, row by row
abbrev pub observed_rows : Frame → (a n : ℕ) → Planes → List ℕ
observed_rows f a n planes = joined (λ i. table (λ j. observed f a planes i j) f.width) n

-- "not camera planes", of an observed sample: it is not a multiple of 16, or exceeds 65520
abbrev pub not_of_camera : (sample : ℕ) → Bool
not_of_camera sample = not (eqb (sample % 16) 0) || ltb 65520 sample

-- 5, which covers the lent mosaic too; 9, if an observed sample is so
abbrev pub lent_cases : Frame → (a n : ℕ) → Planes → (mosaic : ℕ) → List Case
lent_cases f a n planes mosaic =
    (WrongPlaneLength when (planes_misfit (n * f.width) (length (planes Red)) (length (planes Green)) (length (planes Blue)) || not (eqb mosaic (n * f.width))))
    ∷ (NotCameraPlanes when any not_of_camera (observed_rows f a n planes))
    ∷ []

-- the number of the refusal, the first that holds: 1, 2; 3; 5; 9. 0: accepted
unfoldable pub mosaic_number : Frame → (a n : ℕ) → Planes → (mosaic : ℕ) → ℕ
mosaic_number f a n planes mosaic = first_of (frame_cases f ++ (rows_cases f a n ++ lent_cases f a n planes mosaic))

-- the n rows of readings: each is the sample of its own colour's plane divided by 16
abbrev pub mosaic_rows : Frame → (a n : ℕ) → Planes → List ℕ
mosaic_rows f a n planes = joined (λ i. table (λ j. observed f a planes i j / 16) f.width) n

-- THE CONTRACT of a call that gives the mosaic back, which its code is proved to keep: its answer, and the mosaic lent to it as it is afterwards
abbrev pub MosaicPromise : Frame → (a n : ℕ) → Planes → (lent : List ℕ) (answer : ℕ) (after : List ℕ) → Type 0
MosaicPromise f a n planes lent answer after = Delivers (mosaic_number f a n planes (length lent)) (mosaic_rows f a n planes) lent answer after

-- THERE AND BACK: 9 does not hold of the planes, and a call that is lent them and a mosaic of n rows is accepted and leaves these readings in it
pub record ComesBack (f : Frame) (a n : ℕ) (planes : Planes) (readings : List ℕ) : Type 0 where
  pub camera : any not_of_camera (observed_rows f a n planes) ≡ false
  pub back : {lent after : List ℕ} {answer : ℕ} → length lent ≡ n * f.width → MosaicPromise f a n planes lent answer after → (answer ≡ 0) × (after ≡ readings)
