-- The refusals, their numbers, and conditions tested in their order. Assumes nothing.
use Rattle.std.specs.Prelude.{ℕ, zero, suc, ◌≡◌, Bool, cond, List, [], ◌∷◌, Result, Ok, Err, ⊤}
use Rattle.bayer.specs.declared.refusal.Refusal.{Refusal}
use Rattle.bayer.specs.declared.refusal.Refusal.TheVariants.{SizeOutOfRange, UnknownLayout, RowsOutsideFrame, WrongPieceLength, WrongPlaneLength, ReadingOutOfRange, RowMissing, MalformedFile, NotCameraPlanes, UnknownSmoothing, OverPreviewSize}

-- the papers' number, and their word
abbrev pub number : Refusal → ℕ
-- "off size"
number SizeOutOfRange = 1
-- "unknown layout"
number UnknownLayout = 2
-- "off the frame"
number RowsOutsideFrame = 3
-- "short halo"
number WrongPieceLength = 4
-- "plane misfit"
number WrongPlaneLength = 5
-- "over range"
number ReadingOutOfRange = 6
-- "no such row"
number RowMissing = 7
-- "torn file"
number MalformedFile = 8
-- "not camera planes"
number NotCameraPlanes = 9
-- "unknown smoothing"
number UnknownSmoothing = 10
-- "over preview size"
number OverPreviewSize = 11

-- what C and the programs are answered: 0 where nothing is refused, else the refusal's number
abbrev pub answer_number : Result ⊤ Refusal → ℕ
answer_number (Ok done) = 0
answer_number (Err refusal) = number refusal

-- a refusal, and whether its condition holds
pub record Case : Type 0 where
  pub refusal : Refusal
  pub holds : Bool

infix 5 ◌when◌
abbrev pub ◌when◌ : Refusal → Bool → Case
r when b = record { refusal = r; holds = b }

-- the number of the first refusal whose condition holds, 0 where none does
unfoldable pub first_of : List Case → ℕ
first_of [] = 0
first_of (c ∷ cs) = cond c.holds (number c.refusal) (first_of cs)

-- what was lent to be written holds after a call of this number: accepted, what is delivered; refused, what it held
unfoldable pub held_after : (number : ℕ) (delivered lent : List ℕ) → List ℕ
held_after zero delivered lent = delivered
held_after (suc n) delivered lent = lent

-- THE CONTRACT of a call that writes one list: its answer is the number, and what was lent to it holds accordingly
pub record Delivers (number : ℕ) (delivered lent : List ℕ) (answer : ℕ) (after : List ℕ) : Type 0 where
  pub answered : answer ≡ number
  pub held : after ≡ held_after answer delivered lent
