-- A strip call: the number it answers, and what it leaves in the three planes it was lent. Assumes nothing.
use Rattle.std.specs.Prelude.{ℕ, ◌*◌, ◌≡◌, Bool, false, not, ◌||◌, List, [], ◌∷◌, ◌++◌, eqb, ltb, length}
use Rattle.bayer.specs.declared.colour.Colour.{Colour}
use Rattle.bayer.specs.declared.colour.Colour.TheVariants.{Red, Green, Blue}
use Rattle.bayer.specs.declared.frame.Frame.{Frame}
use Rattle.bayer.specs.Planes.{Planes}
use Rattle.bayer.specs.Piece.{piece_start, piece_rows}
use Rattle.bayer.specs.declared.refusal.Refusal.TheVariants.{WrongPieceLength, WrongPlaneLength, OverPreviewSize}
use Rattle.bayer.specs.Refusal.{Case, ◌when◌, first_of, held_after}
use Rattle.bayer.specs.Condition.{frame_cases, smoothing_cases, rows_cases, planes_misfit, range_cases}
use Rattle.demosaic.specs.Sample.{plane_rows}
use Rattle.strip.specs.declared.entry.Entry.{Entry}
use Rattle.strip.specs.declared.entry.Entry.TheVariants.{FullSize, Preview}

-- what a call asks for, and by which entry: `count` rows of a frame from row `first` on, from the piece of the mosaic that it is lent
pub record Asked : Type 0 where
  pub entry : Entry
  pub frame : Frame
  pub first : ℕ
  pub count : ℕ
  pub piece : List ℕ

abbrev pub asked : Entry → Frame → (a n : ℕ) (piece : List ℕ) → Asked
asked e f a n piece = record { entry = e; frame = f; first = a; count = n; piece = piece }

-- the preview is asked for more than the unit beside the chair shows, 1024 columns, or takes in a strip, 64 rows
abbrev pub over_preview : Entry → (columns rows : ℕ) → Bool
over_preview FullSize columns rows = false
over_preview Preview columns rows = ltb 1024 columns || ltb 64 rows

-- 11
abbrev pub entry_cases : Entry → (columns rows : ℕ) → List Case
entry_cases e columns rows = (OverPreviewSize when over_preview e columns rows) ∷ []

-- 1, 2; 10; 3; 11, in the preview only: of what a call names
abbrev pub named_cases : Entry → Frame → (a n : ℕ) → List Case
named_cases e f a n = frame_cases f ++ (smoothing_cases f.smoothing ++ (rows_cases f a n ++ entry_cases e f.width n))

-- 4, 5: the lengths of the piece, and of the three planes
abbrev pub length_cases : Frame → (a n : ℕ) (piece : List ℕ) (red green blue : ℕ) → List Case
length_cases f a n piece red green blue =
    (WrongPieceLength when not (eqb (length piece) (piece_rows f.height a n * f.width)))
    ∷ (WrongPlaneLength when planes_misfit (n * f.width) red green blue)
    ∷ []

-- the number of the refusal, the first that holds of what a call names, then 4, 5, then 6. 0: accepted
unfoldable pub strip_number : Asked → (red green blue : ℕ) → ℕ
strip_number c red green blue = first_of (named_cases c.entry c.frame c.first c.count ++ (length_cases c.frame c.first c.count c.piece red green blue ++ range_cases c.piece))

-- the samples of plane k that the rules give for its rows, from the piece, whatever the entry
abbrev pub strip_plane : Asked → (k : Colour) → List ℕ
strip_plane c k = plane_rows c.frame (piece_start c.first) c.piece c.first c.count k

-- THE CONTRACT of a strip call by either entry, which its code is proved to keep: its answer, and the planes lent to it as they are afterwards
pub record Promise (c : Asked) (lent : Planes) (answer : ℕ) (after : Planes) : Type 0 where
  pub number : answer ≡ strip_number c (length (lent Red)) (length (lent Green)) (length (lent Blue))
  pub red : after Red ≡ held_after answer (strip_plane c Red) (lent Red)
  pub green : after Green ≡ held_after answer (strip_plane c Green) (lent Green)
  pub blue : after Blue ≡ held_after answer (strip_plane c Blue) (lent Blue)
