-- The test frame of a seed, and the numbers of the calls that make it, or one row of it. Assumes nothing.
use Rattle.std.specs.Prelude.{ℕ, ◌*◌, not, List, ◌∷◌, ◌++◌, ltb}
use Rattle.bayer.specs.Condition.{size_cases, misfit_cases}
use Rattle.bayer.specs.declared.refusal.Refusal.TheVariants.{RowsOutsideFrame}
use Rattle.bayer.specs.Refusal.{◌when◌, first_of}
use Rattle.test_frames.specs.Generator.{readings_after}

-- readings run row by row from the seed
abbrev pub test_frame : (seed W H : ℕ) → List ℕ
test_frame seed W H = readings_after seed (W * H)

-- the walk: 1; then 5, if the lent frame is not W × H long
unfoldable pub walk_number : (W H lent : ℕ) → ℕ
walk_number W H lent = first_of (size_cases W H ++ misfit_cases (W * H) lent)

-- one row: 1; then 3, if it is not below H; then 5, if the lent row is not W long
unfoldable pub row_number : (W H row lent : ℕ) → ℕ
row_number W H row lent = first_of (size_cases W H ++ (RowsOutsideFrame when not (ltb row H)) ∷ misfit_cases W lent)
