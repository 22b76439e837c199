-- The greens of a frame whose rows, from row `first` on, are given: by the whole-number rule, and exact. Which share scale and which weights the rules take is said here:
-- the weights go by the frame description's smoothing. Assumes nothing.
use Rattle.std.specs.Prelude.{ℕ, List, ℤ, pos}
use Rattle.whole.specs.Fraction.{Fraction}
use Rattle.lists.specs.Table.{table}
use Rattle.bayer.specs.declared.frame.Frame.{Frame}
use Rattle.bayer.specs.Mosaic.{continued}
use Rattle.gbtf.specs.Weights.{scale, weights_of, total-above0}
use Rattle.gbtf.specs.GreenAt.{green_at, exact_green_at}

-- green in units at row i and column j of the continued mosaic
unfoldable pub greens : Frame → (first : ℕ) (rows : List ℕ) → (i j : ℤ) → ℕ
greens f first rows i j = green_at (weights_of f.smoothing) (continued f first rows) i j scale

unfoldable pub exact_greens : Frame → (first : ℕ) (rows : List ℕ) → (i j : ℤ) → Fraction
exact_greens f first rows i j = exact_green_at (weights_of f.smoothing) (continued f first rows) i j (total-above0 f.smoothing)

-- how far green may lie from exact green, in thousandths of a unit: sharper than the printed hundredths, from which those of red and blue would not follow
abbrev pub green_thousandths : ℕ
green_thousandths = 524

-- row v of green
abbrev pub green_row : Frame → (first : ℕ) (rows : List ℕ) (v : ℕ) → List ℕ
green_row f first rows v = table (λ j. greens f first rows (pos v) (pos j)) f.width
