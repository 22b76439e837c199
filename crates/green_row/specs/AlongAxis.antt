-- Differences and gradients at each place of a buffer of rows. A row is s places wide, so that neighbours along a row are 1 place apart and along a column s places. Assumes nothing.
use Rattle.std.specs.Prelude.{ℕ, ◌+◌, ◌*◌, ◌≤◌, false, List, ℤ, pos, get_or}
use Rattle.gbtf.specs.Bounds.{most_difference}
use Rattle.gbtf.specs.Difference.{difference, plain_gradient}

-- the difference at place k + 2 step of x, along an axis whose places are step apart, as at a red or blue place
abbrev pub difference_in : (step : ℕ) (x : List ℕ) → ℕ → ℤ
difference_in step x k = difference false (get_or x (k + 2 * step) 0) (get_or x (k + step) 0) (get_or x (k + 3 * step) 0) (get_or x k 0) (get_or x (k + 4 * step) 0)

-- the plain gradient at place k + step of d
abbrev pub plain_gradient_in : (step : ℕ) (d : List ℤ) → ℕ → ℕ
plain_gradient_in step d k = plain_gradient (get_or d k (pos 0)) (get_or d (k + 2 * step) (pos 0))

-- the gradient at place k + 2 step of d
abbrev pub gradient_in : (step : ℕ) (d : List ℤ) → ℕ → ℕ
gradient_in step d k = plain_gradient_in step d k + plain_gradient_in step d (k + step) + plain_gradient_in step d (k + 2 * step)

-- differences two places apart are within 16380 of each other, so that three plain gradients together are inside 16 bits
abbrev pub Apart : (step : ℕ) (d : List ℤ) → Type 0
Apart step d = (k : ℕ) → plain_gradient_in step d k ≤ most_difference
