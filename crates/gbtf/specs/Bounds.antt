-- Bounds on a difference, a plain gradient, a gradient and a direction sum, of readings up to 4095. Assumes nothing.
use Rattle.std.specs.Prelude.{ℕ}

-- 4 × 4095
abbrev pub most_difference : ℕ
most_difference = 16380

-- twice that
abbrev pub most_plain_gradient : ℕ
most_plain_gradient = 32760

-- three times that
abbrev pub most_gradient : ℕ
most_gradient = 98280

-- nine times that
abbrev pub most_sum : ℕ
most_sum = 884520
