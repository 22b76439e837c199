-- A whole number as a difference of two naturals: z is up z − down z. Assumes nothing.
use Rattle.std.specs.Prelude.{ℕ, suc, ℤ, pos, negsuc}

-- the part above zero
abbrev pub up : ℤ → ℕ
up (pos n) = n
up (negsuc n) = 0

-- the part below zero
abbrev pub down : ℤ → ℕ
down (pos n) = 0
down (negsuc n) = suc n
