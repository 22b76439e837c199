-- Division of a whole number by a natural, rounded down, also below zero. Assumes nothing.
use Rattle.std.specs.Prelude.{ℕ, ◌/◌, ℤ, pos, negsuc}

-- the floor of x / d: −(n+1) / d is −(n / d + 1). As n / 0 is 0 for a natural n, so is it 0 or −1 here
abbrev pub floor_div : ℤ → ℕ → ℤ
floor_div (pos n) d = pos (n / d)
floor_div (negsuc n) d = negsuc (n / d)
