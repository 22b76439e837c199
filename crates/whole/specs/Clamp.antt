-- The range of a sample, 0 to 65520 units; a unit is a sixteenth of a reading. Assumes nothing.
use Rattle.std.specs.Prelude.{ℕ, min, ℤ, pos, negsuc}

-- 0 if below 0, 65520 if above; document 01 says "stopped"
abbrev pub clamp : ℤ → ℕ
clamp (pos n) = min n 65520
clamp (negsuc n) = 0
