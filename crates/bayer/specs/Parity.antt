-- Which cells of a row are green, by their parity. Assumes nothing.
use Rattle.std.specs.Prelude.{ℕ, ◌%◌, Bool, cond, eqb}
use Rattle.bayer.specs.declared.colour.Colour.TheVariants.{Green}
use Rattle.bayer.specs.Colour.{colour_at, same}

abbrev pub is_odd : ℕ → Bool
is_odd n = eqb (n % 2) 1

-- 1 where column 0 of row v is green, else 0: column j is green where j + this is odd
abbrev pub starts_green : (layout v : ℕ) → ℕ
starts_green layout v = cond (same (colour_at layout v 0) Green) 1 0
