-- The exact reconstruction under one name. Assumes nothing.
use Rattle.std.specs.Prelude.{ℕ, List}
use Rattle.whole.specs.Fraction.{Fraction}
use Rattle.bayer.specs.declared.colour.Colour.{Colour}
use Rattle.bayer.specs.declared.frame.Frame.{Frame}
use Rattle.demosaic.specs.Exact.{exact_sample}

-- plane k of a frame at row i and column j
abbrev pub rule_exact : Frame → (readings : List ℕ) (k : Colour) (i j : ℕ) → Fraction
rule_exact f readings k i j = exact_sample f 0 readings k i j
