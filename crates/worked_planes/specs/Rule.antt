-- The whole-number rules under one name, and the test of a frame's planes. Assumes nothing.
use Rattle.std.specs.Prelude.{ℕ, zero, suc, Bool, true, ◌&&◌, List, T, eqb}
use Rattle.bayer.specs.declared.colour.Colour.{Colour}
use Rattle.bayer.specs.declared.colour.Colour.TheVariants.{Red, Green, Blue}
use Rattle.bayer.specs.declared.frame.Frame.{Frame}
use Rattle.demosaic.specs.Sample.{sample}

-- plane k of a frame at row i and column j
abbrev pub rule_sample : Frame → (readings : List ℕ) (k : Colour) (i j : ℕ) → ℕ
rule_sample f readings k i j = sample f 0 readings k i j

-- for each number below n
abbrev pub all : ℕ → (ℕ → Bool) → Bool
all zero f = true
all (suc n) f = f n && all n f

-- every sample of plane k is the value at its row and column
abbrev pub plane_is : Frame → (readings : List ℕ) (k : Colour) (value : (i j : ℕ) → ℕ) → Bool
plane_is f readings k value = all f.height (λ i. all f.width (λ j. eqb (rule_sample f readings k i j) (value i j)))

abbrev pub PlanesAre : Frame → (readings : List ℕ) (red green blue : (i j : ℕ) → ℕ) → Type 0
PlanesAre f readings red green blue = T (plane_is f readings Red red) × T (plane_is f readings Green green) × T (plane_is f readings Blue blue)
