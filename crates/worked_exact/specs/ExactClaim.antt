-- Claims about values of a frame's exact reconstruction, which reference/ worked out; tools/make_figures.py makes a table of them. Assumes nothing.
use Rattle.std.specs.Prelude.{ℕ, ◌+◌, ◌*◌, Bool, true, ◌&&◌, List, [], ◌∷◌, T, eqb}
use Rattle.whole.specs.Fraction.{Fraction}
use Rattle.bayer.specs.declared.colour.Colour.{Colour}
use Rattle.bayer.specs.declared.frame.Frame.{Frame}
use Rattle.worked_exact.specs.Rule.{rule_exact}

pub data Value : Type 0 where
  -- plane k at row i and column j: over / under
  exactly : (k : Colour) (i j : ℕ) → (over under : ℕ) → Value

pub data ExactClaim : Type 0 where
  gives_exact : Frame → (readings : List ℕ) → List Value → ExactClaim

abbrev pub equals : Fraction → (over under : ℕ) → Bool
equals x over under = eqb (x.plus * under) (over * x.under + x.minus * under)

abbrev pub values_are : Frame → (readings : List ℕ) → List Value → Bool
values_are f readings [] = true
values_are f readings (exactly k i j over under ∷ l) = equals (rule_exact f readings k i j) over under && values_are f readings l

abbrev pub exact_holds : ExactClaim → Type 0
exact_holds (gives_exact f readings values) = T (values_are f readings values)
