-- A frame's planes by its greens: once these are tested, red and blue are tested over the tested values, so that each green is computed once. Assumes nothing.
use mathlib.Core.Path.{◌≡◌, refl, sym, ap, ap₂, subst}
use mathlib.Core.Bool.{Bool, ◌&&◌}
use mathlib.Core.List.{List}
use Prim.Native.Nat.{ℕ, zero, suc, ◌<◌}
use native.Mathlib.Omega.{arith}
use native.Mathlib.Decide.{dec_lt}
use lib.Dec.{T, eqb, eqb→eq}
use lib.IntN.{ℤ, pos}
use Rattle.whole.specs.Parts.{up}
use Rattle.whole.proofs.Tests.{first, second}
use Rattle.bayer.specs.declared.colour.Colour.{Colour}
use Rattle.bayer.specs.declared.colour.Colour.TheVariants.{Red, Green, Blue}
use Rattle.bayer.specs.declared.frame.Frame.{Frame}
use Rattle.bayer.specs.Mosaic.{Mosaic, continued}
use Rattle.demosaic.specs.Sample.{sample_from, sample}
use Rattle.demosaic.proofs.SampleInside.{sample_from-inside}
use Rattle.worked_planes.specs.Rule.{rule_sample, all, plane_is, PlanesAre}

at : (n : ℕ) (f : ℕ → Bool) → T (all n f) → (i : ℕ) → i < n → T (f i)
at zero f t i h = absurd (let z : ⊥ = omega arith in z)
at (suc n) f t i h = elim (dec_lt i n) [ yes l ↦ at n f (second (f n) (all n f) t) i l | no l ↦ let e : n ≡ i = omega arith in subst (λ x. T (f x)) e (first (f n) (all n f) t) ]

all_same : (n : ℕ) (f g : ℕ → Bool) → ((i : ℕ) → i < n → f i ≡ g i) → all n f ≡ all n g
all_same zero f g h = refl
all_same (suc n) f g h = ap₂ (λ a b. a && b) (h n (omega arith)) (all_same n f g (λ i l. h i (omega arith)))

module _ (f : Frame) (readings : List ℕ) (green : (i j : ℕ) → ℕ) where
  abbrev m : Mosaic
  m = continued f 0 readings

  abbrev green_at : (i j : ℤ) → ℕ
  green_at i j = green (up i) (up j)

  -- plane k from these greens
  abbrev pub from_greens : (k : Colour) (value : (i j : ℕ) → ℕ) → Bool
  from_greens k value = all f.height (λ i. all f.width (λ j. eqb (sample_from f m green_at k (pos i) (pos j)) (value i j)))

  module _ (greens : T (plane_is f readings Green green)) where
    green-is : (i j : ℕ) → i < f.height → j < f.width → rule_sample f readings Green i j ≡ green i j
    green-is i j hi hj = eqb→eq _ _ (at f.width _ (at f.height (λ i. all f.width (λ j. eqb (rule_sample f readings Green i j) (green i j))) greens i hi) j hj)

    sample-is : (k : Colour) (i j : ℕ) → i < f.height → j < f.width → rule_sample f readings k i j ≡ sample_from f m green_at k (pos i) (pos j)
    unfolding sample
    sample-is k i j hi hj = sample_from-inside f m _ green_at green-is i j hi hj k

    plane-is : (k : Colour) (value : (i j : ℕ) → ℕ) → T (from_greens k value) → T (plane_is f readings k value)
    plane-is k value t = subst T (sym (all_same f.height _ _ (λ i hi. all_same f.width _ _ (λ j hj. ap (λ x. eqb x (value i j)) (sample-is k i j hi hj))))) t

    pub planes-are : (red blue : (i j : ℕ) → ℕ) → T (from_greens Red red) → T (from_greens Blue blue) → PlanesAre f readings red green blue
    planes-are red blue r b = (plane-is Red red r, greens, plane-is Blue blue b)
