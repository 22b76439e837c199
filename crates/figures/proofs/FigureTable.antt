-- Every figure of the table holds: those of fusion by a law of directions of equal t, the two frames by their greens, the others by computation. Assumes nothing.
use mathlib.Core.Path.{◌≡◌, refl, ◌∙◌, ap₂}
use mathlib.Core.List.{List, [], ◌∷◌}
use Prim.Native.Nat.{ℕ, ◌+◌, ◌*◌, min}
use native.Mathlib.Nat.{mul-pos, mul-div_cancel}
use native.Mathlib.Omega.{arith}
use lib.Dec.{T}
use lib.IntN.{ℤ, pos, negsuc, ◌+ℤ◌, ◌*ℤ◌}
use Rattle.whole.proofs.Pairs.{Pair, anyₚ, natₚ, ◌+ₚ◌, ◌*ₚ◌, eq-by, eq_of}
use Rattle.lists.specs.Part.{row_of}
use Rattle.lists.specs.Table.{table, joined}
use Rattle.lists.specs.Every.{Every}
use Rattle.lists.specs.Any.{any}
use Rattle.bayer.specs.declared.colour.Colour.TheVariants.{Green}
use Rattle.bayer.specs.Colour.{colours, colour_at}
use Rattle.bayer.specs.Mirror.{reflect, mirror}
use Rattle.bayer.specs.Refusal.{first_of}
use Rattle.gbtf.specs.declared.direction.Direction.{Direction}
use Rattle.gbtf.specs.Difference.{difference}
use Rattle.gbtf.specs.Direction.{guarded_sum}
use Rattle.gbtf.specs.Fusion.{smallest_sum, share, shares, shared_differences, fusion, green}
use Rattle.gbtf.specs.GreenAt.{DH, DV, GH, GV, green_at}
use Rattle.gbtf.specs.Weights.{scale}
use Rattle.green_rule.specs.Greens.{greens}
use Rattle.demosaic.specs.Fill.{fill}
use Rattle.demosaic.specs.Sample.{neighbours, other_from, sample}
use Rattle.strip.specs.Strip.{strip_number}
use Rattle.test_frames.specs.Generator.{affine, iterate, readings_after}
use Rattle.worked_planes.specs.Rule.{plane_is}
use Rattle.figures.specs.Figures.{adds, frame8, readings8, holds, figures}
use Rattle.worked_planes.proofs.Tables.{◌and◌}
use Rattle.worked_planes.proofs.PlaneTests.{planes-are}

-- ---- directions of equal t have equal shares, so that fusion takes the mean of their five-sums

smallest-of-equal : (a b c d : ℕ) → a ≡ b → a ≡ c → a ≡ d → min a (min b (min c d)) ≡ a
smallest-of-equal a b c d p q r = omega arith

module _ (T : ℕ) (sum : ℤ) (e w n s : Direction) (p : guarded_sum e ≡ guarded_sum w) (q : guarded_sum e ≡ guarded_sum n) (r : guarded_sum e ≡ guarded_sum s) (h : e.five +ℤ w.five +ℤ n.five +ℤ s.five ≡ sum) where
  abbrev others : List Direction
  others = w ∷ n ∷ s ∷ []

  share-is : (u : ℕ) → guarded_sum e ≡ u → share scale (smallest_sum e others) u ≡ scale
  share-is u k = rw (smallest-of-equal (guarded_sum e) (guarded_sum w) (guarded_sum n) (guarded_sum s) p q r ∙ k, ← k) (mul-div_cancel scale (mul-pos (omega arith) (omega arith)))

  abbrev A : (d : Direction) → Pair d.five
  A d = anyₚ d.five

  N-is : shared_differences scale (smallest_sum e others) (e ∷ others) ≡ pos scale *ℤ sum
  N-is =
      (λ x. pos (share-is (guarded_sum e) refl x) *ℤ e.five
      +ℤ (pos (share-is (guarded_sum w) p x) *ℤ w.five +ℤ (pos (share-is (guarded_sum n) q x) *ℤ n.five +ℤ (pos (share-is (guarded_sum s) r x) *ℤ s.five +ℤ pos 0))))
      ∙ eq-by (scale *ₚ A e +ₚ (scale *ₚ A w +ₚ (scale *ₚ A n +ₚ (scale *ₚ A s +ₚ natₚ 0)))) (scale *ₚ anyₚ sum) (omega (arith, eq_of (A e +ₚ A w +ₚ A n +ₚ A s) (anyₚ sum) h))

  S-is : shares scale (smallest_sum e others) (e ∷ others) ≡ 4 * scale
  S-is = λ x. share-is (guarded_sum e) refl x + (share-is (guarded_sum w) p x + (share-is (guarded_sum n) q x + (share-is (guarded_sum s) r x + 0)))

  adds-is : adds T e others ≡ fusion (pos scale *ℤ sum) (4 * scale) T
  adds-is = ap₂ (λ N S. fusion N S T) N-is S-is

-- ---- the greens of the two frames, by either smoothing

abbrev Greens : (smoothing red green blue : ℕ) (value : ℕ) → Type 0
Greens smoothing red green blue value = T (plane_is (frame8 smoothing) (readings8 red green blue) Green (λ i j. value))

greens-400 : Greens 0 400 200 100 3200 × Greens 1 400 200 100 3200
unfolding colours colour_at reflect mirror row_of difference fusion green DH DV GH GV green_at greens sample
greens-400 = (tt, tt)

greens-4095 : Greens 0 4095 0 0 0 × Greens 1 4095 0 0 0
unfolding colours colour_at reflect mirror row_of difference fusion green DH DV GH GV green_at greens sample
greens-4095 = (tt, tt)

-- ---- the table

pub figures-hold : Every holds figures
unfolding colours colour_at reflect mirror row_of table joined difference fusion fill neighbours other_from affine iterate readings_after first_of any strip_number
figures-hold =
    tt and tt
    and tt
    and tt and tt
    and adds-is 5 (pos 3) and adds-is 5 (pos 2) and adds-is 5 (negsuc 1) and adds-is 5 (negsuc 2)
    and adds-is 100 (pos 50) and adds-is 100 (pos 49) and adds-is 100 (negsuc 49) and adds-is 100 (negsuc 50)
    and tt and tt and tt
    and planes-are (frame8 0) (readings8 400 200 100) (λ i j. 3200) greens-400.0 (λ i j. 6400) (λ i j. 1600) tt tt
    and planes-are (frame8 1) (readings8 400 200 100) (λ i j. 3200) greens-400.1 (λ i j. 6400) (λ i j. 1600) tt tt
    and planes-are (frame8 0) (readings8 4095 0 0) (λ i j. 0) greens-4095.0 (λ i j. 65520) (λ i j. 0) tt tt
    and planes-are (frame8 1) (readings8 4095 0 0) (λ i j. 0) greens-4095.1 (λ i j. 65520) (λ i j. 0) tt tt
    and tt and tt and tt and tt
    and tt and tt and tt
    and refl and refl and refl and refl and refl and refl
    and tt and tt and tt
    and tt and tt and tt and tt
    and tt and tt and tt and tt
    and tt and tt and tt
    and refl and refl and refl and refl and refl
    and refl and refl and refl and refl
    and refl and refl and refl and refl
    and (refl, refl) and (refl, refl) and refl
    and refl and refl and refl and refl and refl
    and refl and refl
    and refl and refl and refl
    and tt
