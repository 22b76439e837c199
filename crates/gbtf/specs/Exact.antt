-- Exact green at a red or blue pixel: a quotient of whole numbers, nothing rounded. Assumes nothing.
use Rattle.std.specs.Prelude.{◌≡◌, refl, List, [], ◌∷◌, ℕ, ◌*◌, ◌<◌, ℤ, pos}
use Rattle.std.proofs.Common.{mul-pos, arith}
use Rattle.whole.specs.Fraction.{Fraction, ratio, natural, ◌+ᶠ◌, times, divided_by, quotient, Above0, clampᶠ}
use Rattle.gbtf.specs.declared.direction.Direction.{Direction}
use Rattle.gbtf.specs.Direction.{guarded_sum}

-- the sum of f/t²; of A/t²; of 1/t²
unfoldable pub sum_over/t² : (f : Direction → ℤ) → List Direction → Fraction
sum_over/t² f [] = natural 0
sum_over/t² f (d ∷ l) = ratio (f d) (guarded_sum d * guarded_sum d) (mul-pos (omega arith) (omega arith)) +ᶠ sum_over/t² f l

abbrev pub sum_of_a/t² : List Direction → Fraction
sum_of_a/t² l = sum_over/t² (λ d. d.five) l

abbrev pub sum_of1/t² : List Direction → Fraction
sum_of1/t² l = sum_over/t² (λ d. pos 1) l

pub above0 : (d : Direction) (l : List Direction) → Above0 (sum_of1/t² (d ∷ l))
unfolding sum_over/t²
above0 d l = rw (no_minus l) (omega (arith, (sum_of1/t² l).proper))
  where
    no_minus : (l : List Direction) → (sum_of1/t² l).minus ≡ 0
    no_minus [] = refl
    no_minus (d ∷ l) = rw (no_minus l) (omega arith)

-- 16c + (4/T) × (sum of A/t²) / (sum of 1/t²), clamped
unfoldable pub exact_green : (T c : ℕ) → 0 < T → Direction → List Direction → Fraction
exact_green T c h d l = clampᶠ (natural (16 * c) +ᶠ divided_by (times 4 (quotient (sum_of_a/t² (d ∷ l)) (sum_of1/t² (d ∷ l)) (above0 d l))) T h)
