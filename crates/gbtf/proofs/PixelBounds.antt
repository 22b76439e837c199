-- Bounds on the numbers of one pixel. Assumes nothing.
use mathlib.Core.Bool.{Bool, true, false}
use mathlib.Core.List.{List, [], ◌∷◌}
use Prim.Native.Nat.{ℕ, ◌+◌, ◌*◌, ◌≤◌}
use native.Mathlib.Nat.{le_refl, le_trans}
use native.Mathlib.Omega.{arith}
use lib.IntN.{ℤ, nat_abs}
use lib.ListN.{get_or}
use mir.Syntax.{w64}
use Rattle.whole.proofs.Pairs.{Pair, natₚ, ◌+ₚ◌, ◌-ₚ◌, ◌*ₚ◌, within_by, abs-by}
use Rattle.whole.proofs.Magnitudes.{sub_within}
use Rattle.whole.proofs.Signed.{E, nat, int, ◌⊕◌, ◌⊗◌, within}
use Rattle.gbtf.specs.Bounds.{most_difference, most_plain_gradient, most_gradient, most_sum}
use Rattle.gbtf.specs.Difference.{difference, plain_gradient}
use Rattle.gbtf.specs.Direction.{direction_sum, five_sum, total}
use Rattle.gbtf.specs.Machine.{Readings}

-- ---- differences and gradients
abbrev pub differenceₚ : (green : Bool) (c l r p q : ℕ) → Pair (difference green c l r p q)
unfolding difference
differenceₚ false c l r p q = 2 *ₚ (natₚ l +ₚ natₚ r) -ₚ 2 *ₚ natₚ c -ₚ natₚ p -ₚ natₚ q
differenceₚ true c l r p q = 2 *ₚ natₚ c -ₚ 2 *ₚ (natₚ l +ₚ natₚ r) +ₚ natₚ p +ₚ natₚ q

pub difference-within : (green : Bool) {c l r p q : ℕ} → Readings c l r p q → nat_abs (difference green c l r p q) ≤ most_difference
unfolding difference
difference-within false {c} {l} {r} {p} {q} h = within_by (differenceₚ false c l r p q) (omega arith) (omega arith)
difference-within true {c} {l} {r} {p} {q} h = within_by (differenceₚ true c l r p q) (omega arith) (omega arith)

-- two that are worked out as at one kind of centre, two places apart on a line of seven readings
pub differences-apart : {a b c d e f g : ℕ} → a ≤ 4095 → b ≤ 4095 → c ≤ 4095 → d ≤ 4095 → e ≤ 4095 → f ≤ 4095 → g ≤ 4095 → plain_gradient (difference false c b d a e) (difference false e d f c g) ≤ most_difference
unfolding difference
differences-apart {a} {b} {c} {d} {e} {f} {g} ha hb hc hd he hf hg = omega (arith, abs-by (differenceₚ false c b d a e -ₚ differenceₚ false e d f c g))

pub plain-gradient-within : (d e : ℤ) → nat_abs d ≤ most_difference → nat_abs e ≤ most_difference → plain_gradient d e ≤ most_plain_gradient
plain-gradient-within d e h k = sub_within d e h k

pub gradient-within : {a b c : ℕ} → a ≤ most_plain_gradient → b ≤ most_plain_gradient → c ≤ most_plain_gradient → a + b + c ≤ most_gradient
gradient-within h k l = omega arith

-- ---- the sums of a direction
pub direction-sum-within : {a b c d e f g h i : ℕ} → a ≤ most_gradient → b ≤ most_gradient → c ≤ most_gradient → d ≤ most_gradient → e ≤ most_gradient → f ≤ most_gradient → g ≤ most_gradient → h ≤ most_gradient → i ≤ most_gradient
    → direction_sum ((a ∷ b ∷ c ∷ []) ∷ (d ∷ e ∷ f ∷ []) ∷ (g ∷ h ∷ i ∷ []) ∷ []) ≤ most_sum
direction-sum-within ha hb hc hd he hf hg hh hi = omega arith

pub five-sum-within : (ws : List ℕ) (D : ℕ → ℤ) {B : ℕ} → ((k : ℕ) → nat_abs (D k) ≤ B) → nat_abs (five_sum ws D) ≤ total ws * B
five-sum-within ws D {B} h = le_trans (within (by 0 ⊕ by 1 ⊕ by 2 ⊕ by 3 ⊕ by 4)) (omega arith)
  where
    by : ℕ → E w64
    by k = nat (get_or ws k 0) (get_or ws k 0) (le_refl _) ⊗ int (D k) B (h k)
