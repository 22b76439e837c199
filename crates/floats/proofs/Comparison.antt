-- Comparisons of whole numbers that floats hold exactly. Assumes nothing.
use Prim.Native.Nat.{ℕ, ◌*◌, ◌^◌, ◌<◌, ◌≤◌}
use mathlib.Core.Path.{◌≡◌, refl, sym, ap, ap₂, ◌∙◌}
use mathlib.Core.Bool.{Bool, true, false}
use native.Mathlib.Nat.{mul_comm, mul-pos, mul-le-mul_right, mul-lt-mul_of_pos_right}
use borrow.Author.Tests.{lt-ltb, le-ltb, ltb-true, ltb-false}
use lib.Dec.{ltb}
use lib.IntN.{ℤ}
use lib.Ieee.{Float, fin, up, down, lt}
use lib.Ieee.Exact.{HasValue}
use lib.Ieee.Fits.{down_pos}
use Rattle.floats.specs.Float.{float, val, WholeUpTo}
use Rattle.floats.proofs.Exact.{Exact, held}
use Rattle.floats.proofs.Operations.{finite, by_one}

lt-finite : (m n : ℕ) (e g : ℤ) (a b : ℕ) → m * up e * 1 ≡ a * down e → n * up g * 1 ≡ b * down g → let k = down e * down g in lt (fin false m e) (fin false n g) ≡ ltb (a * k) (b * k)
unfolding lt
lt-finite m n e g a b h k = ap₂ ltb (by_one (m * up e) (down e) (down g) a h) (by_one (n * up g) (down g) (down e) b k ∙ ap (λ (z : ℕ). b * z) (mul_comm (down g) (down e)))

ltb-scaled : (a b k : ℕ) → 0 < k → ltb (a * k) (b * k) ≡ ltb a b
ltb-scaled a b k K = go (ltb a b) refl
  where
    go : (t : Bool) → ltb a b ≡ t → ltb (a * k) (b * k) ≡ t
    go true e = lt-ltb (a * k) (b * k) (mul-lt-mul_of_pos_right (ltb-true a b e) K)
    go false e = le-ltb (a * k) (b * k) (mul-le-mul_right k (ltb-false a b e))

pub lt-whole : (a b : ℕ) → Exact a → Exact b → lt (float a) (float b) ≡ ltb a b
lt-whole a b A B =
    let u = finite (float a) false a 1 A in
    let v = finite (float b) false b 1 B in
    ap₂ lt u.2 v.2 ∙ lt-finite u.0 v.0 u.1 v.1 a b u.3 v.3 ∙ ltb-scaled a b (down u.1 * down v.1) (mul-pos (down_pos u.1) (down_pos v.1))

-- what a test of two whole numbers tells
module _ (j k : ℕ) {x y : Float} where
  test : {t : Bool} → lt x y ≡ t → WholeUpTo j x → WholeUpTo k y → j < 2 ^ 53 → k < 2 ^ 53 → ltb (val x) (val y) ≡ t
  test e X Y J K = sym (ap₂ lt X.whole Y.whole ∙ lt-whole (val x) (val y) (held X J) (held Y K)) ∙ e

  pub below : lt x y ≡ true → WholeUpTo j x → WholeUpTo k y → j < 2 ^ 53 → k < 2 ^ 53 → val x < val y
  below e X Y J K = ltb-true (val x) (val y) (test e X Y J K)

  pub not-below : lt x y ≡ false → WholeUpTo j x → WholeUpTo k y → j < 2 ^ 53 → k < 2 ^ 53 → val y ≤ val x
  not-below e X Y J K = ltb-false (val x) (val y) (test e X Y J K)

-- a number that is not negative is not below one that is
pub lt-negative : (x y : Float) (a c b d : ℕ) → HasValue x false a c → HasValue y true b d → lt x y ≡ false
unfolding lt
lt-negative x y a c b d h k = ap₂ lt (finite x false a c h).2 (finite y true b d k).2
