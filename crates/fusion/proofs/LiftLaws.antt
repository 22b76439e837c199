-- Five-sums that are lifted by 32768 totals lift what fusion adds by 131072. Assumes nothing.
use Prim.Native.Nat.{ℕ, ◌+◌, ◌-◌, ◌*◌, ◌/◌, ◌^◌, ◌≤◌, ◌<◌}
use mathlib.Core.Path.{◌≡◌, sym, ap, ◌∙◌}
use native.Mathlib.Omega.{arith}
use lib.Dec.{lit<}
use lib.IntN.{ℤ, pos, nat_abs, ◌+ℤ◌, ◌-ℤ◌, ◌*ℤ◌}
use mir.Syntax.{w32}
use mir.Val.{to_z, of_z}
use lib.Ieee.{binary64, of_int}
use Rattle.whole.specs.Floor.{floor_div}
use Rattle.whole.specs.Parts.{up, down}
use Rattle.whole.proofs.Pairs.{anyₚ, natₚ, ◌+ₚ◌, ◌-ₚ◌, ◌*ₚ◌, eq-by, eq_of, abs-by}
use Rattle.whole.proofs.Magnitudes.{up_le, down_le}
use Rattle.whole.proofs.Signed.{int, nat, ◌⊕◌, value}
use Rattle.whole.proofs.FloorLaws.{floor-lift}
use Rattle.floats.specs.Float.{val, WholeUpTo}
use Rattle.floats.proofs.Casts.{of-i32}
use Rattle.gbtf.specs.Fusion.{fusion}

-- ---- a five-sum and k, as the code adds them
pub lifted-is : (a : ℤ) (k T : ℕ) → T ≤ 100 → nat_abs a ≤ 32767 * T → k ≡ 32768 * T
    → let x = of_int binary64 (to_z w32 (of_z w32 (to_z w32 (of_z w32 a) +ℤ to_z w32 k))) in WholeUpTo 6553500 x × (pos (val x) ≡ a +ℤ pos (32768 * T))
lifted-is a k T t h e =
    let u : up a ≤ 32767 * T = up_le a (32767 * T) h in
    let d : down a ≤ 32767 * T = down_le a (32767 * T) h in
    let p : pos (up a + k - down a) ≡ a +ℤ pos k = eq-by (natₚ (up a + k - down a)) (anyₚ a +ₚ natₚ k) (omega arith) in
    let w = of-i32 _ (up a + k - down a) 6553500 (value {w = w32} (int a 3276700 (omega arith) ⊕ nat k 3276800 (omega arith)) tt ∙ sym p) (omega arith) (lit< tt) in
    (w.0, ap pos w.1 ∙ p ∙ ap (λ (z : ℕ). a +ℤ pos z) e)

-- ---- the mean of lifted five-sums, S the sum of the shares and n that of share times lifted five-sum
pub lifted-mean : (T S n : ℕ) (N : ℤ) → 0 < T * S → pos n ≡ N +ℤ pos (32768 * (T * S)) → pos ((8 * n + T * S) / (2 * (T * S))) ≡ fusion N S T +ℤ pos 131072
unfolding fusion
lifted-mean T S n N h e =
    let l : n + (down N + 0) ≡ up N + 32768 * (T * S) + 0 = eq_of (natₚ n) (anyₚ N +ₚ natₚ (32768 * (T * S))) e in
    let x : pos (8 * n + T * S) ≡ pos 8 *ℤ N +ℤ pos (T * S) +ℤ pos (131072 * (2 * (T * S))) =
    eq-by (natₚ (8 * n + T * S)) (8 *ₚ anyₚ N +ₚ natₚ (T * S) +ₚ natₚ (131072 * (2 * (T * S)))) (omega arith) in
    ap (λ (z : ℤ). floor_div z (2 * (T * S))) x ∙ floor-lift (pos 8 *ℤ N +ℤ pos (T * S)) 131072 (2 * (T * S)) (omega arith)

pub lowered : (k : ℕ) (f : ℤ) → pos k ≡ f +ℤ pos 131072 → k < 2 ^ 18 → (pos k -ℤ pos 131072 ≡ f) × (nat_abs f ≤ 131072)
lowered k f e h =
    let l : k + (down f + 0) ≡ up f + 131072 + 0 = eq_of (natₚ k) (anyₚ f +ₚ natₚ 131072) e in
    let x : pos k -ℤ pos 131072 ≡ f = eq-by (natₚ k -ₚ natₚ 131072) (anyₚ f) (omega arith) in
    (x, omega (arith, ap nat_abs x, abs-by (natₚ k -ₚ natₚ 131072)))
