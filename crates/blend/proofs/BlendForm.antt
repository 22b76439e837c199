-- The form that the code computes: one product, of the weight and the difference of the two estimates; and the table's place, stopped at its last entry, which is 0. Assumes nothing.
use mathlib.Core.Path.{◌≡◌, refl, ◌∙◌, sym, ap, ap₂}
use Prim.Native.Nat.{ℕ, zero, suc, ◌+◌, ◌*◌, ◌-◌, ◌/◌, ◌≤◌, min}
use native.Mathlib.Nat.{le_trans}
use native.Mathlib.Decide.{dec_lt}
use native.Mathlib.Omega.{arith}
use borrow.Author.Tests.{lt-ltb, le-ltb}
use lib.Dec.{lit≤, lit<}
use lib.IntN.{ℤ, pos, negsuc, neg_ℤ, ◌+ℤ◌, ◌-ℤ◌, ◌*ℤ◌, neg_ℤ-neg_ℤ, zero-*ℤ}
use lib.ListN.{get_or}
use Rattle.whole.specs.Parts.{up, down}
use Rattle.whole.specs.Floor.{floor_div}
use Rattle.whole.specs.Clamp.{clamp}
use Rattle.whole.proofs.Pairs.{anyₚ, natₚ, negₚ, ◌+ₚ◌, ◌-ₚ◌, ◌*ₚ◌, eq-by, abs-by}
use Rattle.whole.proofs.FloorLaws.{floor-out}
use Rattle.blend.specs.declared.axis.Axis.{Axis}
use Rattle.blend.specs.Logistic.{logistic, weight_at}
use Rattle.blend.specs.Blend.{step, rounded, by_variation, unclamped_blend, blend}
use Rattle.blend.specs.Machine.{place_of}
use Rattle.blend.proofs.LogisticLaws.{past, weight-small, zero-from}

-- w x + (65536 − w) y = 16384 × 4 y + w (x − y)
weighted-form : (w : ℕ) (x y : ℤ) → w ≤ 65536 → pos w *ℤ x +ℤ pos (65536 - w) *ℤ y +ℤ pos 8192 ≡ pos 16384 *ℤ (pos 4 *ℤ y) +ℤ (pos w *ℤ (x -ℤ y) +ℤ pos 8192)
weighted-form w x y h =
    let e : w + (65536 - w) ≡ 65536 = omega arith in
    eq-by (w *ₚ anyₚ x +ₚ (65536 - w) *ₚ anyₚ y +ₚ natₚ 8192) (16384 *ₚ (4 *ₚ anyₚ y) +ₚ (w *ₚ (anyₚ x -ₚ anyₚ y) +ₚ natₚ 8192))
    (omega (arith, ap (λ (n : ℕ). n * up y) e, ap (λ (n : ℕ). n * down y) e))

pub rounded-form : (more less : Axis) → rounded more less ≡ pos 4 *ℤ less.estimate +ℤ floor_div (pos (weight_at (step more less)) *ℤ (more.estimate -ℤ less.estimate) +ℤ pos 8192) 16384
unfolding rounded
rounded-form more less =
    let w = weight_at (step more less) in
    ap (λ z. floor_div z 16384) (weighted-form w more.estimate less.estimate (le_trans (weight-small (step more less)) (lit≤ tt)))
    ∙ floor-out (pos 4 *ℤ less.estimate) (pos w *ℤ (more.estimate -ℤ less.estimate) +ℤ pos 8192) 16384 (lit< tt)

pub weight-stopped : (k : ℕ) → weight_at k ≡ get_or logistic (min k 255) 0
weight-stopped k = elim (dec_lt k 256) [
  | yes h ↦ let e : min k 255 ≡ k = omega arith in rw e
  | no h ↦ let e : min k 255 ≡ 255 = omega arith in rw (e, past k (omega arith), zero-from 255 (lit≤ tt))
]

-- ---- as the code has it: the weight less a half, and both estimates by a half

negative-times : (n : ℕ) (g : ℤ) → neg_ℤ (pos n) *ℤ g ≡ neg_ℤ (pos n *ℤ g)
negative-times zero g = zero-*ℤ g ∙ sym (ap neg_ℤ (zero-*ℤ g))
negative-times (suc n) (pos b) = refl
negative-times (suc n) (negsuc b) = sym (neg_ℤ-neg_ℤ (pos (suc n * suc b)))

-- w g = 16384 × 2 g − (32768 − w) g
half_out : (w : ℕ) (g : ℤ) → w ≤ 32768 → pos w *ℤ g +ℤ pos 8192 ≡ pos 16384 *ℤ (pos 2 *ℤ g) +ℤ (neg_ℤ (pos (32768 - w)) *ℤ g +ℤ pos 8192)
half_out w g h =
    let n = 32768 - w in
    let e : w + (32768 - w) ≡ 32768 = omega arith in
    eq-by (w *ₚ anyₚ g +ₚ natₚ 8192) (16384 *ₚ (2 *ₚ anyₚ g) +ₚ (negₚ (n *ₚ anyₚ g) +ₚ natₚ 8192)) (omega (arith, ap (λ (i : ℕ). i * up g) e, ap (λ (i : ℕ). i * down g) e))
    ∙ ap (λ z. pos 16384 *ℤ (pos 2 *ℤ g) +ℤ (z +ℤ pos 8192)) (sym (negative-times n g))

-- 4 y + 2 (x − y) = 2 (x + y)
abbrev coded_for : (w : ℕ) (sum g : ℤ) → ℤ
coded_for w sum g = pos 2 *ℤ sum +ℤ floor_div (neg_ℤ (pos (32768 - w)) *ℤ g +ℤ pos 8192) 16384

rounded-coded : (more less : Axis) → rounded more less ≡ coded_for (weight_at (step more less)) (more.estimate +ℤ less.estimate) (more.estimate -ℤ less.estimate)
rounded-coded more less =
    let w = weight_at (step more less) in
    let x = more.estimate in
    let y = less.estimate in
    let g = more.estimate -ℤ less.estimate in
    let f = floor_div (neg_ℤ (pos (32768 - weight_at (step more less))) *ℤ (more.estimate -ℤ less.estimate) +ℤ pos 8192) 16384 in
    rounded-form more less
    ∙ ap (λ z. pos 4 *ℤ y +ℤ z) (ap (λ z. floor_div z 16384) (half_out w g (weight-small (step more less))) ∙ floor-out (pos 2 *ℤ g) (neg_ℤ (pos (32768 - w)) *ℤ g +ℤ pos 8192) 16384 (lit< tt))
    ∙ eq-by (4 *ₚ anyₚ y +ₚ (2 *ₚ (anyₚ x -ₚ anyₚ y) +ₚ anyₚ f)) (2 *ₚ (anyₚ x +ₚ anyₚ y) +ₚ anyₚ f) (omega arith)

weight-placed : (more less : Axis) (k : ℕ) → less.variation ≤ more.variation → k ≡ min ((more.variation - less.variation) / 16) 255 → weight_at (step more less) ≡ weight_at k
weight-placed more less k h e = weight-stopped (step more less) ∙ ap (λ i. get_or logistic i 0) (sym e)

abbrev coded : (w : ℕ) (row column : Axis) → ℤ
coded w row column = pos 2 *ℤ (row.estimate +ℤ column.estimate) +ℤ floor_div (neg_ℤ (pos (32768 - w)) *ℤ by_variation (λ more less. more.estimate -ℤ less.estimate) row column +ℤ pos 8192) 16384

pub blend-coded : (row column : Axis) (w : ℕ) → w ≡ weight_at (place_of row.variation column.variation) → clamp (coded w row column) ≡ blend row column
unfolding blend unclamped_blend
blend-coded row column w e =
    let a = abs-by (natₚ row.variation -ₚ natₚ column.variation) in
    let x = row.estimate in
    let y = column.estimate in
    let k = place_of row.variation column.variation in
    elim (dec_lt column.variation row.variation) [
      | yes h ↦ rw (lt-ltb _ _ h) (ap clamp (sym (rounded-coded row column ∙ ap (λ i. coded_for i (x +ℤ y) (x -ℤ y)) (weight-placed row column k (omega arith) (omega arith) ∙ sym e))))
      | no h ↦
          rw (le-ltb column.variation row.variation (omega arith))
          (ap clamp (sym (rounded-coded column row ∙ ap₂ (λ i z. coded_for i z (y -ℤ x)) (weight-placed column row k (omega arith) (omega arith) ∙ sym e) (eq-by (anyₚ y +ₚ anyₚ x) (anyₚ x +ₚ anyₚ y) (omega arith)))))
    ]
