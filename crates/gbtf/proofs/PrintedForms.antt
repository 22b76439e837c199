-- Printed forms: of the gradient, source 000's; of five-sums, fusion, exact green and green, those of documents 01 and 02. Assumes nothing.
use mathlib.Core.Path.{◌≡◌, ◌∙◌, ap, ap₂}
use mathlib.Core.Bool.{false}
use mathlib.Core.List.{List, [], ◌∷◌}
use Prim.Native.Nat.{ℕ, ◌+◌, ◌*◌, ◌-◌, ◌/◌, ◌^◌, ◌<◌, min, max}
use native.Mathlib.Omega.{arith}
use lib.Dec.{lit≤}
use lib.IntN.{ℤ, pos, nat_abs, ◌+ℤ◌, ◌-ℤ◌, ◌*ℤ◌}
use Rattle.whole.specs.Floor.{floor_div}
use Rattle.whole.specs.Clamp.{clamp}
use Rattle.whole.specs.Fraction.{natural, ◌+ᶠ◌, divided_by, quotient, clampᶠ, Same}
use Rattle.whole.proofs.Pairs.{anyₚ, natₚ, ◌+ₚ◌, ◌-ₚ◌, ◌*ₚ◌, eq-by}
use Rattle.whole.proofs.FloorLaws.{floor-times}
use Rattle.bayer.specs.Mosaic.{Mosaic, is_green}
use Rattle.gbtf.specs.declared.direction.Direction.{Direction}
use Rattle.gbtf.specs.Direction.{direction_sum, five_sum, guarded_sum}
use Rattle.gbtf.specs.Fusion.{smallest_sum, share, fusion, green}
use Rattle.gbtf.specs.Exact.{sum_of_a/t², sum_of1/t², above0, exact_green}
use Rattle.gbtf.specs.GreenAt.{gradient_along, DH, DV, GH, GV, window, east, west, north, south, green_at, exact_green_at}
use Rattle.gbtf.specs.Weights.{even_weights, tapered_weights}
use Rattle.gbtf.proofs.Mean.{attained, least-pos, shares-least}

-- source 000's equations 35 and 36, written out: a gradient from five differences along a line
gradient-five : (D : ℤ → ℤ) (k : ℤ) → gradient_along D k ≡ nat_abs (D (k -ℤ pos 2) -ℤ D k) + nat_abs (D (k -ℤ pos 1) -ℤ D (k +ℤ pos 1)) + nat_abs (D k -ℤ D (k +ℤ pos 2))
gradient-five D k = λ t. nat_abs (D (back-two t) -ℤ D (back-again t)) + nat_abs (D (k -ℤ pos 1) -ℤ D (k +ℤ pos 1)) + nat_abs (D (on-again t) -ℤ D (on-two t))
  where
    back-two : k -ℤ pos 1 -ℤ pos 1 ≡ k -ℤ pos 2
    back-two = eq-by (anyₚ k -ₚ natₚ 1 -ₚ natₚ 1) (anyₚ k -ₚ natₚ 2) (omega arith)

    back-again : k -ℤ pos 1 +ℤ pos 1 ≡ k
    back-again = eq-by (anyₚ k -ₚ natₚ 1 +ₚ natₚ 1) (anyₚ k) (omega arith)

    on-again : k +ℤ pos 1 -ℤ pos 1 ≡ k
    on-again = eq-by (anyₚ k +ₚ natₚ 1 -ₚ natₚ 1) (anyₚ k) (omega arith)

    on-two : k +ℤ pos 1 +ℤ pos 1 ≡ k +ℤ pos 2
    on-two = eq-by (anyₚ k +ₚ natₚ 1 +ₚ natₚ 1) (anyₚ k +ₚ natₚ 2) (omega arith)

module _ (x : Mosaic) (i j : ℤ) where
  pub GH-printed : GH x i j ≡ nat_abs (DH x i (j -ℤ pos 2) -ℤ DH x i j) + nat_abs (DH x i (j -ℤ pos 1) -ℤ DH x i (j +ℤ pos 1)) + nat_abs (DH x i j -ℤ DH x i (j +ℤ pos 2))
  unfolding GH
  GH-printed = gradient-five (λ k. DH x i k) j

  pub GV-printed : GV x i j ≡ nat_abs (DV x (i -ℤ pos 2) j -ℤ DV x i j) + nat_abs (DV x (i -ℤ pos 1) j -ℤ DV x (i +ℤ pos 1) j) + nat_abs (DV x i j -ℤ DV x (i +ℤ pos 2) j)
  unfolding GV
  GV-printed = gradient-five (λ k. DV x k j) i

pub five-sum-even : (D : ℕ → ℤ) → five_sum even_weights D ≡ D 0 +ℤ D 1 +ℤ D 2 +ℤ D 3 +ℤ D 4
five-sum-even D =
    eq-by (1 *ₚ anyₚ (D 0) +ₚ 1 *ₚ anyₚ (D 1) +ₚ 1 *ₚ anyₚ (D 2) +ₚ 1 *ₚ anyₚ (D 3) +ₚ 1 *ₚ anyₚ (D 4))
    (anyₚ (D 0) +ₚ anyₚ (D 1) +ₚ anyₚ (D 2) +ₚ anyₚ (D 3) +ₚ anyₚ (D 4)) (omega arith)

-- smoothing 0: 4/5 of the mean, as document 01 prints it
pub fusion-five : (N : ℤ) (S : ℕ) → fusion N S 5 ≡ floor_div (pos 8 *ℤ N +ℤ pos (5 * S)) (10 * S)
unfolding fusion
fusion-five N S = let e : 2 * (5 * S) ≡ 10 * S = omega arith in rw e

-- smoothing 1: 1/25 of it, as document 02 prints it (A.5)
pub fusion-hundred : (N : ℤ) (S : ℕ) → 0 < S → fusion N S 100 ≡ floor_div (pos 2 *ℤ N +ℤ pos (25 * S)) (50 * S)
unfolding fusion
fusion-hundred N S h =
    let x : pos 8 *ℤ N +ℤ pos (100 * S) ≡ pos 4 *ℤ (pos 2 *ℤ N +ℤ pos (25 * S)) = eq-by (8 *ₚ anyₚ N +ₚ natₚ (100 * S)) (4 *ₚ (2 *ₚ anyₚ N +ₚ natₚ (25 * S))) (omega arith) in
    let d : 2 * (100 * S) ≡ 4 * (50 * S) = omega arith in
    ap₂ floor_div x d ∙ floor-times 4 (pos 2 *ℤ N +ℤ pos (25 * S)) (50 * S) (lit≤ tt) (omega arith)

-- and of the exact form
pub exact-hundred : (c : ℕ) (h : 0 < 100) (d : Direction) (l : List Direction) → Same (exact_green 100 c h d l) (clampᶠ (natural (16 * c) +ᶠ divided_by (quotient (sum_of_a/t² (d ∷ l)) (sum_of1/t² (d ∷ l)) (above0 d l)) 25 (lit≤ tt)))
unfolding exact_green
exact-hundred c h d l = let x = quotient (sum_of_a/t² (d ∷ l)) (sum_of1/t² (d ∷ l)) (above0 d l) in four-times _ _ _ (fourfold x.plus x.minus x.under)
  where
    -- of p − m over u: before the stop, and under it, all is four times as large
    fourfold : (p m u : ℕ) → min (16 * c * (u * 100) + 4 * p * 1 - (0 * (u * 100) + 4 * m * 1)) (65520 * (1 * (u * 100))) ≡ 4 * min (16 * c * (u * 25) + p * 1 - (0 * (u * 25) + m * 1)) (65520 * (1 * (u * 25)))
    fourfold p m u = omega arith

    four-times : (x y u : ℕ) → x ≡ 4 * y → x * (1 * (u * 25)) + 0 * (1 * (u * 100)) ≡ y * (1 * (u * 100)) + 0 * (1 * (u * 25))
    four-times x y u e = rw e (omega arith)

-- ---- green at a red or blue pixel, written out

four-directions : (K T c : ℕ) (e w n s : Direction) →
    let q : Direction → ℕ = λ d. share K (smallest_sum e (w ∷ n ∷ s ∷ [])) (guarded_sum d) in
    let N = pos (q e) *ℤ e.five +ℤ pos (q w) *ℤ w.five +ℤ pos (q n) *ℤ n.five +ℤ pos (q s) *ℤ s.five in
    let S = q e + q w + q n + q s in
    green K T c e (w ∷ n ∷ s ∷ []) ≡ clamp (pos (16 * c) +ℤ fusion N S T)
unfolding green
four-directions K T c e w n s = ap (λ z. clamp (pos (16 * c) +ℤ z)) (ap₂ (λ N S. fusion N S T) (products (p e) (p w) (p n) (p s)) (sums (q e) (q w) (q n) (q s)))
  where
    q : Direction → ℕ
    q d = share K (smallest_sum e (w ∷ n ∷ s ∷ [])) (guarded_sum d)

    p : Direction → ℤ
    p d = pos (q d) *ℤ d.five

    products : (a b c d : ℤ) → a +ℤ (b +ℤ (c +ℤ (d +ℤ pos 0))) ≡ a +ℤ b +ℤ c +ℤ d
    products a b c d = eq-by (anyₚ a +ₚ (anyₚ b +ₚ (anyₚ c +ₚ (anyₚ d +ₚ natₚ 0)))) (anyₚ a +ₚ anyₚ b +ₚ anyₚ c +ₚ anyₚ d) (omega arith)

    sums : (a b c d : ℕ) → a + (b + (c + (d + 0))) ≡ a + b + c + d
    sums a b c d = omega arith

-- the guarded sums t of the four directions, the smallest m, the shares q with document 02's scale, their sum S; and N, by how the five differences of a direction make its A
module _ (x : Mosaic) (i j : ℤ) where
  abbrev pub te : ℕ
  te = max (direction_sum (window (GH x) (i -ℤ pos 1) j)) 4

  abbrev pub tw : ℕ
  tw = max (direction_sum (window (GH x) (i -ℤ pos 1) (j -ℤ pos 2))) 4

  abbrev pub tn : ℕ
  tn = max (direction_sum (window (GV x) (i -ℤ pos 2) (j -ℤ pos 1))) 4

  abbrev pub ts : ℕ
  ts = max (direction_sum (window (GV x) i (j -ℤ pos 1))) 4

  abbrev pub m : ℕ
  m = min te (min tw (min tn ts))

  abbrev pub q : ℕ → ℕ
  q t = 2 ^ 24 * (m * m) / (t * t)

  abbrev pub S : ℕ
  S = q te + q tw + q tn + q ts

  abbrev pub N : (A : (ℕ → ℤ) → ℤ) → ℤ
  N A = pos (q te) *ℤ A (λ k. DH x i (j +ℤ pos k)) +ℤ pos (q tw) *ℤ A (λ k. DH x i (j -ℤ pos k)) +ℤ pos (q tn) *ℤ A (λ k. DV x (i -ℤ pos k) j) +ℤ pos (q ts) *ℤ A (λ k. DV x (i +ℤ pos k) j)

  -- document 01's rule, which smoothing 0 keeps
  pub green-even : is_green x i j ≡ false →
      let n = N (λ D. D 0 +ℤ D 1 +ℤ D 2 +ℤ D 3 +ℤ D 4) in
      green_at even_weights x i j (2 ^ 24) ≡ clamp (pos (16 * x.reading i j) +ℤ floor_div (pos 8 *ℤ n +ℤ pos (5 * S)) (10 * S))
  unfolding green_at
  green-even e =
      rw (e, five-sum-even (λ k. DH x i (j +ℤ pos k)), five-sum-even (λ k. DH x i (j -ℤ pos k)), five-sum-even (λ k. DV x (i -ℤ pos k) j), five-sum-even (λ k. DV x (i +ℤ pos k) j))
      (four-directions (2 ^ 24) 5 (x.reading i j) _ _ _ _ ∙ ap (λ z. clamp (pos (16 * x.reading i j) +ℤ z)) (fusion-five _ _))

  -- document 02's of smoothing 1
  pub green-tapered : is_green x i j ≡ false →
      let n = N (λ D. pos 26 *ℤ D 0 +ℤ pos 24 *ℤ D 1 +ℤ pos 21 *ℤ D 2 +ℤ pos 17 *ℤ D 3 +ℤ pos 12 *ℤ D 4) in
      green_at tapered_weights x i j (2 ^ 24) ≡ clamp (pos (16 * x.reading i j) +ℤ floor_div (pos 2 *ℤ n +ℤ pos (25 * S)) (50 * S))
  unfolding green_at
  green-tapered e = rw e (four-directions (2 ^ 24) 100 (x.reading i j) _ _ _ _ ∙ ap (λ z. clamp (pos (16 * x.reading i j) +ℤ z)) (fusion-hundred _ S some))
    where
      directions : List Direction
      directions = let ws = tapered_weights in west ws x i j ∷ north ws x i j ∷ south ws x i j ∷ []

      some : 0 < S
      some = omega (arith, shares-least (2 ^ 24) (least-pos (east tapered_weights x i j) directions) (attained (east tapered_weights x i j) directions))

  -- its exact form
  pub exact-tapered : (h : 0 < 100) → is_green x i j ≡ false →
      let l = east tapered_weights x i j ∷ west tapered_weights x i j ∷ north tapered_weights x i j ∷ south tapered_weights x i j ∷ [] in
      Same (exact_green_at tapered_weights x i j h) (clampᶠ (natural (16 * x.reading i j) +ᶠ divided_by (quotient (sum_of_a/t² l) (sum_of1/t² l) (above0 _ _)) 25 (lit≤ tt)))
  unfolding exact_green_at
  exact-tapered h e = rw e (exact-hundred (x.reading i j) h _ _)
