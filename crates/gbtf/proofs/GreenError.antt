-- The error of green against exact green: at most 1/2 + 8 G n / K for 1 + n directions whose five-sums are within T G. Assumes nothing.
use mathlib.Core.Path.{◌≡◌, refl, sym, ap}
use mathlib.Core.List.{List, [], ◌∷◌}
use Prim.Native.Nat.{ℕ, ◌+◌, ◌*◌, ◌-◌, ◌≤◌, ◌<◌}
use native.Mathlib.Nat.{le_refl, mul-pos, mul-le-mul_left, mul-le-mul}
use native.Mathlib.Omega.{arith}
use lib.IntN.{ℤ, pos, nat_abs, ◌+ℤ◌, ◌*ℤ◌}
use lib.ListN.{length}
use Rattle.whole.specs.Parts.{up, down}
use Rattle.whole.specs.Clamp.{clamp}
use Rattle.whole.specs.Fraction.{Fraction, ratio, integer, natural, ◌+ᶠ◌, times, divided_by, quotient, clampᶠ, Same, Within}
use Rattle.whole.proofs.Pairs.{+ℤ-up, up-times, down-times}
use Rattle.whole.proofs.Magnitudes.{up_le, down_le}
use Rattle.whole.proofs.FractionLaws.{within-trans, within-clamp, within_wider, add-up, within-from, within-to, within-shift, clamp-is, sum_is, rounded-near}
use Rattle.lists.specs.Every.{Every}
use Rattle.lists.proofs.EveryLaws.{every, everywhere}
use Rattle.gbtf.specs.declared.direction.Direction.{Direction}
use Rattle.gbtf.specs.Direction.{guarded_sum}
use Rattle.gbtf.specs.Fusion.{smallest_sum, share, shares, shared_differences, fusion, green}
use Rattle.gbtf.specs.Exact.{sum_over/t², sum_of_a/t², sum_of1/t², above0, exact_green}
use Rattle.gbtf.proofs.Mean.{square, prod, mixed, shared, loose, one, mixed-bound, means, attained, loose-less, least-pos, shares-least}

a⁺ : Direction → ℕ
a⁺ d = up d.five

a⁻ : Direction → ℕ
a⁻ d = down d.five

-- ---- the rule's sums and the exact form's are those of Mean

shares-is : (K m : ℕ) (l : List Direction) → shares K m l ≡ shared (K * (m * m)) one l
unfolding shared one
shares-is K m [] = refl
shares-is K m (d ∷ l) = omega (arith, shares-is K m l)

fused-is : (K m : ℕ) (l : List Direction) → up (shared_differences K m l) + shared (K * (m * m)) a⁻ l ≡ down (shared_differences K m l) + shared (K * (m * m)) a⁺ l
unfolding shared a⁺ a⁻
fused-is K m [] = refl
fused-is K m (d ∷ l) = omega (arith, +ℤ-up (pos (share K m (guarded_sum d)) *ℤ d.five) (shared_differences K m l), up-times (share K m (guarded_sum d)) d.five, down-times (share K m (guarded_sum d)) d.five, fused-is K m l)

sum-under : (f : Direction → ℤ) (l : List Direction) → (sum_over/t² f l).under ≡ prod l
unfolding sum_over/t² prod
sum-under f [] = refl
sum-under f (d ∷ l) = ap (λ n. square d * n) (sum-under f l)

sum-plus : (f : Direction → ℤ) (l : List Direction) → (sum_over/t² f l).plus ≡ mixed (λ d. up (f d)) l
unfolding sum_over/t² mixed
sum-plus f [] = refl
sum-plus f (d ∷ l) = rw (sum-under f l, sum-plus f l)

sum-minus : (f : Direction → ℤ) (l : List Direction) → (sum_over/t² f l).minus ≡ mixed (λ d. down (f d)) l
unfolding sum_over/t² mixed
sum-minus f [] = refl
sum-minus f (d ∷ l) = rw (sum-under f l, sum-minus f l)

-- ---- the fusion is within 1/2 of 4N/(TS)

abbrev quarters : (N : ℤ) (R : ℕ) → 0 < R → Fraction
quarters N R h = record { plus = 4 * up N; minus = 4 * down N; under = R; proper = h }

pub fusion-near : (N : ℤ) (S T : ℕ) (h : 0 < T * S) → Within (integer (fusion N S T)) (quarters N (T * S) h) 1 2
unfolding fusion
fusion-near N S T h = within-to (ratio (pos 8 *ℤ N) (2 * (T * S)) p) (quarters N (T * S) h) (rounded-near (pos 8 *ℤ N) (T * S) p) (rw (up-times 8 N, down-times 8 N) (omega arith))
  where
    p : 0 < 2 * (T * S)
    p = omega arith

-- ---- 4N/(TS) is within 8 G n / K of 4E/(TP), G a bound on |A| / T

bridge : (N⁺ N⁻ sa sb Ea Eb P S R : ℕ) → N⁺ + sb ≡ N⁻ + sa → sa * P + Eb * S ≤ sb * P + Ea * S + R → N⁺ * P + Eb * S ≤ Ea * S + N⁻ * P + R
bridge N⁺ N⁻ sa sb Ea Eb P S R e h = omega (arith, ap (λ n. n * P) e)

scaled-left : (N⁺ Eb P T S K : ℕ) → (8 * K * T) * (N⁺ * P + Eb * S) ≡ 2 * K * ((4 * N⁺) * (P * T) + (4 * Eb) * (T * S))
scaled-left N⁺ Eb P T S K = omega arith

scaled-right : (N⁻ Ea P T S K L n G : ℕ)
    → (8 * K * T) * (Ea * S + N⁻ * P + (2 * (T * G) * P) * L) + (16 * (T * T * G * P)) * (S * n)
    ≡ (2 * K * ((4 * Ea) * (T * S) + (4 * N⁻) * (P * T)) + (16 * G * n) * ((T * S) * (P * T))) + (16 * (T * T * G * P)) * (K * L)
scaled-right N⁻ Ea P T S K L n G = omega arith

scaled : (N⁺ N⁻ Ea Eb P T S K L n G : ℕ) → N⁺ * P + Eb * S ≤ Ea * S + N⁻ * P + (2 * (T * G) * P) * L → K * L ≤ S * n
    → 2 * K * ((4 * N⁺) * (P * T) + (4 * Eb) * (T * S)) ≤ 2 * K * ((4 * Ea) * (T * S) + (4 * N⁻) * (P * T)) + (16 * G * n) * ((T * S) * (P * T))
scaled N⁺ N⁻ Ea Eb P T S K L n G h k =
    add-up ((16 * (T * T * G * P)) * (K * L)) (mul-le-mul_left (8 * K * T) h) (mul-le-mul_left (16 * (T * T * G * P)) k)
    (ap (λ x. x + (16 * (T * T * G * P)) * (K * L)) (scaled-left N⁺ Eb P T S K))
    (scaled-right N⁻ Ea P T S K L n G)

flip : (b x y u v a w z : ℕ) → b * (x + y) ≤ b * (u + v) + a * (w * z) → b * (y + x) ≤ b * (v + u) + a * (z * w)
flip b x y u v a w z h = omega arith

-- ---- the whole

exact-core : (Ea Eb P p T z : ℕ) → z ≡ 0 → (4 * Ea) * (p * (P - z) * T) + (4 * (Eb * p)) * (P * T) ≡ (4 * (Ea * p)) * (P * T) + (4 * Eb) * (p * (P - z) * T)
exact-core Ea Eb P p T z h = let e : P - z ≡ P = omega arith in rw e (omega arith)

weights-pos : (d : Direction) (l : List Direction) → 0 < mixed one (d ∷ l)
unfolding one
weights-pos d l = omega (arith, above0 d l, sum-plus (λ d. pos 1) (d ∷ l))

-- 4E/(TP), and that it is the exact form's fraction
abbrev simple : (T : ℕ) → 0 < T → Direction → List Direction → Fraction
simple T hT d l = record { plus = 4 * mixed a⁺ (d ∷ l); minus = 4 * mixed a⁻ (d ∷ l); under = mixed one (d ∷ l) * T; proper = mul-pos (weights-pos d l) hT }

simple-is : (T : ℕ) (hT : 0 < T) (d : Direction) (l : List Direction) → Same (simple T hT d l) (divided_by (times 4 (quotient (sum_of_a/t² (d ∷ l)) (sum_of1/t² (d ∷ l)) (above0 d l))) T hT)
unfolding a⁺ a⁻ one
simple-is T hT d l =
    rw (sum-plus A w, sum-minus A w, sum-under A w, sum-plus (λ e. pos 1) w, sum-minus (λ e. pos 1) w, sum-under (λ e. pos 1) w)
    (exact-core (mixed a⁺ w) (mixed a⁻ w) (mixed one w) (prod w) T _ none)
  where
    A : Direction → ℤ
    A e = e.five

    w : List Direction
    w = d ∷ l

    none : mixed (λ e. 0) w ≡ 0
    none = omega (arith, mixed-bound (λ e. 0) 0 w (everywhere (λ e. le_refl 0) w))

module _ (K T c : ℕ) (hK : 0 < K) (hT : 0 < T) (G : ℕ) (d : Direction) (l : List Direction) (small : Every (λ e. nat_abs e.five ≤ T * G) (d ∷ l)) where
  hS : K ≤ shares K (smallest_sum d l) (d ∷ l)
  hS = shares-least K (least-pos d l) (attained d l)

  hR : 0 < T * shares K (smallest_sum d l) (d ∷ l)
  hR = mul-pos hT (omega (arith, hS))

  means-near : Within (quarters (shared_differences K (smallest_sum d l) (d ∷ l)) (T * shares K (smallest_sum d l) (d ∷ l)) hR) (simple T hT d l) (16 * G * length l) (2 * K)
  unfolding a⁺ a⁻
  means-near = record {
    low =
        scaled (up N) (down N) (mixed a⁺ w) (mixed a⁻ w) (mixed one w) T (shares K m w) K (loose M w) (length l) G
        (bridge (up N) (down N) (shared M a⁺ w) (shared M a⁻ w) (mixed a⁺ w) (mixed a⁻ w) (mixed one w) (shares K m w) _ (fused-is K m w) (rw (← shares-is K m w) at (means M (T * G) a⁻ a⁺ w downs ups)))
        few;
    high =
        flip (2 * K) ((4 * down N) * (mixed one w * T)) ((4 * mixed a⁺ w) * (T * shares K m w)) ((4 * mixed a⁻ w) * (T * shares K m w)) ((4 * up N) * (mixed one w * T)) (16 * G * length l) (T * shares K m w) (mixed one w * T)
        (scaled (down N) (up N) (mixed a⁻ w) (mixed a⁺ w) (mixed one w) T (shares K m w) K (loose M w) (length l) G
        (bridge (down N) (up N) (shared M a⁻ w) (shared M a⁺ w) (mixed a⁻ w) (mixed a⁺ w) (mixed one w) (shares K m w) _ (sym (fused-is K m w)) (rw (← shares-is K m w) at (means M (T * G) a⁺ a⁻ w ups downs)))
        few);
  }
    where
      m : ℕ
      m = smallest_sum d l

      N : ℤ
      N = shared_differences K (smallest_sum d l) (d ∷ l)

      w : List Direction
      w = d ∷ l

      M : ℕ
      M = K * (m * m)

      ups : Every (λ e. a⁺ e ≤ T * G) w
      ups = every (λ e h. up_le e.five (T * G) h) w small

      downs : Every (λ e. a⁻ e ≤ T * G) w
      downs = every (λ e h. down_le e.five (T * G) h) w small

      few : K * loose M w ≤ shares K m w * length l
      few = mul-le-mul hS (omega (arith, loose-less K (attained d l)))

  pub green-within : Within (natural (green K T c d l)) (exact_green T c hT d l) (K + 16 * G * length l) (2 * K)
  unfolding green exact_green
  green-within =
      within-from (natural (clamp (pos (16 * c) +ℤ F))) (clampᶠ (integer (pos (16 * c) +ℤ F))) (clamp-is (pos (16 * c) +ℤ F))
      (within-clamp (within-from (integer (pos (16 * c) +ℤ F)) (natural (16 * c) +ᶠ integer F) (sum_is (16 * c) F) (within-shift (natural (16 * c)) near)))
    where
      m : ℕ
      m = smallest_sum d l

      F : ℤ
      F = fusion (shared_differences K (smallest_sum d l) (d ∷ l)) (shares K (smallest_sum d l) (d ∷ l)) T

      near : Within (integer F) (divided_by (times 4 (quotient (sum_of_a/t² (d ∷ l)) (sum_of1/t² (d ∷ l)) (above0 d l))) T hT) (K + 16 * G * length l) (2 * K)
      near = within-to (simple T hT d l) _ (within-trans (within_wider K (2 * K) (omega arith) (omega arith) (fusion-near (shared_differences K m (d ∷ l)) (shares K m (d ∷ l)) T hR)) means-near) (simple-is T hT d l)
