-- Fusion of four directions, from their shares and their lifted five-sums. Assumes nothing.
use Prim.Native.Nat.{ℕ, ◌+◌, ◌*◌, ◌/◌, ◌^◌, ◌≤◌, ◌<◌, min}
use mathlib.Core.List.{List, [], ◌∷◌}
use mathlib.Core.Path.{◌≡◌, ap, ap₂, ◌∙◌}
use native.Mathlib.Nat.{mul-le-mul_left, mul-pos}
use native.Mathlib.Omega.{arith}
use lib.Dec.{lit<}
use lib.IntN.{ℤ, pos, nat_abs, ◌+ℤ◌, ◌-ℤ◌}
use lib.Ieee.{Float}
use Rattle.whole.specs.Parts.{up, down}
use Rattle.whole.proofs.Pairs.{anyₚ, natₚ, ◌+ₚ◌, ◌*ₚ◌, eq-by, eq_of}
use Rattle.whole.proofs.Magnitudes.{up_le}
use Rattle.floats.specs.Float.{val, WholeUpTo}
use Rattle.floats.proofs.Numbers.{Number, number-told}
use Rattle.gbtf.specs.Direction.{guarded_sum}
use Rattle.gbtf.specs.Fusion.{smallest_sum, share, shares, shared_differences, fusion, fused}
use Rattle.gbtf.specs.Machine.{Fitting}
use Rattle.gbtf.specs.Weights.{scale}
use Rattle.gbtf.proofs.Mean.{attained, least-pos, shares-least}
use Rattle.gbtf.specs.declared.direction.Direction.{Direction}
use Rattle.fusion.proofs.LiftLaws.{lifted-mean, lowered}
use Rattle.fusion.proofs.MeanLaws.{mean-small}

-- ---- the smallest of four
pub smallest-is : (E W N S : ℕ) {m e w n s : ℕ} → m ≡ min e (min w (min n s)) → e ≡ E → w ≡ W → n ≡ N → s ≡ S → m ≡ min E (min W (min N S))
smallest-is E W N S h p q u v = h ∙ rw (p, q, u, v)

pub least : (e w n s : ℕ) {m : ℕ} → m ≡ min e (min w (min n s)) → (m ≤ e) × (m ≤ w) × (m ≤ n) × (m ≤ s)
least e w n s h = (omega arith, omega arith, omega arith, omega arith)

-- ---- the two numbers that the mean takes, and f, which it gives when it is lowered
pub record Fuses (n u : ℕ) (f : ℤ) : Type 0 where
  pub above0 : 0 < u
  pub most : n ≤ 65535 * u
  pub is : pos ((8 * n + u) / (2 * u)) ≡ f +ℤ pos 131072

pub mean-asks : {n u : ℕ} {f : ℤ} {x y : Float} → Fuses n u f → (p : Number (65535 * 2 ^ 33) x) (q : Number (2 ^ 33) y) → p.value ≡ n → q.value ≡ u
    → WholeUpTo (65535 * 2 ^ 33) x × WholeUpTo (2 ^ 33) y × (0 < val y) × (val x ≤ 65535 * val y)
mean-asks h p q e g =
    let a = number-told p (lit< tt) in
    let b = number-told q (lit< tt) in
    (a.0, b.0, omega (arith, h.above0, b.1), omega (arith, h.most, a.1, b.1))

pub mean-told : {n u : ℕ} {f r : ℤ} {x y : Float} → Fuses n u f → r ≡ pos ((8 * val x + val y) / (2 * val y)) → (p : Number (65535 * 2 ^ 33) x) (q : Number (2 ^ 33) y) → p.value ≡ n → q.value ≡ u
    → (nat_abs r ≤ 262144) × (r -ℤ pos 131072 ≡ f) × (nat_abs f ≤ 131072)
mean-told {n} {u} {f} {r} h k p q e g =
    let v : r ≡ pos ((8 * n + u) / (2 * u)) = k ∙ ap₂ (λ (a b : ℕ). pos ((8 * a + b) / (2 * b))) ((number-told p (lit< tt)).1 ∙ e) ((number-told q (lit< tt)).1 ∙ g) in
    let s = mean-small n u h.above0 h.most in
    let t = lowered ((8 * n + u) / (2 * u)) f h.is s in
    (omega (arith, ap nat_abs v, s), ap (λ (z : ℤ). z -ℤ pos 131072) v ∙ t.0, t.1)

-- ---- what the code has of a direction, m the smallest guarded sum: its share q and its lifted five-sum a
pub record Told (T m : ℕ) (d : Direction) (q a : ℕ) : Type 0 where
  pub share-is : q ≡ share scale m (guarded_sum d)
  pub lifted : pos a ≡ d.five +ℤ pos (32768 * T)
  pub fitting : Fitting T d

module _ {T m : ℕ} {d : Direction} {q a : ℕ} (h : Told T m d q a) where
  parts : a + down d.five ≡ up d.five + 32768 * T
  parts = omega (arith, eq_of (natₚ a) (anyₚ d.five +ₚ natₚ (32768 * T)) h.lifted)

  weighed : q * a ≤ 65535 * (q * T)
  weighed = let l : a ≤ 65535 * T = omega (arith, parts, up_le d.five (32767 * T) h.fitting.five) in omega (arith, mul-le-mul_left q l)

  shared : q * a + q * down d.five ≡ q * up d.five + q * (32768 * T)
  shared = omega (arith, ap (λ (z : ℕ). q * z) parts)

module _ (T : ℕ) (d₁ d₂ d₃ d₄ : Direction) {q₁ q₂ q₃ q₄ a₁ a₂ a₃ a₄ : ℕ} (above : 0 < T)
    (h₁ : Told T (smallest_sum d₁ (d₂ ∷ d₃ ∷ d₄ ∷ [])) d₁ q₁ a₁) (h₂ : Told T (smallest_sum d₁ (d₂ ∷ d₃ ∷ d₄ ∷ [])) d₂ q₂ a₂)
    (h₃ : Told T (smallest_sum d₁ (d₂ ∷ d₃ ∷ d₄ ∷ [])) d₃ q₃ a₃) (h₄ : Told T (smallest_sum d₁ (d₂ ∷ d₃ ∷ d₄ ∷ [])) d₄ q₄ a₄) where
  abbrev l : List Direction
  l = d₂ ∷ d₃ ∷ d₄ ∷ []

  abbrev N : ℕ
  N = q₁ * a₁ + q₂ * a₂ + (q₃ * a₃ + q₄ * a₄)

  abbrev S : ℕ
  S = q₁ + q₂ + (q₃ + q₄)

  shares-are : S ≡ shares scale (smallest_sum d₁ l) (d₁ ∷ l)
  shares-are = omega (arith, h₁.share-is, h₂.share-is, h₃.share-is, h₄.share-is)

  -- the smallest direction has the whole scale
  divisor-above : 0 < T * S
  divisor-above = let s : 0 < S = omega (arith, shares-are, shares-least scale (least-pos d₁ l) (attained d₁ l)) in mul-pos above s

  dividend-le : N ≤ 65535 * (T * S)
  dividend-le = omega (arith, weighed h₁, weighed h₂, weighed h₃, weighed h₄)

  differences-are : pos N ≡ shared_differences scale (smallest_sum d₁ l) (d₁ ∷ l) +ℤ pos (32768 * (T * S))
  differences-are =
      rw (← h₁.share-is, ← h₂.share-is, ← h₃.share-is, ← h₄.share-is)
      (eq-by (natₚ N) (q₁ *ₚ anyₚ d₁.five +ₚ (q₂ *ₚ anyₚ d₂.five +ₚ (q₃ *ₚ anyₚ d₃.five +ₚ (q₄ *ₚ anyₚ d₄.five +ₚ natₚ 0))) +ₚ natₚ (32768 * (T * S)))
      (omega (arith, shared h₁, shared h₂, shared h₃, shared h₄)))

  mean-is : pos ((8 * N + T * S) / (2 * (T * S))) ≡ fused scale T d₁ l +ℤ pos 131072
  mean-is = lifted-mean T S N (shared_differences scale (smallest_sum d₁ l) (d₁ ∷ l)) divisor-above differences-are ∙ ap (λ (z : ℕ). fusion (shared_differences scale (smallest_sum d₁ l) (d₁ ∷ l)) z T +ℤ pos 131072) shares-are

  pub fuses : Fuses N (T * S) (fused scale T d₁ l)
  fuses = record { above0 = divisor-above; most = dividend-le; is = mean-is }
