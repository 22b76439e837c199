-- A function, so many times over. Assumes nothing.
use Prim.Native.Nat.{ℕ, zero, suc, ◌+◌}
use mathlib.Core.Path.{◌≡◌, refl, ap, ◌∙◌}
use native.Mathlib.Nat.{add-zero, add-suc}
use native.Mathlib.Numerals.{add-one}
use native.Mathlib.Omega.{arith}
use Rattle.test_frames.specs.Generator.{iterate}

module _ (f : ℕ → ℕ) where
  -- once more
  pub iterate-next : (r x : ℕ) → iterate f (r + 1) x ≡ f (iterate f r x)
  unfolding iterate
  iterate-next r x = rw (add-one r)

  iterate-first : (r x : ℕ) → f (iterate f r x) ≡ iterate f r (f x)
  unfolding iterate
  iterate-first zero x = refl
  iterate-first (suc r) x = ap f (iterate-first r x)

  -- q times, and then r times more
  pub iterate-add : (q r x : ℕ) → iterate f (q + r) x ≡ iterate f r (iterate f q x)
  unfolding iterate
  iterate-add q zero x = rw (add-zero q)
  iterate-add q (suc r) x = rw (add-suc q r) (ap f (iterate-add q r x))

  -- by twos
  pub iterate-even : (q r x : ℕ) → r ≡ q + q → iterate f r x ≡ iterate (λ y. f (f y)) q x
  unfolding iterate
  iterate-even zero zero x e = refl
  iterate-even zero (suc r) x e = absurd (omega arith)
  iterate-even (suc q) zero x e = absurd (omega arith)
  iterate-even (suc q) (suc zero) x e = absurd (omega arith)
  iterate-even (suc q) (suc (suc r)) x e = ap (λ y. f (f y)) (iterate-even q r x (omega arith))

  pub iterate-odd : (q r x : ℕ) → r ≡ suc (q + q) → iterate f r x ≡ iterate (λ y. f (f y)) q (f x)
  unfolding iterate
  iterate-odd q zero x e = absurd (omega arith)
  iterate-odd q (suc r) x e = iterate-first r x ∙ iterate-even q r (f x) (omega arith)

pub iterate-same : (f g : ℕ → ℕ) → ((x : ℕ) → f x ≡ g x) → (r x : ℕ) → iterate f r x ≡ iterate g r x
unfolding iterate
iterate-same f g h zero x = refl
iterate-same f g h (suc r) x = ap f (iterate-same f g h r x) ∙ h (iterate g r x)
