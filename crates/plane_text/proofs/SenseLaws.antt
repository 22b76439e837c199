-- The statistics and the digits are what their names say. Assumes nothing.
use Prim.Native.Nat.{ℕ, zero, suc, ◌+◌, ◌-◌, ◌*◌, ◌/◌, ◌%◌, ◌≤◌, ◌<◌, min, max}
use mathlib.Core.Path.{◌≡◌, refl, sym, ◌∙◌}
use mathlib.Core.Logic.{◌⊎◌, inl, inr, ⊎_elim}
use mathlib.Core.List.{List, [], ◌∷◌, ◌++◌}
use native.Mathlib.Decide.{dec_le}
use native.Mathlib.Nat.{div-lt_self, div-add-mod'}
use native.Mathlib.Omega.{arith}
use borrow.Author.Tests.{lt-ltb, le-ltb}
use lib.ListN.{length, get_or}
use Rattle.plane_text.specs.Statistics.{fold, folded, smallest, largest}
use Rattle.plane_text.specs.Text.{digits, decimal}

-- no sample is below the smallest, or above the largest: a bound of what is joined is one of each entry
module _ (f : ℕ → ℕ → ℕ) (P : ℕ → Type 0) (both : (a b : ℕ) → P (f a b) → P a × P b) where
  each : (v : ℕ) (l : List ℕ) → P (fold f v l) → (i : ℕ) → i < length (v ∷ l) → P (get_or (v ∷ l) i 0)
  unfolding fold
  each v [] p zero h = p
  each v [] p (suc i) h = absurd (omega arith)
  each v (x ∷ l) p zero h = (both v x (each (f v x) l p 0 (omega arith))).0
  each v (x ∷ l) p (suc zero) h = (both v x (each (f v x) l p 0 (omega arith))).1
  each v (x ∷ l) p (suc (suc i)) h = each (f v x) l p (suc i) (omega arith)

  each_of : (l : List ℕ) → P (folded f l) → (i : ℕ) → i < length l → P (get_or l i 0)
  unfolding folded
  each_of [] p i h = absurd (omega arith)
  each_of (x ∷ l) p i h = each x l p i h

pub smallest-least : (l : List ℕ) (i : ℕ) → i < length l → smallest l ≤ get_or l i 0
smallest-least l = each_of min (λ a. smallest l ≤ a) (λ a b h. (omega arith, omega arith)) l (omega arith)

pub largest-most : (l : List ℕ) (i : ℕ) → i < length l → get_or l i 0 ≤ largest l
largest-most l = each_of max (λ a. a ≤ largest l) (λ a b h. (omega arith, omega arith)) l (omega arith)

-- and each is a sample
abbrev pub At : List ℕ → (v i : ℕ) → Type 0
At l v i = (i < length l) × (get_or l i 0 ≡ v)

module _ (f : ℕ → ℕ → ℕ) (one : (a b : ℕ) → (f a b ≡ a) ⊎ (f a b ≡ b)) where
  earlier : (v x : ℕ) (l : List ℕ) (w i : ℕ) → At (f v x ∷ l) w i → (j : ℕ) × At (v ∷ x ∷ l) w j
  earlier v x l w zero e = ⊎_elim (λ p. (0, (omega arith, sym p ∙ e.1))) (λ p. (1, (omega arith, sym p ∙ e.1))) (one v x)
  earlier v x l w (suc i) e = (suc (suc i), (omega (arith, e.0), e.1))

  found : (v : ℕ) (l : List ℕ) → (i : ℕ) × At (v ∷ l) (fold f v l) i
  unfolding fold
  found v [] = (0, (omega arith, refl))
  found v (x ∷ l) = let w = found (f v x) l in earlier v x l _ w.0 w.1

  found_in : (l : List ℕ) → 0 < length l → (i : ℕ) × At l (folded f l) i
  unfolding folded
  found_in [] h = absurd (omega arith)
  found_in (x ∷ l) h = found x l

pub smallest-found : (l : List ℕ) → 0 < length l → (i : ℕ) × At l (smallest l) i
smallest-found = found_in min (λ a b. elim (dec_le a b) [ yes h ↦ inl (omega arith) | no h ↦ inr (omega arith) ])

pub largest-found : (l : List ℕ) → 0 < length l → (i : ℕ) × At l (largest l) i
largest-found = found_in max (λ a b. elim (dec_le a b) [ yes h ↦ inr (omega arith) | no h ↦ inl (omega arith) ])

-- the digits, read back
abbrev pub read_back : List ℕ → ℕ
read_back = fold (λ v d. v * 10 + (d - 48)) 0

fold-append : (f : ℕ → ℕ → ℕ) (v : ℕ) (s t : List ℕ) → fold f v (s ++ t) ≡ fold f (fold f v s) t
unfolding fold
fold-append f v [] t = refl
fold-append f v (x ∷ s) t = fold-append f (f v x) s t

digits-read : (k n : ℕ) → n < k → read_back (digits k n) ≡ n
unfolding digits fold
digits-read zero n h = absurd (omega arith)
digits-read (suc k) n h =
    elim (dec_le 10 n) [
      | yes t ↦
          let d : n / 10 < n = div-lt_self (omega arith) (omega arith) in
          rw (le-ltb n 10 t, fold-append (λ v d. v * 10 + (d - 48)) 0 (digits k (n / 10)) ((48 + n % 10) ∷ []), digits-read k (n / 10) (omega arith)) (omega (arith, div-add-mod' n 10))
      | no t ↦ rw (lt-ltb n 10 (omega arith)) (omega arith)
    ]

pub decimal-read : (n : ℕ) → read_back (decimal n) ≡ n
unfolding decimal
decimal-read n = digits-read (suc n) n (omega arith)
