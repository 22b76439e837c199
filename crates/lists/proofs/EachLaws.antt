-- What a test says of every entry of a list and its place: computed for the whole list at once. Assumes nothing.
use mathlib.Core.Path.{◌∙◌, subst, sym}
use mathlib.Core.Bool.{Bool, true, ◌&&◌}
use mathlib.Core.List.{List, [], ◌∷◌}
use Prim.Native.Nat.{ℕ, zero, suc, ◌+◌, ◌<◌}
use native.Mathlib.Nat.{add-zero, zero-add, add-suc, suc-add, le_of_suc-le-suc, not-suc-le-zero}
use lib.Dec.{T}
use lib.ListN.{length, get_or}
use Rattle.whole.proofs.Tests.{first, second}

-- the test passes at each entry and its place, counted from i
abbrev pub each : (test : (place entry : ℕ) → Bool) → ℕ → List ℕ → Bool
each test i [] = true
each test i (x ∷ l) = test i x && each test (suc i) l

module _ (test : (place entry : ℕ) → Bool) where
  each_from : (l : List ℕ) (i : ℕ) → T (each test i l) → (k : ℕ) → k < length l → T (test (i + k) (get_or l k 0))
  each_from [] i t k h = absurd (not-suc-le-zero h)
  each_from (x ∷ l) i t zero h = subst (λ (m : ℕ). T (test m x)) (sym (add-zero i)) (first (test i x) (each test (suc i) l) t)
  each_from (x ∷ l) i t (suc k) h =
      subst (λ (m : ℕ). T (test m (get_or l k 0))) (suc-add i k ∙ sym (add-suc i k))
      (each_from l (suc i) (second (test i x) (each test (suc i) l) t) k (le_of_suc-le-suc h))

  pub each_at : (l : List ℕ) → T (each test 0 l) → (k : ℕ) → k < length l → T (test k (get_or l k 0))
  each_at l t k h = subst (λ (m : ℕ). T (test m (get_or l k 0))) (zero-add k) (each_from l 0 t k h)
