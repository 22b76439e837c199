-- The statistics of a plane in the words of the library's chains. Assumes nothing.
use Prim.Native.Nat.{ℕ, ◌+◌}
use mathlib.Core.Path.{◌≡◌, refl, ap, ◌∙◌}
use mathlib.Core.List.{List, [], ◌∷◌}
use Rattle.std.specs.Prelude.{Option, unwrap_or, sum_by}
use Rattle.std.specs.List.{fold as std_fold, reduce}
use Rattle.plane_text.specs.Statistics.{fold, folded, sum}

fold_is : (f : ℕ → ℕ → ℕ) (v : ℕ) (l : List ℕ) → std_fold f v l ≡ fold f v l
unfolding fold
fold_is f v [] = refl
fold_is f v (x ∷ l) = fold_is f (f v x) l

-- the samples joined two by two, or 0 where there is none
pub reduced : (f : ℕ → ℕ → ℕ) (l : List ℕ) (r : Option ℕ) → r ≡ reduce f l → unwrap_or r 0 ≡ folded f l
unfolding folded
reduced f [] r e = ap (λ o. unwrap_or o 0) e
reduced f (x ∷ l) r e = ap (λ o. unwrap_or o 0) e ∙ fold_is f x l

pub summed : (l : List ℕ) (n : ℕ) → n ≡ sum_by (λ x. x) l → n ≡ sum l
summed l n e = e ∙ fold_is ◌+◌ 0 l
