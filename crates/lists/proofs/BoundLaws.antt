-- Bounds on the entries of parts, of rows and of joined lists, from those on the entries they come from. Assumes nothing.
use Prim.Native.Nat.{ℕ, zero, suc, ◌+◌, ◌*◌, ◌≤◌, ◌<◌}
use mathlib.Core.Path.{sym, subst}
use mathlib.Core.List.{List, [], ◌∷◌, ◌++◌}
use native.Mathlib.Decide.{dec_le}
use native.Mathlib.Omega.{arith}
use lib.ListN.{take, drop, get_or, length-take, get_or-eq_default}
use lib.Seq.{get_or-take, get_or-drop}
use Rattle.lists.specs.Table.{table, joined}
use Rattle.lists.specs.Part.{part, row_of}
use Rattle.lists.specs.Bound.{AllAtMost}
use Rattle.lists.proofs.TableLaws.{table-all}

-- P of every entry, and of d, which is read past the end
module _ {A : Type 0} (P : A → Type 0) (d : A) (past : P d) where
  abbrev pub All : List A → Type 0
  All l = (k : ℕ) → P (get_or l k d)

  all_take : (n : ℕ) (l : List A) → All l → All (take n l)
  all_take n l h k =
      elim (dec_le (suc k) n) [
        | yes g ↦ subst P (sym (get_or-take n l k d g)) (h k)
        | no g ↦ subst P (sym (get_or-eq_default (take n l) d {n = k} (rw (length-take n l) (omega arith)))) past
      ]

  all_drop : (n : ℕ) (l : List A) → All l → All (drop n l)
  all_drop n l h k = subst P (sym (get_or-drop n l k d)) (h (n + k))

  pub all-part : (a n : ℕ) (l : List A) → All l → All (part a n l)
  all-part a n l h = all_take n (drop a l) (all_drop a l h)

  pub all_append : (xs ys : List A) → All xs → All ys → All (xs ++ ys)
  all_append [] ys h g k = g k
  all_append (x ∷ xs) ys h g zero = h 0
  all_append (x ∷ xs) ys h g (suc k) = all_append xs ys (λ j. h (suc j)) g k

  all-joined : (f : ℕ → List A) (n : ℕ) → ((j : ℕ) → j < n → All (f j)) → All (joined f n)
  unfolding joined
  all-joined f zero h k = past
  all-joined f (suc n) h k = all_append (joined f n) (f n) (all-joined f n (λ j g. h j (omega arith))) (h n (omega arith)) k

  -- parts of w entries, part i by rule i
  pub all-parts : (rule : ℕ → ℕ → A) (w n : ℕ) → ((i j : ℕ) → i < n → j < w → P (rule i j)) → All (joined (λ i. table (rule i) w) n)
  all-parts rule w n h = all-joined _ n (λ i g. table-all P (rule i) w past (λ j k. h i j g k))

pub row-at-most : (w i : ℕ) (rows : List ℕ) {m : ℕ} → AllAtMost m rows → AllAtMost m (row_of w i rows)
unfolding row_of
row-at-most w i rows {m} h = all-part (λ x. x ≤ m) 0 (omega arith) (i * w) w rows h
