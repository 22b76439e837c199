-- Whether some element passes a test: laws of lists one element longer, of what is left from a place on and of lists given by a rule; and what holds of all if none does. Assumes nothing.
use Prim.Native.Nat.{ℕ, zero, suc, ◌+◌, ◌≤◌, ◌<◌}
use mathlib.Core.Path.{◌≡◌, refl, sym, ap, ◌∙◌}
use mathlib.Core.Bool.{Bool, true, false, ◌||◌}
use mathlib.Core.List.{List, [], ◌∷◌, ◌++◌}
use native.Mathlib.Decide.{dec_le}
use native.Mathlib.Nat.{not-suc-le-zero}
use native.Mathlib.Numerals.{add-one}
use native.Mathlib.Omega.{arith}
use borrow.Author.Tests.{ltb-false, le-ltb}
use lib.Dec.{ltb}
use lib.ListN.{length, get_or, take, drop}
use Rattle.std.proofs.lemmas.List.{take_more, drop_more, drop_all}
use Rattle.whole.proofs.Tests.{neither}
use Rattle.lists.specs.Any.{any}
use Rattle.lists.specs.Table.{table, joined}
use Rattle.lists.specs.Bound.{AllAtMost, any_above}

or_assoc : (a b c : Bool) → a || (b || c) ≡ (a || b) || c
or_assoc true b c = refl
or_assoc false b c = refl

or-true : (a : Bool) → a || true ≡ true
or-true true = refl
or-true false = refl

or-false : (a : Bool) → a || false ≡ a
or-false true = refl
or-false false = refl

-- ---- b: whether some element before place i passes

module _ {A : Type 0} (p : A → Bool) (l : List A) (i : ℕ) (b : Bool) where
  pub any_next : (d : A) → i < length l → b || any p (drop i l) ≡ (b || p (get_or l i d)) || any p (drop (i + 1) l)
  unfolding any
  any_next d h = rw (drop_more l i d h) (or_assoc b (p (get_or l i d)) (any p (drop (i + 1) l)))

  pub any-end : length l ≤ i → b || any p (drop i l) ≡ b
  unfolding any
  any-end h = rw (drop_all i l h) (or-false b)

-- ---- up to a place of a list that is given by a rule

-- b n: whether some place before n passes; q i: whether place i does
module _ (b q : ℕ → Bool) (start : b 0 ≡ false) (next : (n : ℕ) → b (n + 1) ≡ b n || q n) where
  some-passes : (i n : ℕ) → i < n → q i ≡ true → b n ≡ true
  some-passes i zero h e = absurd (not-suc-le-zero h)
  some-passes i (suc n) h e =
      (rw (add-one n) at (next n))
      ∙ elim (dec_le (suc i) n) [
        | yes g ↦ rw (some-passes i n g e)
        | no g ↦ let k : i ≡ n = omega arith in rw (← k, e) (or-true (b i))
      ]

  none_pass : (n : ℕ) → ((i : ℕ) → i < n → q i ≡ false) → b n ≡ false
  none_pass zero h = start
  none_pass (suc n) h = (rw (add-one n) at (next n)) ∙ rw (none_pass n (λ i g. h i (omega arith)), h n (omega arith))

  none_passed : (n : ℕ) → b n ≡ false → (i : ℕ) → i < n → q i ≡ false
  none_passed zero e i h = absurd (not-suc-le-zero h)
  none_passed (suc n) e i h =
      let p = neither (b n) (q n) (sym (rw (add-one n) at (next n)) ∙ e) in
      elim (dec_le (suc i) n) [
        | yes g ↦ none_passed n p.0 i g
        | no g ↦ let k : i ≡ n = omega arith in rw k p.1
      ]

module _ {A : Type 0} (p : A → Bool) where
  any_append : (xs ys : List A) → any p (xs ++ ys) ≡ any p xs || any p ys
  unfolding any
  any_append [] ys = refl
  any_append (x ∷ xs) ys = ap (λ b. p x || b) (any_append xs ys) ∙ or_assoc (p x) (any p xs) (any p ys)

  -- one more element
  pub any_more : (l : List A) (i : ℕ) (d : A) → i < length l → any p (take (i + 1) l) ≡ any p (take i l) || p (get_or l i d)
  unfolding any
  any_more l i d h = rw (take_more l i d h) (any_append (take i l) (get_or l i d ∷ []) ∙ ap (λ b. any p (take i l) || b) (or-false (p (get_or l i d))))

  pub any-table : (f : ℕ → A) (n : ℕ) → any p (table f (n + 1)) ≡ any p (table f n) || p (f n)
  unfolding any table
  any-table f n = rw (add-one n) (any_append (table f n) (f n ∷ []) ∙ ap (λ b. any p (table f n) || b) (or-false (p (f n))))

  any-table-none : (f : ℕ → A) → any p (table f 0) ≡ false
  unfolding any table
  any-table-none f = refl

  pub any-joined : (f : ℕ → List A) (n : ℕ) → any p (joined f (n + 1)) ≡ any p (joined f n) || any p (f n)
  unfolding joined
  any-joined f n = rw (add-one n) (any_append (joined f n) (f n))

  any-joined-none : (f : ℕ → List A) → any p (joined f 0) ≡ false
  unfolding any joined
  any-joined-none f = refl

  pub joined-stop : (f : ℕ → List A) (i n : ℕ) → i < n → any p (f i) ≡ true → any p (joined f n) ≡ true
  joined-stop f = some-passes (λ n. any p (joined f n)) (λ i. any p (f i)) (any-joined-none f) (any-joined f)

  -- parts of w elements, part i by rule i: none passes, where none of any part does; and the other way round
  pub parts_none : (rule : ℕ → ℕ → A) (w n : ℕ) → ((i j : ℕ) → i < n → j < w → p (rule i j) ≡ false) → any p (joined (λ i. table (rule i) w) n) ≡ false
  parts_none rule w n h =
      none_pass (λ n. any p (joined (λ i. table (rule i) w) n)) _ (any-joined-none _) (any-joined _) n
      (λ i g. none_pass (λ w. any p (table (rule i) w)) _ (any-table-none _) (any-table _) w (λ j k. h i j g k))

  pub none-in-parts : (rule : ℕ → ℕ → A) (w n : ℕ) → any p (joined (λ i. table (rule i) w) n) ≡ false → (i j : ℕ) → i < n → j < w → p (rule i j) ≡ false
  none-in-parts rule w n e i j h k =
      none_passed (λ w. any p (table (rule i) w)) (λ j. p (rule i j)) (any-table-none _) (any-table _) w
      (none_passed (λ n. any p (joined (λ i. table (rule i) w) n)) (λ i. any p (table (rule i) w)) (any-joined-none _) (any-joined _) n e i h) j k

-- ---- none above m

pub above-none : (m : ℕ) (l : List ℕ) → AllAtMost m l → any_above m l ≡ false
unfolding any
above-none m [] h = refl
above-none m (x ∷ l) h = rw (le-ltb m x (h 0)) (above-none m l (λ k. h (suc k)))

pub none_above : (m : ℕ) (l : List ℕ) → any_above m l ≡ false → AllAtMost m l
unfolding any
none_above m [] e n = omega arith
none_above m (x ∷ l) e zero = ltb-false m x (neither (ltb m x) (any_above m l) e).0
none_above m (x ∷ l) e (suc n) = none_above m l (neither (ltb m x) (any_above m l) e).1 n
