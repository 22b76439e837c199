-- Laws of lists that are given by a rule, for loops that fill a slice from the front, entry by entry. Assumes nothing.
use Prim.Native.Nat.{ℕ, zero, suc, ◌+◌, ◌-◌, ◌≤◌, ◌<◌}
use mathlib.Core.Path.{◌≡◌, refl, sym, subst, ap, ap₂, ◌∙◌}
use mathlib.Core.List.{List, [], ◌∷◌, ◌++◌, append_assoc, append-nil}
use native.Mathlib.Decide.{dec_le}
use native.Mathlib.Nat.{add-zero, add-suc, not-suc-le-zero, le_antisymm}
use native.Mathlib.Numerals.{add-one}
use native.Mathlib.Omega.{arith}
use lib.ListN.{length, drop, get_or, set, length-append, drop_of_length-le, length-set, get_or-append, get_or-eq_default}
use lib.Seq.{drop-cons, set_at, append_snoc, take_at, drop_at, get_or_at, ext_get_or}
use Rattle.lists.specs.Table.{table}
use Rattle.lists.specs.Part.{part}

module _ {A : Type 0} where
  pub length-table : (f : ℕ → A) (n : ℕ) → length (table f n) ≡ n
  unfolding table
  length-table f zero = refl
  length-table f (suc n) = length-append (table f n) (f n ∷ []) ∙ ap (λ (k : ℕ). k + 1) (length-table f n) ∙ add-one n

  pub get_or-table : (f : ℕ → A) (n i : ℕ) (d : A) → i < n → get_or (table f n) i d ≡ f i
  unfolding table
  get_or-table f zero i d h = absurd (not-suc-le-zero h)
  get_or-table f (suc n) i d h =
      elim (dec_le (suc i) n) [
        | yes l ↦ get_or-append (table f n) (f n ∷ []) d i (rw (length-table f n) l) ∙ get_or-table f n i d l
        | no l ↦ let e : i ≡ n = omega arith in rw e (get_or_at (table f n) (f n) [] d n (length-table f n))
      ]

  -- rules that agree below n
  pub table_same : (f g : ℕ → A) (n : ℕ) → ((i : ℕ) → i < n → f i ≡ g i) → table f n ≡ table g n
  unfolding table
  table_same f g zero h = refl
  table_same f g (suc n) h = ap₂ (λ (l : List A) (a : A). l ++ (a ∷ [])) (table_same f g n (λ i k. h i (omega arith))) (h n (omega arith))

  pub table-append : (f : ℕ → A) (m n : ℕ) → table f (m + n) ≡ table f m ++ table (λ k. f (m + k)) n
  unfolding table
  table-append f m zero = rw (add-zero, append-nil)
  table-append f m (suc n) =
      rw add-suc (ap (λ (l : List A). l ++ (f (m + n) ∷ [])) (table-append f m n) ∙ append_assoc (table f m) (table (λ k. f (m + k)) n) (f (m + n) ∷ []))

  pub table-part : (f : ℕ → A) (m a n : ℕ) → a + n ≤ m → part a n (table f m) ≡ table (λ k. f (a + k)) n
  table-part f m a n h =
      let e : m ≡ a + (n + (m - (a + n))) = omega arith in
      ap (λ (k : ℕ). part a n (table f k)) e
      ∙ rw (table-append f a (n + (m - (a + n))), drop_at (table f a) (table (λ k. f (a + k)) (n + (m - (a + n)))) a (length-table f a), table-append (λ k. f (a + k)) n (m - (a + n)))
      (take_at (table (λ k. f (a + k)) n) _ n (length-table _ n))

  -- what holds of each entry, and of what is read past the end
  pub table-all : (P : A → Type 0) (f : ℕ → A) (n : ℕ) {d : A} → P d → ((i : ℕ) → i < n → P (f i)) → (k : ℕ) → P (get_or (table f n) k d)
  table-all P f n {d} p h k =
      elim (dec_le (suc k) n) [
        | yes l ↦ subst P (sym (get_or-table f n k d l)) (h k l)
        | no l ↦ subst P (sym (get_or-eq_default (table f n) d (rw (length-table f n) (omega arith)))) p
      ]

  -- a list by its entries
  pub table-get_or : (l : List A) (d : A) → table (λ k. get_or l k d) (length l) ≡ l
  table-get_or l d =
      ext_get_or d (table (λ k. get_or l k d) (length l)) l (length-table _ _) (λ i h. get_or-table _ (length l) i d (rw (length-table (λ k. get_or l k d) (length l)) at h))

  -- a list by its entries, for a loop that knows them one by one
  pub table_of_entries : (d : A) {l : List A} {f : ℕ → A} {n : ℕ} → length l ≡ n → ((i : ℕ) → i < n → get_or l i d ≡ f i) → l ≡ table f n
  table_of_entries d {l} {f} {n} e h =
      ext_get_or d l (table f n) (e ∙ sym (length-table f n)) (λ i k. h i (rw e at k) ∙ sym (get_or-table f n i d (rw e at k)))

  -- a loop that stores f i at each i, in a slice that held d: what the slice xs holds at the loop's head
  abbrev pub Filled : (f : ℕ → A) (i : ℕ) (d xs : List A) → Type 0
  Filled f i d xs = (xs ≡ table f i ++ drop i d) × (length xs ≡ length d)

  -- before its first turn, at a turn, after its last
  pub table_none : (f : ℕ → A) (d : List A) → d ≡ table f 0 ++ drop 0 d
  unfolding table
  table_none f d = refl

  pub table-store : (f : ℕ → A) (i : ℕ) (d : List A) → i < length d → set (table f i ++ drop i d) i (f i) ≡ table f (i + 1) ++ drop (i + 1) d
  unfolding table
  table-store f i d h =
      rw (add-one i, drop-cons d i (f i) h)
      (set_at (table f i) (get_or d i (f i)) (drop (suc i) d) (f i) i (length-table f i) ∙ sym (append_snoc (table f i) (f i) (drop (suc i) d)))

  pub table-turn : (f : ℕ → A) (i : ℕ) (d : List A) {xs : List A} {a : A} → i < length d → Filled f i d xs → a ≡ f i → Filled f (i + 1) d (set xs i a)
  table-turn f i d {xs} {a} h p q =
      let t : set xs i a ≡ table f (i + 1) ++ drop (i + 1) d = rw (p.0, q) (table-store f i d h) in
      (t, length-set xs i a ∙ p.1)

  pub table_done : (f : ℕ → A) (i n : ℕ) (d : List A) → i ≤ n → n ≤ i → length d ≡ n → table f i ++ drop i d ≡ table f n
  table_done f i n d h k e = rw (drop_of_length-le d {i = i} (omega arith), append-nil (table f i), le_antisymm h k)
