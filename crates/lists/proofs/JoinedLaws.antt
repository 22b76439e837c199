-- Laws of lists that are joined from parts, for loops that fill a slice from the front, part by part. Assumes nothing.
use Prim.Native.Nat.{ℕ, zero, suc, ◌+◌, ◌-◌, ◌*◌, ◌≤◌, ◌<◌}
use mathlib.Core.Path.{◌≡◌, refl, sym, ap, ap₂, ◌∙◌}
use mathlib.Core.List.{List, ◌++◌, append_assoc, append-nil}
use native.Mathlib.Decide.{dec_le}
use native.Mathlib.Nat.{add-zero, add-suc, suc-mul, add-mul, not-suc-le-zero, zero-mul, one-mul, add-sub_cancel_left, le_antisymm, le_of_eq, le_refl, mul-le-mul_right}
use native.Mathlib.Numerals.{add-one}
use native.Mathlib.Omega.{arith}
use lib.Dec.{lit≤}
use lib.ListN.{length, take, drop, get_or, length-append, drop_of_length-le, length-drop, get_or-append}
use lib.Seq.{take_all, take-add, take_at, drop_at, drop-drop, get_or-append-add}
use Rattle.lists.specs.Table.{table, joined}
use Rattle.lists.specs.Part.{part, row_of}
use Rattle.lists.proofs.PartLaws.{part_length, placed, placed-rest, row-length, row-entry}
use Rattle.lists.proofs.TableLaws.{length-table, get_or-table, table_same, table-get_or}

module _ {A : Type 0} where
  pub joined-one : (f : ℕ → List A) → joined f 1 ≡ f 0
  unfolding joined
  joined-one f = refl

  -- two lists given by rules: the first n places were handed on and hold the one, the others are handed on and then hold the other
  pub two-tables : (n m : ℕ) {f g p q : ℕ → A} (l : List A) {a e : List A} {i j : ℕ} → p ≡ f → q ≡ g → i ≡ n → j ≡ m → a ≡ table p i → e ≡ table q j
      → placed n (length (a ++ l)) (a ++ l) e ≡ table f n ++ table g m
  two-tables n m l {a} {e} u v i j s t = placed-rest n a l e (ap length s ∙ length-table _ _ ∙ i) ∙ rw (s, t, u, v, i, j)

  pub joined_same : (f g : ℕ → List A) (n : ℕ) → ((i : ℕ) → i < n → f i ≡ g i) → joined f n ≡ joined g n
  unfolding joined
  joined_same f g zero h = refl
  joined_same f g (suc n) h = ap₂ (λ (l m : List A). l ++ m) (joined_same f g n (λ i k. h i (omega arith))) (h n (omega arith))

  -- of parts of w entries, part i by rule i
  pub parts_same : (f g : ℕ → ℕ → A) (w n : ℕ) → ((i j : ℕ) → i < n → j < w → f i j ≡ g i j) → joined (λ i. table (f i) w) n ≡ joined (λ i. table (g i) w) n
  parts_same f g w n h = joined_same _ _ n (λ i k. table_same (f i) (g i) w (λ j l. h i j k l))

  joined-append : (f : ℕ → List A) (m n : ℕ) → joined f (m + n) ≡ joined f m ++ joined (λ k. f (m + k)) n
  unfolding joined
  joined-append f m zero = rw (add-zero, append-nil)
  joined-append f m (suc n) = rw add-suc (ap (λ (l : List A). l ++ f (m + n)) (joined-append f m n) ∙ append_assoc (joined f m) (joined (λ k. f (m + k)) n) (f (m + n)))

  -- a part of k places is handed on, after those that hold p, and then holds q
  placed-next : (n k : ℕ) (p q d : List A) → length p ≡ n → placed n (n + k) (p ++ drop n d) q ≡ (p ++ q) ++ drop (n + k) d
  placed-next n k p q d h = rw (take_at p (drop n d) n h, drop_at p (drop n d) n h, add-sub_cancel_left n k, drop-drop k n d) (sym (append_assoc p q (drop (n + k) d)))

-- part i of n, each w places long, lies among them
pub part-within : (w : ℕ) {i n : ℕ} → i < n → i * w + w ≤ n * w
part-within w {i} h = rw (suc-mul i w) at (mul-le-mul_right w h)

-- parts of one length w
module _ {A : Type 0} (f : ℕ → List A) (w : ℕ) (rows : (j : ℕ) → length (f j) ≡ w) where
  pub length-joined : (n : ℕ) → length (joined f n) ≡ n * w
  unfolding joined
  length-joined zero = sym (zero-mul w)
  length-joined (suc n) = length-append (joined f n) (f n) ∙ simp (length-joined n, rows n, suc-mul)

  pub get_or-joined : (n i k : ℕ) (d : A) → i < n → k < w → get_or (joined f n) (i * w + k) d ≡ get_or (f i) k d
  unfolding joined
  get_or-joined zero i k d h l = absurd (not-suc-le-zero h)
  get_or-joined (suc n) i k d h l =
      elim (dec_le (suc i) n) [
        | yes g ↦ get_or-append (joined f n) (f n) d (i * w + k) (inside g) ∙ get_or-joined n i k d g l
        | no g ↦ let e : i ≡ n = omega arith in rw (e, ← length-joined n) (get_or-append-add (joined f n) (f n) k d)
      ]
    where
      inside : i < n → i * w + k < length (joined f n)
      inside g = rw (length-joined n) (omega (arith, part-within w g))

  -- a loop that hands on part i at each i, or some parts from i on, of a slice that held d: what the slice xs holds at the loop's head
  abbrev pub Handed : (i : ℕ) (d xs : List A) → Type 0
  Handed i d xs = (xs ≡ joined f i ++ drop (i * w) d) × (length xs ≡ length d)

  -- before its first turn, at a turn, after which part i holds ys, and after its last
  pub joined-none : (d : List A) → d ≡ joined f 0 ++ drop (0 * w) d
  unfolding joined
  joined-none d = rw zero-mul

  pub joined-turns : (i b n : ℕ) (d : List A) {xs ys : List A} → i + b ≤ n → length d ≡ n * w → Handed i d xs → ys ≡ joined (λ k. f (i + k)) b
      → Handed (i + b) d (placed (i * w) (i * w + b * w) xs ys)
  joined-turns i b n d {xs} {ys} h e p q =
      let t : placed (i * w) (i * w + b * w) xs ys ≡ joined f (i + b) ++ drop ((i + b) * w) d = rw (p.0, q, joined-append f i b, add-mul i b w) (placed-next (i * w) (b * w) (joined f i) (joined (λ k. f (i + k)) b) d (length-joined i)) in
      (t, ap length t ∙ simp (length-append, length-joined, length-drop) (omega (arith, e, mul-le-mul_right w h)))

  pub joined-turn : (i n : ℕ) (d : List A) {xs ys : List A} → i < n → length d ≡ n * w → Handed i d xs → ys ≡ f i
      → Handed (i + 1) d (placed (i * w) (i * w + w) xs ys)
  joined-turn i n d h e p q = rw one-mul at (joined-turns i 1 n d (omega arith) e p (q ∙ sym (joined-one (λ k. f (i + k)) ∙ ap f (add-zero i))))

  pub joined-done : (i n : ℕ) (d : List A) → i ≤ n → n ≤ i → length d ≡ n * w → joined f i ++ drop (i * w) d ≡ joined f n
  joined-done i n d h k e = rw (le_antisymm h k, drop_of_length-le d {i = n * w} (le_of_eq e), append-nil (joined f n))

-- rows i to i + n − 1 of m, each w places long
pub joined-rows : {A : Type 0} (f : ℕ → List A) (w : ℕ) → ((j : ℕ) → length (f j) ≡ w) → (m i n : ℕ) → i + n ≤ m → part (i * w) (n * w) (joined f m) ≡ joined (λ k. f (i + k)) n
joined-rows f w rows m i n h =
    let e : m ≡ i + (n + (m - (i + n))) = omega arith in
    ap (λ (k : ℕ). part (i * w) (n * w) (joined f k)) e
    ∙ rw (joined-append f i (n + (m - (i + n))), drop_at (joined f i) (joined (λ k. f (i + k)) (n + (m - (i + n)))) (i * w) (length-joined f w rows i), joined-append (λ k. f (i + k)) n (m - (i + n)))
    (take_at (joined (λ k. f (i + k)) n) _ (n * w) (length-joined (λ k. f (i + k)) w (λ k. rows (i + k)) n))

-- part i is row i
pub row-joined : (f : ℕ → List ℕ) (w : ℕ) → ((j : ℕ) → length (f j) ≡ w) → (n i : ℕ) → i < n → row_of w i (joined f n) ≡ f i
unfolding row_of
row-joined f w rows n i h = (rw one-mul at (joined-rows f w rows n i 1 (omega arith))) ∙ joined-one (λ k. f (i + k)) ∙ ap f (add-zero i)

-- the first n rows, each w wide
joined-first : (w n : ℕ) (l : List ℕ) → joined (λ i. row_of w i l) n ≡ take (n * w) l
unfolding joined row_of
joined-first w zero l = rw zero-mul
joined-first w (suc n) l = rw (suc-mul n w, take-add (n * w) w l) (ap (λ (x : List ℕ). x ++ take w (drop (n * w) l)) (joined-first w n l))

row-entries : (w i : ℕ) (l : List ℕ) → (i + 1) * w ≤ length l → table (λ j. get_or l (i * w + j) 0) w ≡ row_of w i l
row-entries w i l h = table_same _ _ w (λ j g. sym (row-entry w i l j g)) ∙ (rw (row-length w i l h) at (table-get_or (row_of w i l) 0))

-- a list of n rows, by its entries
pub joined-entries : (w n : ℕ) (l : List ℕ) → length l ≡ n * w → joined (λ i. table (λ j. get_or l (i * w + j) 0) w) n ≡ l
joined-entries w n l e = joined_same _ _ n (λ i h. row-entries w i l (rw (e, add-one i) (mul-le-mul_right w h))) ∙ joined-first w n l ∙ take_all (n * w) l (le_of_eq e)

-- parts of w entries, part k by rule k
module _ {A : Type 0} (rule : ℕ → ℕ → A) (w : ℕ) where
  abbrev pub parts : ℕ → List A
  parts k = table (rule k) w

  pub parts-length : (k : ℕ) → length (parts k) ≡ w
  parts-length k = length-table (rule k) w

  pub get_or-parts : (n k j : ℕ) (d : A) → k < n → j < w → get_or (joined parts n) (k * w + j) d ≡ rule k j
  get_or-parts n k j d h l = get_or-joined parts w parts-length n k j d h l ∙ get_or-table (rule k) w j d l

  -- part i, from place a to place b, is handed on, and then holds what another rule gives, which agrees
  pub parts-turn : (i n a b : ℕ) (d : List A) {xs ys : List A} {r : ℕ → A} → a ≡ i * w → b ≡ i * w + w → i < n → length d ≡ n * w → Handed parts w parts-length i d xs
      → ys ≡ table r (length (take (b - a) (drop a xs))) → ((j : ℕ) → r j ≡ rule i j) → Handed parts w parts-length (i + 1) d (placed a b xs ys)
  parts-turn i n a b d {xs} {ys} {r} p q h e t y s =
      let k : length (take (b - a) (drop a xs)) ≡ w = rw (q, p) (part_length (i * w) w xs (omega (arith, part-within w h, t.1))) in
      rw (q, p) (joined-turn parts w parts-length i n d h e t (y ∙ ap (table r) k ∙ table_same r (rule i) w (λ j _. s j)))

  -- four parts, each handed on in turn
  pub four-parts : (d : List A) {a b c e : List A} {p q r s : ℕ → A} →
      let d₁ = placed 0 w d a in
      let d₂ = placed w (2 * w) d₁ b in
      let d₃ = placed (2 * w) (3 * w) d₂ c in
      length d ≡ 4 * w
      → a ≡ table p (length (take (w - 0) d)) → ((j : ℕ) → p j ≡ rule 0 j)
      → b ≡ table q (length (take (2 * w - w) (drop w d₁))) → ((j : ℕ) → q j ≡ rule 1 j)
      → c ≡ table r (length (take (3 * w - 2 * w) (drop (2 * w) d₂))) → ((j : ℕ) → r j ≡ rule 2 j)
      → e ≡ table s (length (take (4 * w - 3 * w) (drop (3 * w) d₃))) → ((j : ℕ) → s j ≡ rule 3 j)
      → placed (3 * w) (4 * w) d₃ e ≡ joined parts 4
  four-parts d l a-is p b-is q c-is r e-is s =
      let h₁ = parts-turn 0 4 0 w d (omega arith) (omega arith) (lit≤ tt) l (joined-none parts w parts-length d, refl) a-is p in
      let h₂ = parts-turn 1 4 w (2 * w) d (omega arith) (omega arith) (lit≤ tt) l h₁ b-is q in
      let h₃ = parts-turn 2 4 (2 * w) (3 * w) d (omega arith) (omega arith) (lit≤ tt) l h₂ c-is r in
      let h₄ = parts-turn 3 4 (3 * w) (4 * w) d (omega arith) (omega arith) (lit≤ tt) l h₃ e-is s in
      h₄.0 ∙ joined-done parts w parts-length 4 4 d (le_refl 4) (le_refl 4) l
