-- Parts of a list, as the code takes them to lend to calls, and rows of a plane or a mosaic. Assumes nothing.
use Prim.Native.Nat.{ℕ, zero, suc, ◌+◌, ◌-◌, ◌*◌, ◌≤◌, ◌<◌, min}
use mathlib.Core.List.{List, [], ◌∷◌, ◌++◌, append-nil}
use mathlib.Core.Path.{◌≡◌, refl, sym, ap, ◌∙◌}
use native.Mathlib.Nat.{add-sub_cancel_left}
use native.Mathlib.Omega.{arith}
use lib.ListN.{length, take, drop, get_or, length-append, length-take, length-drop, drop_of_length-le}
use lib.Seq.{length-take-le, take_all, take_at, take-take, drop_at, drop-drop, get_or-take, get_or-drop}
use Rattle.lists.specs.Part.{part, row_of}

module _ {A : Type 0} where
  -- of the first n entries
  pub part-take : (a k n : ℕ) (l : List A) → a + k ≤ n → part a k (take n l) ≡ part a k l
  part-take zero k n l h = take-take k n l (omega arith)
  part-take (suc a) k zero l h = absurd (let z : ⊥ = omega arith in z)
  part-take (suc a) k (suc n) [] h = refl
  part-take (suc a) k (suc n) (x ∷ l) h = part-take a k n l (omega arith)

  pub length_part : (a k : ℕ) (l : List A) → a + k ≤ length l → length (part a k l) ≡ k
  length_part a k l h = length-take-le k (drop a l) (rw (length-drop a l) (omega arith))

  -- k entries from the a-th on, as they are handed on
  pub part_length : (a k : ℕ) (l : List A) → a + k ≤ length l → length (take (a + k - a) (drop a l)) ≡ k
  part_length a k l h = rw (add-sub_cancel_left a k) (length_part a k l h)

  -- a part that has its k entries lies in the list
  pub part-inside : (a k : ℕ) (l : List A) → 0 < k → length (part a k l) ≡ k → a + k ≤ length l
  part-inside a k l h e = let m : min k (length (drop a l)) ≡ k = sym (length-take k (drop a l)) ∙ e in omega (arith, rw (length-drop a l) at m)

  -- of two lists, one after the other, the first n entries and the others
  pub first_part : (n k : ℕ) (p q : List A) {l : List A} → l ≡ p ++ q → length p ≡ n → k ≡ n → take k l ≡ p
  first_part n k p q e h i = rw (e, i) (take_at p q n h)

  pub rest_part : (n k : ℕ) (p q : List A) {l : List A} → l ≡ p ++ q → length p ≡ n → length q ≤ k → take k (drop n l) ≡ q
  rest_part n k p q e h i = rw (e, drop_at p q n h) (take_all k q i)

  pub other-part : (n : ℕ) (p q : List A) {l : List A} → l ≡ p ++ q → length p ≡ n → take (length l - n) (drop n l) ≡ q
  other-part n p q {l} e h = rest_part n (length l - n) p q e h (rw (e, length-append p q) (omega arith))

  -- ys in the places a to b of xs, in the form in which a part that was lent comes back. (Where ys is as long as the part, this is `put a ys xs`.)
  abbrev pub placed : (a b : ℕ) (xs ys : List A) → List A
  placed a b xs ys = take a xs ++ (ys ++ drop (b - a) (drop a xs))

  -- the others are handed on, and then hold r
  pub placed-rest : (n : ℕ) (p q r : List A) → length p ≡ n → placed n (length (p ++ q)) (p ++ q) r ≡ p ++ r
  placed-rest n p q r h =
      let l : length q ≤ length (p ++ q) - n = rw (length-append p q) (omega arith) in
      rw (take_at p q n h, drop_at p q n h, drop_of_length-le q l, append-nil r)

  -- by its entries
  pub get_or_part : (a k : ℕ) (l : List A) (j : ℕ) (d : A) → j < k → get_or (part a k l) j d ≡ get_or l (a + j) d
  get_or_part a k l j d h = get_or-take k (drop a l) j d h ∙ get_or-drop a l j d

  -- of all from the a-th on
  pub get_or-from : (a : ℕ) (l : List A) (k n : ℕ) (d : A) → a + k < length l → a + k ≡ n → get_or (part a (length l - a) l) k d ≡ get_or l n d
  get_or-from a l k n d h e = get_or_part a (length l - a) l k d (omega arith) ∙ ap (λ i. get_or l i d) e

  -- a part of a part
  pub part-part : (a k b n : ℕ) (l : List A) → a + k ≤ n → part a k (part b n l) ≡ part (b + a) k l
  part-part a k b n l h = part-take a k n (drop b l) h ∙ ap (take k) (drop-drop a b l)

-- ---- rows, w wide

-- row j, as it is handed on
pub row_is : (w j : ℕ) (rows : List ℕ) {k : ℕ} → k ≡ j → take (k * w + w - k * w) (drop (k * w) rows) ≡ row_of w j rows
unfolding row_of
row_is w j rows {k} e = rw (add-sub_cancel_left (k * w) w, e)

pub row-length : (w i : ℕ) (rows : List ℕ) → (i + 1) * w ≤ length rows → length (row_of w i rows) ≡ w
unfolding row_of
row-length w i rows h = length_part (i * w) w rows (omega arith)

pub row-entry : (w i : ℕ) (rows : List ℕ) (j : ℕ) → j < w → get_or (row_of w i rows) j 0 ≡ get_or rows (i * w + j) 0
unfolding row_of
row-entry w i rows j h = get_or_part (i * w) w rows j 0 h
