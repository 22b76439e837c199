-- The half rows that are filled in make the rows that the definitions say, and these are what the mirrors give. Assumes nothing.
use Prim.Native.Nat.{ℕ, ◌+◌, ◌-◌, ◌*◌, ◌/◌, ◌%◌, ◌≤◌, ◌<◌}
use mathlib.Core.Path.{◌≡◌, refl, ap, ap₂, ◌∙◌}
use mathlib.Core.List.{List, [], ◌∷◌, ◌++◌}
use native.Mathlib.Omega.{arith}
use lib.IntN.{ℤ, pos}
use lib.ListN.{length, get_or, take, drop, length-append}
use lib.Seq.{take_at}
use Rattle.lists.specs.Table.{table}
use Rattle.lists.proofs.TableLaws.{length-table, table_same}
use Rattle.lists.proofs.PartLaws.{get_or-from}
use Rattle.half_rows.specs.HalfRow.{pixels, interleaved}
use Rattle.half_rows.proofs.HalfLaws.{choice-same, from_halves}
use Rattle.demosaic.specs.Fill.{sum_of, fill}
use Rattle.fill_rows.specs.FillRow.{colour_difference_at, left_of, right_of, own_in, other_in}
use Rattle.fill_rows.specs.HalfFill.{places, edged, pair_in, diagonal_in, own_edged, other_edged}
use Rattle.fill_rows.proofs.EdgeLaws.{at-pixel, at_left, at_right}

-- the list from place a on, as it is handed on
abbrev from : {A : Type 0} → (a : ℕ) → List A → List A
from a l = take (length l - a) (drop a l)

abbrev two : (g : ℕ) (a b : ℤ) → ℕ
two g a b = fill 2 g (sum_of (a ∷ b ∷ []))

abbrev four : (g : ℕ) (a b c d : ℤ) → ℕ
four g a b c d = fill 4 g (sum_of (a ∷ b ∷ c ∷ d ∷ []))

-- ---- a half row of n places, at the front of its room

module _ (n : ℕ) (F : ℕ → ℕ) {i : ℕ} {l : List ℕ} (rest : List ℕ) (h : i ≡ n) (e : l ≡ table F i) where
  made-long : length l ≡ n
  made-long = ap length e ∙ length-table F i ∙ h

  pub front_fits : n ≤ length (l ++ rest)
  front_fits = rw (length-append, made-long) (omega arith)

  pub front : take (n - 0) (l ++ rest) ≡ table F n
  front = let z : n ≡ n - 0 = omega arith in take_at l rest (n - 0) (made-long ∙ z) ∙ e ∙ ap (table F) h

  pub front_long : length (take (n - 0) (l ++ rest)) ≡ n
  front_long = ap length front ∙ length-table F n

-- ---- the colour that shares the row with green

-- column 2 k + 1 − odd lies between the places k + 1 − odd and k + 1 − odd + 1
between : (odd k : ℕ) → odd < 2 → ((2 * k + (1 - odd) + 1 - odd) / 2 ≡ 1 - odd + k) × (1 - odd + k + 1 ≡ 1 - odd + 1 + k)
between odd k o = omega arith

module _ (odd : ℕ) (x g : List ℕ) (e : List ℤ) (o : odd < 2) where
  -- from the list of its colour differences, at its places left and right of green
  abbrev filled : ℕ → ℕ
  filled j = two (get_or g j 0) (get_or e ((j + 1 - odd) / 2) (pos 0)) (get_or e ((j + 1 - odd) / 2 + 1) (pos 0))

  pub own-done : {p q out : List ℕ} {i j n : ℕ} →
      let w = length x in
      length g ≡ w → length e ≡ places w → i ≡ pixels w odd → j ≡ w - pixels w odd → n ≡ w
      → p ≡ table (λ k. 16 * get_or (from odd x) (2 * k) 0) i
      → q ≡ table (pair_in (from (1 - odd) g) (from (1 - odd) e) (from (1 - odd + 1) e)) j
      → out ≡ table (interleaved odd p q) n → out ≡ table (own_edged odd x g e) w
  unfolding own_edged pair_in
  own-done lg le i j n p q out =
      from_halves (λ j. 16 * get_or x j 0) filled odd (length x) o i j n p q out
      (λ k l. ap (λ n. 16 * n) (get_or-from odd x (2 * k) (2 * k + odd) 0 (omega arith) (omega arith)))
      (λ k l.
      let b = between odd k o in
      λ t. two (get_or-from (1 - odd) g (2 * k) (2 * k + (1 - odd)) 0 (omega arith) (omega arith) t)
      (get_or-from (1 - odd) e k ((2 * k + (1 - odd) + 1 - odd) / 2) (pos 0) (omega arith) (omega arith) t)
      (get_or-from (1 - odd + 1) e k ((2 * k + (1 - odd) + 1 - odd) / 2 + 1) (pos 0) (omega arith) (omega arith) t))

-- ---- the other colour

-- a pixel of the row, column 2 k + odd, lies between the places k + odd and k + odd + 1 of the rows above and below, and a green one, column 2 k + 1 − odd, at place k + 1
over : (odd k : ℕ) → odd < 2 → ((2 * k + odd + odd) / 2 ≡ odd + k) × ((2 * k + (1 - odd)) / 2 + 1 ≡ 1 + k)
over odd k o = omega arith

module _ (odd : ℕ) (g : List ℕ) (above below : List ℤ) (o : odd < 2) where
  abbrev crossed : ℕ → ℕ
  crossed j = let n = (j + odd) / 2 in four (get_or g j 0) (get_or above n (pos 0)) (get_or above (n + 1) (pos 0)) (get_or below n (pos 0)) (get_or below (n + 1) (pos 0))

  abbrev level : ℕ → ℕ
  level j = two (get_or g j 0) (get_or above (j / 2 + 1) (pos 0)) (get_or below (j / 2 + 1) (pos 0))

  pub other-done : {p q out : List ℕ} {i j n : ℕ} →
      let w = length g in
      length above ≡ places w → length below ≡ places w → i ≡ pixels w odd → j ≡ w - pixels w odd → n ≡ w
      → p ≡ table (diagonal_in (from odd g) (from odd above) (from odd below)) i
      → q ≡ table (pair_in (from (1 - odd) g) (from 1 above) (from 1 below)) j
      → out ≡ table (interleaved odd p q) n → out ≡ table (other_edged odd g above below) w
  unfolding other_edged diagonal_in pair_in
  other-done ha hb i j n p q out =
      from_halves crossed level odd (length g) o i j n p q out
      (λ k l.
      let n = (2 * k + odd + odd) / 2 in
      let i : odd + k ≡ n = omega (arith, over odd k o) in
      let i' : odd + (k + 1) ≡ n + 1 = omega arith in
      let h : odd + (k + 1) < places (length g) = omega arith in
      λ t. four (get_or-from odd g (2 * k) (2 * k + odd) 0 (omega arith) (omega arith) t)
      (get_or-from odd above k n (pos 0) (omega arith) i t) (get_or-from odd above (k + 1) (n + 1) (pos 0) (omega arith) i' t)
      (get_or-from odd below k n (pos 0) (omega arith) i t) (get_or-from odd below (k + 1) (n + 1) (pos 0) (omega arith) i' t))
      (λ k l.
      let n = (2 * k + (1 - odd)) / 2 + 1 in
      let i : 1 + k ≡ n = omega (arith, over odd k o) in
      λ t. two (get_or-from (1 - odd) g (2 * k) (2 * k + (1 - odd)) 0 (omega arith) (omega arith) t) (get_or-from 1 above k n (pos 0) (omega arith) i t) (get_or-from 1 below k n (pos 0) (omega arith) i t))

-- ---- from lists of colour differences with their ends repeated: what the mirrors give

module _ (w odd : ℕ) (o : odd < 2) (wide : 2 ≤ w) where
  pub own-mirrors : (x g : List ℕ) → table (own_edged odd x g (edged w odd x g)) w ≡ table (own_in w odd x g) w
  unfolding own_edged own_in
  own-mirrors x g =
      table_same _ _ w
      (λ j l. choice-same (j + odd) (λ e. ap₂ (two (get_or g j 0)) (at_left w odd x g o wide j l e) (at_right w odd x g o wide j l e)) (λ _. refl))

  -- what the list of a row above or below has at column j, where this row is green, and else left and right of it
  module _ (x y : List ℕ) (j : ℕ) (inside : j < w) where
    abbrev at : ℕ → ℤ
    at k = get_or (edged w (1 - odd) x y) k (pos 0)

    at-green : (j + odd) % 2 ≡ 1 → at (j / 2 + 1) ≡ colour_difference_at x y j
    at-green e = at-pixel w (1 - odd) x y (omega arith) wide j inside (omega arith)

    from_left : (j + odd) % 2 ≡ 0 → at ((j + odd) / 2) ≡ colour_difference_at x y (left_of w j)
    from_left e = let i : (j + odd) / 2 ≡ (j + 1 - (1 - odd)) / 2 = omega arith in ap at i ∙ at_left w (1 - odd) x y (omega arith) wide j inside (omega arith)

    from_right : (j + odd) % 2 ≡ 0 → at ((j + odd) / 2 + 1) ≡ colour_difference_at x y (right_of w j)
    from_right e = let i : (j + odd) / 2 + 1 ≡ (j + 1 - (1 - odd)) / 2 + 1 = omega arith in ap at i ∙ at_right w (1 - odd) x y (omega arith) wide j inside (omega arith)

  pub other-mirrors : (g xa ga xb gb : List ℕ) → table (other_edged odd g (edged w (1 - odd) xa ga) (edged w (1 - odd) xb gb)) w ≡ table (other_in w odd g xa ga xb gb) w
  unfolding other_edged other_in
  other-mirrors g xa ga xb gb =
      table_same _ _ w
      (λ j l.
      choice-same (j + odd) (λ e. ap₂ (two (get_or g j 0)) (at-green xa ga j l e) (at-green xb gb j l e))
      (λ e t. four (get_or g j 0) (from_left xa ga j l e t) (from_right xa ga j l e t) (from_left xb gb j l e t) (from_right xb gb j l e t)))
