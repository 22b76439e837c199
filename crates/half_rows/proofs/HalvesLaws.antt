-- A half row of readings with a column more at each side, from the three parts that the code makes. Assumes nothing.
use Prim.Native.Nat.{ℕ, ◌+◌, ◌*◌, ◌-◌, ◌/◌, ◌<◌}
use mathlib.Core.List.{List, ◌++◌, append_assoc}
use mathlib.Core.Path.{◌≡◌, sym, ap, ap₂, ◌∙◌}
use native.Mathlib.Nat.{add_comm}
use native.Mathlib.Omega.{arith}
use lib.IntN.{pos}
use lib.ListN.{length, take, drop, get_or, length-append, length-drop}
use lib.Seq.{take_at, drop_at}
use Rattle.lists.specs.Table.{table}
use Rattle.lists.proofs.TableLaws.{length-table, table_same, table-append}
use Rattle.lists.proofs.PartLaws.{placed, placed-rest, length_part}
use Rattle.bayer.specs.Mirror.{mirror}
use Rattle.bayer.proofs.MirrorLaws.{mirror-from, mirror-inside}
use Rattle.half_rows.specs.HalfRow.{places, half_column}

-- columns that need no mirror: place 1 + k
inside : (side : ℕ) (row : List ℕ) (k : ℕ) → 2 * k + side < length row → half_column side row (1 + k) ≡ get_or row (2 * k + side) 0
inside side row k h =
    let a : 2 * (1 + k) + side - 2 ≡ 2 * k + side = omega arith in
    ap (λ (p : ℕ). get_or row p 0) (mirror-from (length row) (2 * (1 + k) + side) 2 (omega arith) ∙ ap (λ (p : ℕ). mirror (length row) (pos p)) a ∙ mirror-inside (length row) (2 * k + side) h)

-- what the three calls leave in a list that held l: a in the first place, b in the next n, c in the others
module _ (side : ℕ) (row l : List ℕ) (bit : side < 2) (room : length l ≡ places (length row)) where
  abbrev n : ℕ
  n = length row / 2

  abbrev first : List ℕ → List ℕ
  first a = a ++ drop 1 l

  abbrev second : (a b : List ℕ) → List ℕ
  second a b = placed 1 (n + 1) (first a) b

  abbrev third : (a b c : List ℕ) → List ℕ
  third a b c = placed (n + 1) (length (second a b)) (second a b) c

  module _ {a b : List ℕ} {q : ℕ → ℕ} {i j : ℕ} (i-is : i ≡ 1) (j-is : j ≡ n) (a-is : a ≡ table (λ k. half_column side row (0 + k)) i) (b-is : b ≡ table q j) (q-is : (k : ℕ) → q k ≡ get_or row (2 * k + side) 0) where
    one : length a ≡ 1
    one = ap length a-is ∙ length-table _ i ∙ i-is

    two : length (a ++ b) ≡ n + 1
    two = length-append a b ∙ (let e = ap length b-is ∙ length-table _ j ∙ j-is in omega (arith, one))

    middle : second a b ≡ (a ++ b) ++ drop (n + 1 - 1) (drop 1 l)
    middle = rw (take_at a (drop 1 l) 1 one, drop_at a (drop 1 l) 1 one) (sym (append_assoc a b _))

    kept : length (second a b) ≡ length l
    kept = ap length middle ∙ simp (length-append, length-drop) (omega (arith, two, length-append a b))

    pub half-row : {c : List ℕ} → c ≡ table (λ k. half_column side row (n + 1 + k)) (length (take (length (second a b) - (n + 1)) (drop (n + 1) (second a b)))) → third a b c ≡ table (half_column side row) (places (length row))
    half-row {c} c-is =
        let f = half_column side row in
        let m = length l - (n + 1) in
        let m-is : length (take (length (second a b) - (n + 1)) (drop (n + 1) (second a b))) ≡ m = length_part (n + 1) (length (second a b) - (n + 1)) (second a b) (omega (arith, kept)) ∙ ap (λ (i : ℕ). i - (n + 1)) kept in
        let a' : a ≡ table f 1 = a-is ∙ ap (table _) i-is ∙ table_same _ _ 1 (λ k _. (let z : 0 + k ≡ k = omega arith in ap f z)) in
        let b' : b ≡ table (λ k. f (1 + k)) n = b-is ∙ ap (table _) j-is ∙ table_same _ _ n (λ k h. q-is k ∙ sym (inside side row k (omega arith))) in
        let c' : c ≡ table (λ k. f (1 + n + k)) m = c-is ∙ ap (table _) m-is ∙ ap (λ (i : ℕ). table (λ k. f (i + k)) m) (add_comm n 1) in
        let t : 1 + n + m ≡ places (length row) = omega arith in
        rw middle (placed-rest (n + 1) (a ++ b) _ c two)
        ∙ ap₂ ◌++◌ (ap₂ ◌++◌ a' b' ∙ sym (table-append f 1 n)) c' ∙ sym (table-append f (1 + n) m) ∙ ap (table f) t
