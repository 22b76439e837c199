-- A row of readings, continued by the mirrors at both sides, is made of three parts. Assumes nothing.
use Prim.Native.Nat.{ℕ, ◌+◌, ◌-◌, ◌≤◌, ◌<◌}
use native.Mathlib.Nat.{zero-add, add_comm}
use native.Mathlib.Omega.{arith}
use mathlib.Core.List.{List, ◌++◌, append_assoc}
use mathlib.Core.Path.{◌≡◌, sym, ap, ap₂, ◌∙◌}
use lib.IntN.{pos}
use lib.ListN.{length, take, drop, get_or, length-append}
use lib.Seq.{take_at, drop_at}
use Rattle.lists.specs.Table.{table}
use Rattle.lists.proofs.TableLaws.{length-table, table_same, table-append, table-get_or}
use Rattle.lists.proofs.PartLaws.{placed-rest}
use Rattle.bayer.specs.Mirror.{mirror}
use Rattle.bayer.proofs.MirrorLaws.{mirror-from, mirror-inside}
use Rattle.green_row.specs.Extended.{column}

-- two parts put into their places in xs
middle : (w : ℕ) (xs a b : List ℕ) → length a ≡ 7
    → take 7 (a ++ drop 7 xs) ++ (b ++ drop (w + 7 - 7) (drop 7 (a ++ drop 7 xs))) ≡ (a ++ b) ++ drop (w + 7 - 7) (drop 7 xs)
middle w xs a b h = rw (take_at a (drop 7 xs) 7 h, drop_at a (drop 7 xs) 7 h) (sym (append_assoc a b _))

-- inside the row
inside : (row : List ℕ) (k : ℕ) → k < length row → column row (7 + k) ≡ get_or row k 0
inside row k h =
    let e : 7 + k - 7 ≡ k = omega arith in
    ap (λ (p : ℕ). get_or row p 0) (mirror-from (length row) (7 + k) 7 (omega arith) ∙ ap (λ (p : ℕ). mirror (length row) (pos p)) e ∙ mirror-inside (length row) k h)

columns : (row : List ℕ) (m : ℕ) → table (λ k. column row (0 + k)) 7 ++ row ++ table (λ k. column row (length row + 7 + k)) m ≡ table (column row) (7 + length row + m)
columns row m =
    let a : table (λ k. column row (0 + k)) 7 ≡ table (column row) 7 = table_same _ _ 7 (λ k _. ap (column row) (zero-add k)) in
    let b : row ≡ table (λ k. column row (7 + k)) (length row) = sym (table_same _ _ (length row) (inside row) ∙ table-get_or row 0) in
    let d : table (λ k. column row (length row + 7 + k)) m ≡ table (λ k. column row (7 + length row + k)) m = ap (λ (n : ℕ). table (λ k. column row (n + k)) m) (add_comm (length row) 7) in
    ap₂ ◌++◌ (ap₂ ◌++◌ a b ∙ sym (table-append (column row) 7 (length row))) d ∙ sym (table-append (column row) (7 + length row) m)

-- what the three calls leave: a of the first seven places, b of the row's, e of the n others
pub from_parts : (row out : List ℕ) {a b e : List ℕ} {m n : ℕ} → length row + 7 ≤ length out → m ≡ 7 → n ≡ length out - (length row + 7)
    → a ≡ table (λ k. column row (0 + k)) m → b ≡ row → e ≡ table (λ k. column row (length row + 7 + k)) n
    → let xs = take 7 (a ++ drop 7 out) ++ (b ++ drop (length row + 7 - 7) (drop 7 (a ++ drop 7 out))) in
    take (length row + 7) xs ++ (e ++ drop (length xs - (length row + 7)) (drop (length row + 7) xs)) ≡ table (column row) (length out)
from_parts row out {a} {b} {e} {m} {n} o h k p q r =
    let l : length a ≡ 7 = ap length p ∙ length-table _ m ∙ h in
    let g : length (a ++ b) ≡ length row + 7 = length-append a b ∙ (let f = ap length q in omega arith) in
    let t : 7 + length row + n ≡ length out = omega arith in
    let u : a ++ b ++ e ≡ table (column row) (7 + length row + n) = rw (p, q, r, h) (columns row n) in
    rw (middle (length row) out a b l) (placed-rest (length row + 7) (a ++ b) _ e g ∙ u ∙ ap (table (column row)) t)
