-- A row and its two half rows. Assumes nothing.
use Prim.Native.Nat.{ℕ, ◌+◌, ◌*◌, ◌-◌, ◌/◌, ◌%◌, ◌<◌}
use mathlib.Core.Path.{◌≡◌, sym, ap, ◌∙◌}
use mathlib.Core.Bool.{true, false, cond}
use mathlib.Core.List.{List}
use native.Mathlib.Decide.{dec_le}
use native.Mathlib.Omega.{arith}
use lib.Dec.{eqb}
use lib.ListN.{get_or}
use Rattle.lists.specs.Table.{table}
use Rattle.lists.proofs.TableLaws.{get_or-table, table_same}
use Rattle.bayer.specs.Parity.{is_odd}
use Rattle.half_rows.specs.HalfRow.{interleaved}

even : (n : ℕ) → n % 2 ≡ 0 → is_odd n ≡ false
even n e = ap (λ r. eqb r 1) e

odd : (n : ℕ) → n % 2 ≡ 1 → is_odd n ≡ true
odd n e = ap (λ r. eqb r 1) e

-- a choice by the parity of n is c, where it is so in each case
by-parity : (n : ℕ) {a b c : ℕ} → (n % 2 ≡ 1 → a ≡ c) → (n % 2 ≡ 0 → b ≡ c) → cond (is_odd n) a b ≡ c
by-parity n first second =
    elim (dec_le 1 (n % 2)) [
      | yes h ↦ let e : n % 2 ≡ 1 = omega arith in rw (odd n e) (first e)
      | no h ↦ let e : n % 2 ≡ 0 = omega arith in rw (even n e) (second e)
    ]

-- the same choice
pub choice-same : (n : ℕ) {a b c d : ℕ} → (n % 2 ≡ 1 → a ≡ c) → (n % 2 ≡ 0 → b ≡ d) → cond (is_odd n) a b ≡ cond (is_odd n) c d
choice-same n first second = by-parity n (λ e. rw (odd n e) (first e)) (λ e. rw (even n e) (second e))

-- column j from place j / 2 of the half row of its parity
pub interleaved-entry : (p q : List ℕ) (j : ℕ) {x : ℕ} → (j % 2 ≡ 0 → x ≡ get_or p (j / 2) 0) → (j % 2 ≡ 1 → x ≡ get_or q (j / 2) 0) → x ≡ interleaved 0 p q j
unfolding interleaved
interleaved-entry p q j first second = sym (by-parity (j + 0) (λ e. sym (second (omega arith))) (λ e. sym (first (omega arith))))

-- the half rows, exchanged
pub exchanged : (p q : List ℕ) (j : ℕ) → interleaved 0 q p j ≡ interleaved 1 p q j
unfolding interleaved
exchanged p q j = by-parity (j + 0) (λ e. rw (even (j + 1) (omega arith))) (λ e. rw (odd (j + 1) (omega arith)))

-- half rows by the rules A and B, each at its own columns
pub halves : (A B : ℕ → ℕ) (side w : ℕ) → side < 2
    → table (interleaved side (table (λ k. A (2 * k + side)) ((w + 1 - side) / 2)) (table (λ k. B (2 * k + (1 - side))) (w - (w + 1 - side) / 2))) w
    ≡ table (λ j. cond (is_odd (j + side)) (B j) (A j)) w
unfolding interleaved
halves A B side w h =
    table_same _ _ w
    (λ j l.
    choice-same (j + side)
    (λ e. let i : 2 * (j / 2) + (1 - side) ≡ j = omega arith in get_or-table _ _ (j / 2) 0 (omega arith) ∙ ap B i)
    (λ e. let i : 2 * (j / 2) + side ≡ j = omega arith in get_or-table _ _ (j / 2) 0 (omega arith) ∙ ap A i))

-- as the code makes them: half rows p and q by the rules P and Q of a place, which agree with A and B
pub from_halves : (A B : ℕ → ℕ) (side w : ℕ) {P Q : ℕ → ℕ} {p q out : List ℕ} {i j n : ℕ} → side < 2 → i ≡ (w + 1 - side) / 2 → j ≡ w - (w + 1 - side) / 2 → n ≡ w
    → p ≡ table P i → q ≡ table Q j → out ≡ table (interleaved side p q) n
    → ((k : ℕ) → k < (w + 1 - side) / 2 → P k ≡ A (2 * k + side)) → ((k : ℕ) → k < w - (w + 1 - side) / 2 → Q k ≡ B (2 * k + (1 - side)))
    → out ≡ table (λ j. cond (is_odd (j + side)) (B j) (A j)) w
from_halves A B side w {P} {Q} h i j n p q out a b =
    out ∙ rw (p, q, i, j, n, table_same P (λ k. A (2 * k + side)) _ a, table_same Q (λ k. B (2 * k + (1 - side))) _ b) (halves A B side w h)
