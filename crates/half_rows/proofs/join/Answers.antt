use Rattle.std.proofs.Common.{◌≡◌, ◌+◌, ◌*◌, ◌/◌, ◌<◌, ◌∙◌, List, ℕ, ap, arith, get_or, length, length-set}
use Rattle.std.proofs.lemmas.List.{get_or-set_other}
use Rattle.std.proofs.lemmas.Grind.{get_or-set_at}
use native.Mathlib.Decide.{dec_lt}
use Rattle.lists.specs.Table.{table}
use Rattle.lists.proofs.TableLaws.{table_of_entries}
use Rattle.half_rows.specs.HalfRow.{interleaved}
use Rattle.half_rows.proofs.HalfLaws.{interleaved-entry}
use Rattle.half_rows.proofs.join.Goals as goal

-- the row, from its even and its odd columns
row : (e o : List ℕ) {out : List ℕ} {w : ℕ} → length out ≡ w → ((j : ℕ) → 2 * j < w → get_or out (2 * j) 0 ≡ get_or e j 0) → ((j : ℕ) → 2 * j + 1 < w → get_or out (2 * j + 1) 0 ≡ get_or o j 0) → out ≡ table (interleaved 0 e o) w
row e o {out} {w} long even odd =
    table_of_entries 0 long
    (λ j h.
    interleaved-entry e o j
    (λ r. let i : j ≡ 2 * (j / 2) = omega arith in ap (λ i. get_or out i 0) i ∙ even (j / 2) (omega arith))
    (λ r. let i : j ≡ 2 * (j / 2) + 1 = omega arith in ap (λ i. get_or out i 0) i ∙ odd (j / 2) (omega arith)))

pub returns-else-n-out : goal.returns-else-n-out
returns-else-n-out c = row c.args.e.now c.args.o.now (omega arith) (λ j h. c.loop-k.invariant.even j (omega arith)) (λ j h. c.loop-k.invariant.odd j (omega arith))

-- the last column is at n, and the others were there before
pub returns-then-n-out : goal.returns-then-n-out
returns-then-n-out c =
    let n = length c.args.out.now / 2 in
    row c.args.e.now c.args.o.now (omega (arith, length-set {A = ℕ}))
    (λ j h.
    elim (dec_lt j n) [
      | yes l ↦ get_or-set_other c.loop-k.out _ _ _ _ (omega arith) ∙ c.loop-k.invariant.even j (omega arith)
      | no l ↦ let i : n ≡ j = omega arith in get_or-set_at c.loop-k.out _ _ _ _ (omega arith) (omega arith) ∙ ap (λ i. get_or c.args.e.now i 0) i
    ])
    (λ j h. get_or-set_other c.loop-k.out _ _ _ _ (omega arith) ∙ c.loop-k.invariant.odd j (omega arith))
