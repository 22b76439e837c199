use Rattle.std.proofs.Common.{◌≡◌, ◌∙◌, ap, arith, length}
use Rattle.lists.specs.Table.{table}
use Rattle.lists.proofs.TableLaws.{table_same}
use Rattle.half_rows.specs.HalfRow.{interleaved}
use Rattle.half_rows.proofs.HalfLaws.{exchanged}
use Rattle.half_rows.proofs.interleave.Goals as goal

pub returns-else-side-eq0 : goal.returns-else-side-eq0
returns-else-side-eq0 c =
    let a = c.args in
    let e : 1 ≡ a.side = omega arith in
    c.join-else-side-eq0.ensures
    ∙ table_same _ _ _ (λ k _. exchanged a.p.now a.q.now k)
    ∙ ap (λ side. table (interleaved side a.p.now a.q.now) (length a.out.now)) e
