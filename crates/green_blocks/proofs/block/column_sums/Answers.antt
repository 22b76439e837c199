use Rattle.std.proofs.Common.{refl, ap, ◌∙◌, ◌+◌, ◌*◌, ◌/◌, rules, arith}
use Rattle.lists.specs.Table.{table}
use Rattle.lists.proofs.TableLaws.{length-table}
use Rattle.lists.proofs.JoinedLaws.{part-within, joined-none, joined-turn}
use Rattle.lists.proofs.PartLaws.{part_length}
use Rattle.green_blocks.proofs.block.column_sums.Goals as goal

pub loop-i-init : goal.loop-i-init
loop-i-init c = (joined-none _ _ (λ i. length-table _ _) _, refl)

pub loop-i-preserved : goal.loop-i-preserved
loop-i-preserved c =
    let a = c.args in
    let h = (a.w + 1) / 2 in
    joined-turn _ h (λ i. length-table _ h) c.loop-i.i (a.b + 2) a.tv.now c.loop-i-test.true (search rules) c.loop-i.invariant
    (c.sums.ensures ∙ ap (table _) (part_length (c.loop-i.i * h) h c.loop-i.tv (omega (arith, part-within h c.loop-i-test.true))))
