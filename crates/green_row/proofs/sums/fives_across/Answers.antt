use Rattle.std.proofs.Common.{◌∙◌, pos, w32, arith, below_more}
use Rattle.std.proofs.lemmas.List.{get_or-set_same, get_or-set_other}
use Rattle.whole.proofs.Signed.{read_result}
use Rattle.lists.proofs.TableLaws.{table_of_entries}
use Rattle.green_row.proofs.sums.fives_across.Goals as goal

pub loop-k-preserved : goal.loop-k-preserved
loop-k-preserved c =
    below_more _ _ (λ j h. get_or-set_other c.loop-k.out _ _ _ _ (omega arith) ∙ c.loop-k.invariant j h)
    (get_or-set_same c.loop-k.out _ _ _ (omega arith) ∙ read_result w32 _ c.five_at.type_inv c.five_at.ensures)

pub returns : goal.returns
returns c = table_of_entries (pos 0) (omega arith) (λ j h. c.loop-k.invariant j (omega arith))
