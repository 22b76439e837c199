use Rattle.std.proofs.Common.{◌∙◌, ◌*◌, w32, ap, arith, below_more, get_or}
use Rattle.std.proofs.lemmas.List.{get_or-set_same, get_or-set_other}
use Rattle.whole.specs.Clamp.{clamp}
use Rattle.whole.proofs.Signed.{read_result}
use Rattle.lists.proofs.TableLaws.{table_of_entries}
use Rattle.demosaic.specs.Fill.{fill}
use Rattle.fill_rows.specs.HalfFill.{pair_in}
use Rattle.fill_rows.proofs.FilledLaws.{two-same}
use Rattle.fill_rows.proofs.half.pairs.Goals as goal

pub loop-k-preserved : goal.loop-k-preserved
unfolding pair_in fill
loop-k-preserved c =
    let a = c.args in
    let k = c.loop-k.k in
    let small = c.requires.all_within in
    let read = read_result w32 _ c.pair.type_inv c.pair.ensures ∙ two-same a.a.now a.b.now small.0 small.1 (get_or a.g.now (2 * k) 0) k in
    below_more _ _ (λ j h. get_or-set_other c.loop-k.out _ _ _ _ (omega arith) ∙ c.loop-k.invariant j h)
    (get_or-set_same c.loop-k.out _ _ _ (omega arith) ∙ c.clamp.ensures ∙ ap clamp read)

pub returns : goal.returns
returns c = table_of_entries 0 (omega arith) (λ j h. c.loop-k.invariant j (omega arith))
