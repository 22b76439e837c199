use Rattle.std.proofs.Common.{◌∙◌, sym, ap, arith, length}
use Rattle.lists.proofs.TableLaws.{table_same}
use Rattle.gbtf.specs.Weights.{weights_of}
use Rattle.gbtf.proofs.WeightLaws.{tapered-unless-0}
use Rattle.green_row.specs.Directions.{reversed}
use Rattle.green_row.proofs.DirectionLaws.{five-reversed}
use Rattle.green_row.proofs.directions.fives_before.Goals as goal

pub returns-then-smoothing-eq0 : goal.returns-then-smoothing-eq0
returns-then-smoothing-eq0 c =
    let a = c.args in
    let back = c.reversed.ensures ∙ ap reversed (c.weights_of.ensures.value ∙ sym (ap weights_of c.if-smoothing-eq0.true)) in
    c.fives.ensures ∙ table_same _ _ (length a.out.now) (λ k _. five-reversed (weights_of a.smoothing) a.step a.d.now _ _ back (omega arith))

pub returns-else-smoothing-eq0 : goal.returns-else-smoothing-eq0
returns-else-smoothing-eq0 c =
    let a = c.args in
    let back = c.reversed-else-smoothing-eq0.ensures ∙ ap reversed (c.weights_of-else-smoothing-eq0.ensures.value ∙ sym (tapered-unless-0 _ c.if-smoothing-eq0.false)) in
    c.fives-else-smoothing-eq0.ensures ∙ table_same _ _ (length a.out.now) (λ k _. five-reversed (weights_of a.smoothing) a.step a.d.now _ _ back (omega arith))
