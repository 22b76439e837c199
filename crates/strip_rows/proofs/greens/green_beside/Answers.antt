use Rattle.std.proofs.Common.{◌≡◌, ap, sym, ◌∙◌, ◌+◌, arith}
use Rattle.std.proofs.lemmas.Option.{same_Some}
use Rattle.lists.proofs.JoinedLaws.{joined-one}
use Rattle.green_rule.specs.Greens.{green_row}
use Rattle.strip_rows.proofs.greens.green_beside.Goals as goal

pub returns-then-v-piece-clause-value : goal.returns-then-v-piece-clause-value
returns-then-v-piece-clause-value c v e h =
    let p = c.args.piece.now in
    let same : c.in-Some.v ≡ v = same_Some _ _ (sym c.in-Some.is ∙ e) in
    let q : c.in-Some.v + 0 ≡ v = omega (arith, same) in
    c.green_rows.ensures.value ∙ joined-one _ ∙ ap (green_row p.frame p.start p.readings.now) q
