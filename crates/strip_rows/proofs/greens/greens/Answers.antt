use Rattle.std.proofs.Common.{subst, Some, ◌≤◌, ◌+◌, ◌-◌, arith}
use Rattle.std.specs.Option.{SomeIff}
use Rattle.std.proofs.lemmas.Option.{same_Some}
use Rattle.strip_rows.proofs.greens.greens.Goals as goal

pub green_rows-requires-clause-by_index : goal.green_rows-requires-clause-by_index
green_rows-requires-clause-by_index c i h = let r = c.requires.readable in r.lent (c.args.a + i) (omega (arith, r.inside)) (omega arith) (omega arith)

pub green_beside-requires-clause-by_index : goal.green_beside-requires-clause-by_index
green_beside-requires-clause-by_index c v e h =
    let a = c.args.a in
    let before : SomeIff (Some v) (1 ≤ a) (a - 1) = subst (λ row. SomeIff row (1 ≤ a) (a - 1)) e c.checked_sub.ensures in
    c.requires.readable.lent v h (omega (arith, before)) (omega (arith, before))

pub green_beside-requires-2-clause-by_index : goal.green_beside-requires-2-clause-by_index
green_beside-requires-2-clause-by_index c v e h = c.requires.readable.lent v h (omega (arith, same_Some _ _ e)) (omega (arith, same_Some _ _ e))
