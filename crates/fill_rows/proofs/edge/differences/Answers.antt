use Rattle.std.proofs.Common.{pos, arith}
use Rattle.lists.proofs.TableLaws.{table_of_entries}
use Rattle.fill_rows.proofs.EdgeLaws.{small-differences}
use Rattle.fill_rows.proofs.edge.differences.Goals as goal

pub returns-clause-value : goal.returns-clause-value
returns-clause-value c = table_of_entries (pos 0) (omega arith) (λ j h. c.loop-k.invariant j (omega arith))

pub returns-clause-within : goal.returns-clause-within
returns-clause-within c = small-differences c.args.x.now c.args.g.now _ (λ k. omega (arith, c.type_inv.x k)) (λ k. omega (arith, c.type_inv.g k)) (returns-clause-value c)
