use Rattle.std.proofs.Common.{arith}
use Rattle.lists.proofs.TableLaws.{table_of_entries}
use Rattle.green_row.proofs.along.gradients.Goals as goal

pub returns : goal.returns
returns c = table_of_entries 0 (omega arith) (λ j h. c.loop-k.invariant j (omega arith))
