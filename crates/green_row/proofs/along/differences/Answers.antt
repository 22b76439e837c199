use Rattle.std.proofs.Common.{pos, arith}
use Rattle.lists.proofs.TableLaws.{table_of_entries}
use Rattle.green_row.proofs.along.differences.Goals as goal

pub returns : goal.returns
returns c = table_of_entries (pos 0) (omega arith) (λ j h. c.loop-k.invariant j (omega arith))
