use Rattle.std.proofs.Common.{arith, get_or, length}
use Rattle.lists.proofs.TableLaws.{table-get_or, table_of_entries}
use Rattle.green_row.proofs.extend.copy.Goals as goal

pub returns : goal.returns
returns c = rw (table_of_entries 0 {f = λ j. get_or c.args.row.now j 0} {n = length c.args.row.now} (omega arith) (λ j h. c.loop-k.invariant j (omega arith))) (table-get_or c.args.row.now 0)
