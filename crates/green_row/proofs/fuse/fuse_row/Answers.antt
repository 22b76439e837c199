use Rattle.std.proofs.Common.{arith, pos}
use Rattle.lists.proofs.TableLaws.{table_of_entries}
use Rattle.green_row.proofs.fuse.fuse_row.Goals as goal

pub returns : goal.returns
returns c = table_of_entries (pos 0) (omega arith) (λ j h. c.loop-i.invariant j (omega arith))
