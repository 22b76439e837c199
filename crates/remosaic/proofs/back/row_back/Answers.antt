-- All columns are there. Assumes nothing.
use Rattle.std.proofs.Common.{arith}
use Rattle.lists.proofs.TableLaws.{table_of_entries}
use Rattle.remosaic.proofs.back.row_back.Goals as goal

pub returns : goal.returns
returns c = table_of_entries 0 (omega arith) (λ k h. c.loop-j.invariant k (omega arith))
