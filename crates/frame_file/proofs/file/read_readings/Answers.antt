-- The readings are the table's entries. Assumes nothing.
use Rattle.std.proofs.Common.{arith}
use Rattle.lists.proofs.TableLaws.{table_of_entries}
use Rattle.frame_file.proofs.file.read_readings.Goals as goal

pub returns : goal.returns
returns c = table_of_entries 0 (omega arith) (λ j h. c.loop-k.invariant j (omega arith))
