use Rattle.std.proofs.Common.{arith}
use Rattle.lists.proofs.TableLaws.{table_of_entries}
use Rattle.half_rows.proofs.halves.split.Goals as goal

pub returns : goal.returns
returns c = (
  table_of_entries 0 (omega arith) (λ j h. c.loop-k.invariant.even j (omega arith)),
  table_of_entries 0 (omega arith) (λ j h. c.loop-k.invariant.odd j (omega arith)),
)
