use Rattle.std.proofs.Common.{arith}
use Rattle.lists.proofs.TableLaws.{table_of_entries}
use Rattle.bayer.proofs.MirrorLaws.{mirror-lt}
use Rattle.green_row.proofs.extend.edge.Goals as goal

-- what is read lies inside the row
pub offset_bounds-row-mirror : goal.offset_bounds-row-mirror
offset_bounds-row-mirror c = omega (arith, c.mirror.ensures, mirror-lt)

pub bounds-row-mirror : goal.bounds-row-mirror
bounds-row-mirror c = rw c.mirror.ensures (mirror-lt _ _ (omega arith))

pub returns : goal.returns
returns c = table_of_entries 0 (omega arith) (λ j h. c.loop-k.invariant j (omega arith))
