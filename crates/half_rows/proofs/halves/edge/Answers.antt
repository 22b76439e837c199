use Rattle.std.proofs.Common.{arith}
use Rattle.lists.proofs.TableLaws.{table_of_entries}
use Rattle.bayer.proofs.MirrorLaws.{mirror-lt}
use Rattle.half_rows.proofs.halves.edge.Goals as goal

-- what is read lies inside the row
pub offset_bounds-row-p : goal.offset_bounds-row-p
offset_bounds-row-p c = omega (arith, c.mirror-p.ensures, mirror-lt)

pub bounds-row-p : goal.bounds-row-p
bounds-row-p c = rw c.mirror-p.ensures (mirror-lt _ _ (omega arith))

pub offset_bounds-row-q : goal.offset_bounds-row-q
offset_bounds-row-q c = omega (arith, c.mirror-q.ensures, mirror-lt)

pub bounds-row-q : goal.bounds-row-q
bounds-row-q c = rw c.mirror-q.ensures (mirror-lt _ _ (omega arith))

pub returns : goal.returns
returns c = (
  table_of_entries 0 (omega arith) (λ j h. c.loop-k.invariant.even j (omega arith)),
  table_of_entries 0 (omega arith) (λ j h. c.loop-k.invariant.odd j (omega arith)),
)
