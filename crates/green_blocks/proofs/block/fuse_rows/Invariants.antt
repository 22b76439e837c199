-- The rows so far. Assumes nothing.
use Rattle.std.proofs.Common.{◌≡◌}
use Rattle.lists.proofs.TableLaws.{length-table}
use Rattle.lists.proofs.JoinedLaws.{Handed}
use Rattle.green_blocks.specs.Block.{fused_row_in}
use Rattle.green_blocks.proofs.block.fuse_rows.Given as goal

abbrev pub invariant-loop-i : goal.invariant-loop-i
invariant-loop-i l =
    let p = l.block.piece in
    let w = p.frame.width in
    (Handed (fused_row_in p.frame p.start p.readings.now l.block.first l.buffers.dh.now l.buffers.dv.now l.buffers.gh.now l.buffers.tv.now) w (λ i. length-table _ w) l.i l.initial.out l.out) × (l.room ≡ l.initial.room)
