-- The rows so far. Assumes nothing.
use Rattle.lists.proofs.JoinedLaws.{Handed}
use Rattle.blend_rows.specs.BlendIn.{block_row}
use Rattle.blend_rows.specs.Workspace.{SameSizes}
use Rattle.blend_rows.proofs.BlockLaws.{row-length}
use Rattle.blend_rows.proofs.block.blend_rows.Given as goal

abbrev pub invariant-loop-i : goal.invariant-loop-i
invariant-loop-i l = record {
  rows : Handed (block_row l.w l.odd l.e l.o) l.w (row-length l.w l.odd l.e l.o) l.i l.initial.out l.out;
  room_kept : SameSizes l.fn.room l.room;
}
