-- The rows so far. Assumes nothing.
use Rattle.std.proofs.Common.{◌+◌, ◌/◌}
use Rattle.lists.proofs.TableLaws.{length-table}
use Rattle.lists.proofs.JoinedLaws.{Handed}
use Rattle.green_blocks.specs.Block.{column_sums}
use Rattle.green_blocks.proofs.block.column_sums.Given as goal

abbrev pub invariant-loop-i : goal.invariant-loop-i
invariant-loop-i l = Handed (column_sums l.w l.s l.odd l.gv) ((l.w + 1) / 2) (λ i. length-table _ ((l.w + 1) / 2)) l.i l.initial.tv l.tv
