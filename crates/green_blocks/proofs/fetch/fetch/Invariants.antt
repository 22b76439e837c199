-- The rows so far. Assumes nothing.
use Rattle.lists.proofs.TableLaws.{length-table}
use Rattle.lists.proofs.JoinedLaws.{Handed}
use Rattle.green_row.specs.Extended.{extended_row}
use Rattle.green_blocks.proofs.fetch.fetch.Given as goal

abbrev pub invariant-loop-r : goal.invariant-loop-r
invariant-loop-r l = Handed (extended_row l.block.piece.frame l.block.piece.start l.block.piece.readings.now l.block.first l.s) l.s (λ r. length-table _ l.s) l.r l.initial.x l.x
