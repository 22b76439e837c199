-- The blocks so far. Assumes nothing.
use Rattle.std.proofs.Common.{◌≡◌, ◌+◌, ◌*◌, min}
use Rattle.lists.proofs.TableLaws.{length-table}
use Rattle.lists.proofs.JoinedLaws.{Handed}
use Rattle.green_rule.specs.Greens.{green_row}
use Rattle.green_blocks.proofs.blocks.green_rows.Given as goal

abbrev pub invariant-loop-k : goal.invariant-loop-k
invariant-loop-k l =
    (Handed (λ i. green_row l.piece.frame l.piece.start l.piece.readings.now (l.a + i)) l.piece.frame.width (λ i. length-table _ l.piece.frame.width) (min (8 * l.k) l.n) l.initial.out l.out) × (l.room ≡ l.initial.room)
