-- The lists so far. Assumes nothing.
use Rattle.fill_rows.specs.HalfFill.{places}
use Rattle.lists.proofs.JoinedLaws.{Handed}
use Rattle.strip_rows.specs.StripRows.{block_differences}
use Rattle.strip_rows.proofs.ColourBlock.{list_length}
use Rattle.strip_rows.proofs.colours.block_differences.Given as goal

abbrev pub invariant-loop-i : goal.invariant-loop-i
invariant-loop-i l =
    let p = l.block.strip.piece in
    Handed (block_differences p.frame p.start p.readings.now l.block.first) (places p.frame.width) (list_length p.frame p.start p.readings.now l.block.first) l.i l.initial.lists l.lists
