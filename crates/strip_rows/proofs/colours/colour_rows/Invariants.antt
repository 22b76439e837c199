-- The rows of red and blue so far. Assumes nothing.
use Rattle.std.proofs.Common.{◌≡◌}
use Rattle.lists.proofs.JoinedLaws.{Handed}
use Rattle.bayer.specs.declared.colour.Colour.TheVariants.{Red, Blue}
use Rattle.strip_rows.proofs.ColourBlock.{rows, rows-long}
use Rattle.strip_rows.proofs.colours.colour_rows.Given as goal

abbrev pub invariant-loop-i : goal.invariant-loop-i
invariant-loop-i l = let v = l.block.first in let p = l.block.strip.piece in record {
  red : Handed (rows p.frame p.start p.readings.now Red v) p.frame.width (rows-long p.frame p.start p.readings.now Red v) l.i l.initial.red l.red;
  blue : Handed (rows p.frame p.start p.readings.now Blue v) p.frame.width (rows-long p.frame p.start p.readings.now Blue v) l.i l.initial.blue l.blue;
  room : l.room ≡ l.initial.room;
}
