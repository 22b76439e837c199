-- The rows of red and blue so far. Assumes nothing.
use Rattle.std.proofs.Common.{◌≡◌, ◌*◌, min}
use Rattle.lists.proofs.JoinedLaws.{Handed}
use Rattle.bayer.specs.declared.colour.Colour.TheVariants.{Red, Blue}
use Rattle.strip_rows.proofs.ColourBlock.{rows, rows-long}
use Rattle.strip_rows.proofs.colours.colour_planes.Given as goal

abbrev pub invariant-loop-k : goal.invariant-loop-k
invariant-loop-k l = let p = l.strip.piece in let a = l.strip.first in let i = min (8 * l.k) l.strip.rows in record {
  red : Handed (rows p.frame p.start p.readings.now Red a) p.frame.width (rows-long p.frame p.start p.readings.now Red a) i l.initial.red l.red;
  blue : Handed (rows p.frame p.start p.readings.now Blue a) p.frame.width (rows-long p.frame p.start p.readings.now Blue a) i l.initial.blue l.blue;
  room : l.room ≡ l.initial.room;
}
