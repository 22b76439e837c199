use Rattle.std.proofs.Common.{◌∙◌, refl, ap, arith}
use Rattle.lists.proofs.PartLaws.{part_length}
use Rattle.lists.proofs.JoinedLaws.{part-within, joined-none, joined-turn}
use Rattle.bayer.proofs.ParityLaws.{starts-below}
use Rattle.fill_rows.specs.HalfFill.{places}
use Rattle.strip_rows.specs.StripRows.{row_differences}
use Rattle.strip_rows.proofs.ColourBlock.{list_length, row-read, row-lent, row-fits, readings-long, edged-done}
use Rattle.strip_rows.proofs.colours.block_differences.Goals as goal

pub loop-i-init : goal.loop-i-init
loop-i-init c = let b = c.args.block.now in let p = b.strip.piece in (joined-none _ _ (list_length p.frame p.start p.readings.now b.first) _, refl)

pub row-requires-clause-from : goal.row-requires-clause-from
row-requires-clause-from c = let b = c.args.block.now in (row-lent b.strip.readable (row-read b.strip.readable b.within c.loop-i.i c.loop-i-test.true c.mirror-y.ensures)).0

pub row-requires-clause-to : goal.row-requires-clause-to
row-requires-clause-to c = let b = c.args.block.now in (row-lent b.strip.readable (row-read b.strip.readable b.within c.loop-i.i c.loop-i-test.true c.mirror-y.ensures)).1

pub invariant_of-row : goal.invariant_of-row
invariant_of-row c =
    let b = c.args.block.now in
    let q = row-read b.strip.readable b.within c.loop-i.i c.loop-i-test.true c.mirror-y.ensures in
    let fits = row-fits b.strip.readable q b.strip.greens c.row.ensures c.greens.ensures in
    record {
      bit = omega (arith, c.starts_green.ensures, starts-below);
      wide = fits.0;
      long = fits.1;
    }

pub edged-requires : goal.edged-requires
edged-requires c =
    let b = c.args.block.now in
    let q = row-read b.strip.readable b.within c.loop-i.i c.loop-i-test.true c.mirror-y.ensures in
    let s = places b.strip.piece.frame.width in
    rw (readings-long b.strip.readable q b.strip.greens c.row.ensures c.greens.ensures) (part_length _ s c.loop-i.lists (omega (arith, part-within s c.loop-i-test.true)))

pub loop-i-preserved : goal.loop-i-preserved
loop-i-preserved c =
    let b = c.args.block.now in
    let p = b.strip.piece in
    let q = row-read b.strip.readable b.within c.loop-i.i c.loop-i-test.true c.mirror-y.ensures in
    joined-turn _ _ (list_length p.frame p.start p.readings.now b.first) c.loop-i.i _ c.args.lists.now c.loop-i-test.true c.requires c.loop-i.invariant
    (edged-done b.strip.readable q b.strip.greens c.row.ensures c.greens.ensures c.starts_green.ensures c.edged.ensures
    ∙ ap (row_differences p.frame p.start p.readings.now) c.mirror-y.ensures)
