use Rattle.std.proofs.Common.{◌+◌, ◌∙◌, refl, arith}
use Rattle.lists.proofs.JoinedLaws.{joined-none, joined-turn}
use Rattle.bayer.specs.declared.colour.Colour.{Colour}
use Rattle.bayer.specs.declared.colour.Colour.TheVariants.{Red, Blue}
use Rattle.bayer.proofs.ParityLaws.{starts-below}
use Rattle.strip_rows.proofs.ColourBlock.{rows-long, own-read, row-lent, row-fits, row-small, readings-long, greens-are, lists-end, list-fits, row-coloured}
use Rattle.strip_rows.proofs.colours.colour_rows.Goals as goal

pub loop-i-init : goal.loop-i-init
loop-i-init c =
    let b = c.args.block.now in
    let p = b.strip.piece in
    let none = λ (k : Colour). rows-long p.frame p.start p.readings.now k b.first in
    record { red = (joined-none _ _ (none Red) _, refl); blue = (joined-none _ _ (none Blue) _, refl); room = refl }

-- the row lies in the piece
pub row-requires-clause-from : goal.row-requires-clause-from
row-requires-clause-from c = let b = c.args.block.now in (row-lent b.strip.readable (own-read b.strip.readable b.within c.loop-i.i c.loop-i-test.true)).0

pub row-requires-clause-to : goal.row-requires-clause-to
row-requires-clause-to c = let b = c.args.block.now in (row-lent b.strip.readable (own-read b.strip.readable b.within c.loop-i.i c.loop-i-test.true)).1

-- and its lists among the block's
pub slice_bounds-above-end : goal.slice_bounds-above-end
slice_bounds-above-end c = let b = c.args.block.now in omega (arith, lists-end b.strip.readable b.within c.requires.lists c.loop-i.i c.loop-i-test.true)

pub slice_bounds-own-end : goal.slice_bounds-own-end
slice_bounds-own-end c = let b = c.args.block.now in omega (arith, lists-end b.strip.readable b.within c.requires.lists c.loop-i.i c.loop-i-test.true)

pub slice_bounds-below-end : goal.slice_bounds-below-end
slice_bounds-below-end c = let b = c.args.block.now in omega (arith, lists-end b.strip.readable b.within c.requires.lists c.loop-i.i c.loop-i-test.true)

pub invariant_of-above : goal.invariant_of-above
invariant_of-above c = let b = c.args.block.now in record { fit = list-fits b.strip.readable b.within c.requires.lists _ (omega (arith, lists-end b.strip.readable b.within c.requires.lists c.loop-i.i c.loop-i-test.true)) }

pub invariant_of-own : goal.invariant_of-own
invariant_of-own c = let b = c.args.block.now in record { fit = list-fits b.strip.readable b.within c.requires.lists _ (omega (arith, lists-end b.strip.readable b.within c.requires.lists c.loop-i.i c.loop-i-test.true)) }

pub invariant_of-below : goal.invariant_of-below
invariant_of-below c = let b = c.args.block.now in record { fit = list-fits b.strip.readable b.within c.requires.lists _ (omega (arith, lists-end b.strip.readable b.within c.requires.lists c.loop-i.i c.loop-i-test.true)) }

pub invariant_of-row : goal.invariant_of-row
invariant_of-row c =
    let b = c.args.block.now in
    let fits = row-fits b.strip.readable (own-read b.strip.readable b.within c.loop-i.i c.loop-i-test.true) b.strip.greens c.row.ensures c.greens.ensures in
    record {
      bit = omega (arith, c.starts_green.ensures, starts-below b.strip.piece.frame.layout (b.first + c.loop-i.i));
      wide = fits.0;
      long = fits.1;
    }

pub colour_row-requires-clause-range : goal.colour_row-requires-clause-range
colour_row-requires-clause-range c =
    let b = c.args.block.now in
    row-small b.strip.readable (own-read b.strip.readable b.within c.loop-i.i c.loop-i-test.true) b.strip.greens c.row.ensures c.greens.ensures

pub colour_row-requires-clause-row : goal.colour_row-requires-clause-row
colour_row-requires-clause-row c =
    let b = c.args.block.now in
    (readings-long b.strip.readable (own-read b.strip.readable b.within c.loop-i.i c.loop-i-test.true) b.strip.greens c.row.ensures c.greens.ensures, c.starts_green.ensures)

pub colour_row-requires-in-loop-i-clause-range : goal.colour_row-requires-in-loop-i-clause-range
colour_row-requires-in-loop-i-clause-range c =
    let b = c.args.block.now in
    row-small b.strip.readable (own-read b.strip.readable b.within c.loop-i.i c.loop-i-test.true) b.strip.greens c.row.ensures c.greens.ensures

pub colour_row-requires-in-loop-i-clause-row : goal.colour_row-requires-in-loop-i-clause-row
colour_row-requires-in-loop-i-clause-row c =
    let b = c.args.block.now in
    (readings-long b.strip.readable (own-read b.strip.readable b.within c.loop-i.i c.loop-i-test.true) b.strip.greens c.row.ensures c.greens.ensures, c.starts_green.ensures)

pub loop-i-preserved : goal.loop-i-preserved
loop-i-preserved c =
    let b = c.args.block.now in
    let p = b.strip.piece in
    let i = c.loop-i.i in
    let h = c.loop-i-test.true in
    let g = greens-are b.strip.readable (own-read b.strip.readable b.within i h) b.strip.greens c.row.ensures c.greens.ensures in
    record {
      red = joined-turn _ _ (rows-long p.frame p.start p.readings.now Red b.first) i _ c.args.red.now h c.requires.planes.0 c.loop-i.invariant.red
          (row-coloured b.strip.readable b.within c.requires.lists i h Red refl c.row.ensures g c.colour_row.ensures.value);
      blue = joined-turn _ _ (rows-long p.frame p.start p.readings.now Blue b.first) i _ c.args.blue.now h c.requires.planes.1 c.loop-i.invariant.blue
          (row-coloured b.strip.readable b.within c.requires.lists i h Blue refl c.row.ensures g c.colour_row-in-loop-i.ensures.value);
      room = c.colour_row-in-loop-i.ensures.room ∙ c.colour_row.ensures.room ∙ c.loop-i.invariant.room;
    }
