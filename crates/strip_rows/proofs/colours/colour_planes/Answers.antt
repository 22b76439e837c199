use Rattle.std.proofs.Common.{◌≡◌, ◌+◌, ◌*◌, ◌≤◌, ◌∙◌, min, refl, arith}
use native.Mathlib.Nat.{add-mul, mul-le-mul_right}
use Rattle.lists.proofs.JoinedLaws.{joined-none, joined-turns, joined-done}
use Rattle.bayer.specs.declared.colour.Colour.{Colour}
use Rattle.bayer.specs.declared.colour.Colour.TheVariants.{Red, Blue}
use Rattle.strip_rows.proofs.ColourBlock.{rows-long, rows-from}
use Rattle.strip_rows.proofs.PlanesFromRows.{red-plane, blue-plane}
use Rattle.strip_rows.proofs.colours.colour_planes.Goals as goal

pub loop-k-init : goal.loop-k-init
loop-k-init c =
    let p = c.args.strip.now.piece in
    let long = λ (k : Colour). rows-long p.frame p.start p.readings.now k c.args.strip.now.first in
    let e : min (8 * 0) c.args.strip.now.rows ≡ 0 = omega arith in
    record { red = rw e (joined-none _ _ (long Red) _, refl); blue = rw e (joined-none _ _ (long Blue) _, refl); room = refl }

-- the block's rows lie in the planes
pub slice_bounds-reds-end : goal.slice_bounds-reds-end
slice_bounds-reds-end c =
    let inside : 8 * c.loop-k.k + c.block_size-b.result ≤ c.args.strip.now.rows = omega (arith, c.block_size-b.ensures) in
    omega (arith, rw add-mul at (mul-le-mul_right c.args.strip.now.piece.frame.width inside))

pub loop-k-preserved : goal.loop-k-preserved
loop-k-preserved c =
    let p = c.args.strip.now.piece in
    let a = c.args.strip.now.first in
    let n = c.args.strip.now.rows in
    let i = 8 * c.loop-k.k in
    let b = c.block_size-b.result in
    let inside : i + b ≤ n = omega (arith, c.block_size-b.ensures) in
    let now : min i n ≡ i = omega arith in
    let next : min (8 * (c.loop-k.k + 1)) n ≡ i + b = omega (arith, c.block_size-b.ensures) in
    record {
      red = rw next (joined-turns _ _ (rows-long p.frame p.start p.readings.now Red a) i b _ c.args.red.now inside c.requires.planes.0 (rw now at c.loop-k.invariant.red)
          (c.colour_block.ensures.red_after ∙ rows-from p.frame p.start p.readings.now Red a i b));
      blue = rw next (joined-turns _ _ (rows-long p.frame p.start p.readings.now Blue a) i b _ c.args.blue.now inside c.requires.planes.1 (rw now at c.loop-k.invariant.blue)
          (c.colour_block.ensures.blue_after ∙ rows-from p.frame p.start p.readings.now Blue a i b));
      room = c.colour_block.ensures.room ∙ c.loop-k.invariant.room;
    }

pub returns-clause-red_after : goal.returns-clause-red_after
returns-clause-red_after c =
    let p = c.args.strip.now.piece in
    let a = c.args.strip.now in
    let n = min (8 * c.loop-k.k) a.rows in
    c.loop-k.invariant.red.0 ∙ joined-done _ _ (rows-long p.frame p.start p.readings.now Red a.first) n a.rows _ (omega arith) (omega arith) c.requires.planes.0
    ∙ red-plane p.frame p.start p.readings.now a.first a.rows

pub returns-clause-blue_after : goal.returns-clause-blue_after
returns-clause-blue_after c =
    let p = c.args.strip.now.piece in
    let a = c.args.strip.now in
    let n = min (8 * c.loop-k.k) a.rows in
    c.loop-k.invariant.blue.0 ∙ joined-done _ _ (rows-long p.frame p.start p.readings.now Blue a.first) n a.rows _ (omega arith) (omega arith) c.requires.planes.1
    ∙ blue-plane p.frame p.start p.readings.now a.first a.rows
