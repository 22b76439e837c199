use Rattle.std.proofs.Common.{◌+◌, ◌*◌, ◌∙◌, ◌≤◌, ℕ, arith}
use native.Mathlib.Nat.{le_trans, mul-le-mul_right}
use Rattle.half_rows.specs.HalfRow.{places}
use Rattle.blend_rows.proofs.RoomLaws.{front-again}
use Rattle.blend_rows.proofs.BlockLaws.{half-small, block-blended}
use Rattle.blend_rows.proofs.block.blend_block.Goals as goal

-- the half rows of the block are in the room
few : (b w : ℕ) → b ≤ 8 → (b + 4) * places w ≤ 12 * places w
few b w h = mul-le-mul_right (places w) (omega arith)

pub blend_rows-requires-clause-readings : goal.blend_rows-requires-clause-readings
blend_rows-requires-clause-readings c =
    let p = c.args.piece.now in
    let size = (c.args.b + 4) * places p.frame.width in
    let h = few c.args.b p.frame.width c.requires.rows.1 in
    let e = front-again size c.args.e.now (le_trans h c.requires.half_rows.0) c.fetch_halves.auto.e in
    let o = front-again size c.args.o.now (le_trans h c.requires.half_rows.1) c.fetch_halves.auto.o in (
      half-small p.frame p.start p.readings.now c.args.v c.args.b c.requires.readings 0 (e ∙ c.fetch_halves.ensures.even),
      half-small p.frame p.start p.readings.now c.args.v c.args.b c.requires.readings 1 (o ∙ c.fetch_halves.ensures.odd),
    )

pub returns-clause-value : goal.returns-clause-value
returns-clause-value c =
    let p = c.args.piece.now in
    let size = (c.args.b + 4) * places p.frame.width in
    let h = few c.args.b p.frame.width c.requires.rows.1 in
    let e = front-again size c.args.e.now (le_trans h c.requires.half_rows.0) c.fetch_halves.auto.e in
    let o = front-again size c.args.o.now (le_trans h c.requires.half_rows.1) c.fetch_halves.auto.o in
    c.blend_rows.ensures.value
    ∙ block-blended p.frame p.start p.readings.now c.args.v c.args.b (e ∙ c.fetch_halves.ensures.even) (o ∙ c.fetch_halves.ensures.odd) c.requires.lent c.starts_green-odd.ensures
