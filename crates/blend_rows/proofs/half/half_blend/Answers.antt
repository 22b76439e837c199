use Rattle.std.proofs.Common.{arith, length}
use Rattle.blend_rows.proofs.AxisLaws.{places-small, weighted-by}
use Rattle.blend_rows.proofs.half.half_blend.Goals as goal

pub row_weights-requires : goal.row_weights-requires
row_weights-requires c = (omega arith, places-small c.args.row.variations.now c.args.column.variations.now (length c.args.p.now) c.row_places.ensures)

pub row_blend-requires-clause-weighted : goal.row_blend-requires-clause-weighted
row_blend-requires-clause-weighted c = weighted-by c.args.row.variations.now c.args.column.variations.now (length c.args.p.now) c.row_places.ensures c.requires.same_length c.row_weights.ensures
