use Rattle.std.proofs.Common.{ap, arith, length-take}
use Rattle.fill_rows.specs.HalfRoom.{HalfSizes}
use Rattle.fill_rows.proofs.HalfFillLaws.{other-done}
use Rattle.fill_rows.proofs.rows.other_row.Goals as goal

pub returns-clause-value : goal.returns-clause-value
returns-clause-value c =
    other-done c.args.side c.args.greens.now c.args.above.now.list.now c.args.below.now.list.now c.requires.side (omega (arith, c.args.above.now.fit.long)) (omega (arith, c.args.below.now.fit.long))
    (simp length-take (omega (arith, ap (λ (s : HalfSizes). s.first) c.room.view_is))) (simp length-take (omega (arith, ap (λ (s : HalfSizes). s.second) c.room.view_is))) (omega arith) c.diagonals.ensures c.pairs.ensures c.interleave.ensures
