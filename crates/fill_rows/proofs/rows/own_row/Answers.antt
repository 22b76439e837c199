use Rattle.std.proofs.Common.{ap, arith, length-take}
use Rattle.fill_rows.specs.HalfRoom.{HalfSizes}
use Rattle.fill_rows.proofs.HalfFillLaws.{own-done}
use Rattle.fill_rows.proofs.rows.own_row.Goals as goal

pub returns-clause-value : goal.returns-clause-value
returns-clause-value c =
    let row = c.args.row.now in
    own-done row.side row.readings.now row.greens.now c.args.own.now.list.now row.bit row.long (omega (arith, c.args.own.now.fit.long))
    (simp length-take (omega (arith, ap (λ (s : HalfSizes). s.first) c.room.view_is))) (simp length-take (omega (arith, ap (λ (s : HalfSizes). s.second) c.room.view_is))) c.requires.out_len c.observed.ensures c.pairs.ensures c.interleave.ensures
