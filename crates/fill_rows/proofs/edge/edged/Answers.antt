use Rattle.std.proofs.Common.{refl, arith, length, length-take, length-drop}
use Rattle.fill_rows.proofs.EdgeLaws.{edged-made}
use Rattle.fill_rows.proofs.edge.edged.Goals as goal

pub returns : goal.returns
returns c =
    let row = c.args.row.now in
    edged-made (length row.readings.now) row.side row.readings.now row.greens.now c.args.out.now row.bit row.wide refl row.long c.requires
    (simp (length-take, length-drop) (omega arith)) c.pixels-m.ensures c.differences.ensures.value c.differences.ensures.within
