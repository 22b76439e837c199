use Rattle.std.proofs.Common.{◌-◌, ◌*◌, ◌+◌, ◌∙◌, ap, refl, arith}
use Rattle.lists.specs.Part.{row_of}
use Rattle.lists.proofs.JoinedLaws.{joined-none, joined-turn, part-within}
use Rattle.lists.proofs.PartLaws.{part_length}
use Rattle.half_rows.specs.HalfRow.{places}
use Rattle.blend_rows.proofs.FetchLaws.{fetched-length, fetched-from, lent-from, lent-to, lent-long}
use Rattle.blend_rows.proofs.fetch.fetch_halves.Goals as goal

pub loop-r-init : goal.loop-r-init
loop-r-init c = record {
  even = (joined-none _ _ (fetched-length c.args.piece.now c.args.v 0) _, refl);
  odd = (joined-none _ _ (fetched-length c.args.piece.now c.args.v 1) _, refl);
}

pub overflow_add-v : goal.overflow_add-v
overflow_add-v c = let z = c.requires.lent 0 c.requires.rows.0 in omega (arith, z.row, z.frame.low)

pub row-row-requires-clause-from : goal.row-row-requires-clause-from
row-row-requires-clause-from c = let a = c.args in lent-from a.piece.now a.v a.b c.requires.lent c.requires.rows.0 c.loop-r.r c.loop-r-test.true c.mirror.ensures

pub row-row-requires-clause-to : goal.row-row-requires-clause-to
row-row-requires-clause-to c = let a = c.args in lent-to a.piece.now a.v a.b c.requires.lent c.requires.rows.0 c.loop-r.r c.loop-r-test.true c.mirror.ensures

pub slice_bounds-halves-end : goal.slice_bounds-halves-end
slice_bounds-halves-end c = omega (arith, part-within (places c.args.piece.now.frame.width) c.loop-r-test.true)

pub halves-requires : goal.halves-requires
halves-requires c =
    let a = c.args in
    let h = places a.piece.now.frame.width in
    let z = (c.requires.lent 0 c.requires.rows.0).frame in
    let long = lent-long a.piece.now a.v a.b c.requires.lent c.requires.rows.0 c.loop-r.r c.loop-r-test.true c.mirror.ensures c.row-row.ensures in
    rw (part_length (c.loop-r.r * h) h c.loop-r.e (omega (arith, part-within h c.loop-r-test.true)), part_length (c.loop-r.r * h) h c.loop-r.o (omega (arith, part-within h c.loop-r-test.true)), long)
    (z.wide, z.narrow, refl, refl)

pub loop-r-preserved : goal.loop-r-preserved
loop-r-preserved c =
    let a = c.args in
    let piece = a.piece.now in
    let l = c.loop-r in
    let long = lent-long piece a.v a.b c.requires.lent c.requires.rows.0 l.r c.loop-r-test.true c.mirror.ensures c.row-row.ensures in
    let row = c.row-row.ensures ∙ ap (λ m. row_of piece.frame.width (m - piece.start) piece.readings.now) c.mirror.ensures in
    record {
      even = joined-turn _ _ (fetched-length piece a.v 0) l.r (a.b + 4) a.e.now c.loop-r-test.true c.requires.lengths.0 l.invariant.even (c.halves.ensures.0 ∙ fetched-from piece a.v 0 l.r row long);
      odd = joined-turn _ _ (fetched-length piece a.v 1) l.r (a.b + 4) a.o.now c.loop-r-test.true c.requires.lengths.1 l.invariant.odd (c.halves.ensures.1 ∙ fetched-from piece a.v 1 l.r row long);
    }
