use Rattle.std.proofs.Common.{◌*◌, ◌∙◌, refl, arith}
use Rattle.lists.proofs.JoinedLaws.{joined-none, joined-turn, part-within}
use Rattle.lists.proofs.PartLaws.{part_length}
use Rattle.blend_rows.proofs.BlockLaws.{row-length, row_same}
use Rattle.blend_rows.proofs.block.blend_rows.Goals as goal

pub loop-i-init : goal.loop-i-init
loop-i-init c = record {
  rows = (joined-none _ _ (row-length c.args.w c.args.odd c.args.e.now c.args.o.now) _, refl);
  room_kept = record { variations = refl; estimates = refl; half = refl; other_half = refl };
}

pub loop-i-preserved : goal.loop-i-preserved
loop-i-preserved c =
    let a = c.args in
    let l = c.loop-i in
    let kept = c.blend_row_from.ensures.room_kept in
    record {
      rows = joined-turn _ _ (row-length a.w a.odd a.e.now a.o.now) l.i a.b a.out.now c.loop-i-test.true c.requires.lengths.2 l.invariant.rows
          (c.blend_row_from.ensures.value ∙ row_same a.w a.odd a.e.now a.o.now l.i (part_length (l.i * a.w) a.w l.out (omega (arith, part-within a.w c.loop-i-test.true))));
      room_kept = record {
        variations = kept.variations ∙ l.invariant.room_kept.variations;
        estimates = kept.estimates ∙ l.invariant.room_kept.estimates;
        half = kept.half ∙ l.invariant.room_kept.half;
        other_half = kept.other_half ∙ l.invariant.room_kept.other_half;
      };
    }
