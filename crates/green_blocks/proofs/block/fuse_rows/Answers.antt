use Rattle.std.proofs.Common.{◌≡◌, refl, sym, ap, ◌∙◌, ℕ, ◌+◌, ◌-◌, ◌*◌, ◌/◌, ◌%◌, ◌<◌, List, length, drop, ℤ, arith}
use Rattle.std.proofs.Math.Nat.{add-zero}
use Rattle.lists.specs.Part.{part, row_of}
use Rattle.lists.specs.Table.{table}
use Rattle.lists.proofs.BoundLaws.{row-at-most}
use Rattle.lists.proofs.TableLaws.{length-table}
use Rattle.lists.proofs.JoinedLaws.{part-within, joined-none, joined-turn}
use Rattle.lists.proofs.PartLaws.{length_part, part_length, row-length}
use Rattle.bayer.specs.declared.frame.Frame.{Frame}
use Rattle.bayer.specs.Parity.{starts_green}
use Rattle.bayer.proofs.LentLaws.{row_inside}
use Rattle.gbtf.specs.Weights.{scale, weights_of}
use Rattle.green_row.specs.GreenIn.{green_in}
use Rattle.green_blocks.specs.declared.rows.Block.{Block}
use Rattle.green_blocks.specs.Block.{fused_row_in}
use Rattle.green_blocks.proofs.GreenBlock.{own_row}
use Rattle.green_blocks.proofs.block.fuse_rows.Goals as goal

row-long : (k : Block) {i : ℕ} {x : List ℕ} → i < k.rows → x ≡ row_of k.piece.frame.width (k.first + i - k.piece.start) k.piece.readings.now → length x ≡ k.piece.frame.width
row-long k {i} h e = ap length e ∙ row-length k.piece.frame.width (k.first + i - k.piece.start) k.piece.readings.now (omega (arith, (row_inside (k.lent i h)).1))

-- what row i is handed
row_same : (f : Frame) (first : ℕ) (rows : List ℕ) (v : ℕ) (dh dv : List ℤ) (gh tv : List ℕ) (i : ℕ) {n s o : ℕ} {own : List ℕ} {dh' dv' : List ℤ} {gh' tv' : List ℕ}
    → o ≡ starts_green f.layout v → s ≡ f.width + 14 → n ≡ f.width → own ≡ row_of f.width i (drop ((v - first) * f.width) rows)
    → dh' ≡ part (i * s) (3 * s) dh → dv' ≡ part (i * s) (9 * s) dv → gh' ≡ part (i * s) (3 * s - 4) gh → tv' ≡ part (i * ((f.width + 1) / 2)) (3 * ((f.width + 1) / 2)) tv
    → table (green_in scale (weights_of f.smoothing) s ((o + i) % 2) own dh' dv' gh' tv') n ≡ fused_row_in f first rows v dh dv gh tv i
row_same f first rows v dh dv gh tv i p e g h q r k l = rw (g, h, q, r, k, l, p, e)

pub loop-i-init : goal.loop-i-init
loop-i-init c = ((joined-none _ _ (λ i. length-table _ _) _, refl), refl)

pub overflow_add-block : goal.overflow_add-block
overflow_add-block c = let z = c.args.block.now.lent 0 c.args.block.now.some in omega (arith, z.row, z.frame.low, c.args.block.now.few)

pub row-x-requires-clause-from : goal.row-x-requires-clause-from
row-x-requires-clause-from c = (row_inside (c.args.block.now.lent c.loop-i.i c.loop-i-test.true)).0

pub row-x-requires-clause-to : goal.row-x-requires-clause-to
row-x-requires-clause-to c = omega (arith, (row_inside (c.args.block.now.lent c.loop-i.i c.loop-i-test.true)).1)

pub around_row-around-requires-clause-stride_bound : goal.around_row-around-requires-clause-stride_bound
around_row-around-requires-clause-stride_bound c =
    let z = (c.args.block.now.lent 0 c.args.block.now.some).frame in
    (omega (arith, c.requires.around.stride), omega (arith, c.requires.around.stride, z.narrow), omega (arith, z.narrow))

pub fuse_in-requires-clause-x_len : goal.fuse_in-requires-clause-x_len
fuse_in-requires-clause-x_len c =
    let k = c.args.block.now in
    omega (arith, row-long k c.loop-i-test.true c.row-x.ensures, (k.lent 0 k.some).frame.wide)

pub fuse_in-requires-clause-x_at_most : goal.fuse_in-requires-clause-x_at_most
fuse_in-requires-clause-x_at_most c = let p = c.args.block.now.piece in rw c.row-x.ensures (row-at-most p.frame.width _ p.readings.now c.requires.range)

pub fuse_in-requires-clause-out_len : goal.fuse_in-requires-clause-out_len
fuse_in-requires-clause-out_len c =
    let k = c.args.block.now in
    let w = k.piece.frame.width in
    part_length (c.loop-i.i * w) w c.loop-i.out (omega (arith, part-within w c.loop-i-test.true)) ∙ sym (row-long k c.loop-i-test.true c.row-x.ensures)

pub fuse_in-requires-clause-around : goal.fuse_in-requires-clause-around
fuse_in-requires-clause-around c =
    let k = c.args.block.now in
    let b = c.args.buffers.now in
    let i = c.loop-i.i in
    let s = b.stride in
    let h = (k.piece.frame.width + 1) / 2 in
    let q = c.requires.around in
    let e = c.around_row-around.ensures in
    let l = row-long k c.loop-i-test.true c.row-x.ensures in
    let places = part-within s c.loop-i-test.true in
    record {
      wide = omega (arith, l, e.stride, q.stride);
      narrow = omega (arith, e.stride, q.stride, (k.lent 0 k.some).frame.narrow);
      dh-long = omega (arith, e.stride, ap length e.dh ∙ length_part (i * s) (3 * s) b.dh.now (omega (arith, places, q.dh-long)));
      dv-long = omega (arith, e.stride, ap length e.dv ∙ length_part (i * s) (9 * s) b.dv.now (omega (arith, places, q.dv-long)));
      gh-long = omega (arith, e.stride, q.stride, ap length e.gh ∙ length_part (i * s) (3 * s - 4) b.gh.now (omega (arith, places, q.stride, q.gh-long)));
      tv-long = omega (arith, l, ap length e.tv ∙ length_part (i * h) (3 * h) b.tv.now (omega (arith, part-within h c.loop-i-test.true, q.tv-long)));
    }

pub fuse_in-requires-clause-room_for_x : goal.fuse_in-requires-clause-room_for_x
fuse_in-requires-clause-room_for_x c = rw c.loop-i.invariant.1 (omega (arith, row-long c.args.block.now c.loop-i-test.true c.row-x.ensures, c.requires.room_for_frame))

pub loop-i-preserved : goal.loop-i-preserved
loop-i-preserved c =
    let k = c.args.block.now in
    let p = k.piece in
    let w = p.frame.width in
    let b = c.args.buffers.now in
    let i = c.loop-i.i in
    let q = c.requires.around in
    let e = c.around_row-around.ensures in
    let own = c.row-x.ensures ∙ sym (own_row w p.start k.first i p.readings.now (rw add-zero at (row_inside (k.lent 0 k.some)).0)) in (
      joined-turn _ w (λ i. length-table _ w) i k.rows c.args.out.now c.loop-i-test.true c.requires.out_len c.loop-i.invariant.0
          (c.fuse_in.ensures.value
          ∙ row_same p.frame p.start p.readings.now k.first b.dh.now b.dv.now b.gh.now b.tv.now i c.starts_green-odd.ensures (e.stride ∙ q.stride) (row-long k c.loop-i-test.true c.row-x.ensures) own
          (rw (← e.stride) at e.dh) (rw (← e.stride) at e.dv) (rw (← e.stride) at e.gh) e.tv),
      c.fuse_in.ensures.same_room ∙ c.loop-i.invariant.1,
    )
