use Rattle.std.proofs.Common.{◌≡◌, refl, ap, ap₂, ◌∙◌, ℕ, ◌+◌, ◌-◌, ◌*◌, ◌<◌, ◌≤◌, List, length, arith}
use Rattle.std.proofs.Math.Nat.{add-mul, mul-le-mul_right}
use Rattle.std.proofs.Math.IntN.{sub_ℕ}
use Rattle.lists.specs.Part.{row_of}
use Rattle.lists.specs.Table.{table}
use Rattle.lists.proofs.TableLaws.{length-table}
use Rattle.lists.proofs.JoinedLaws.{part-within, joined-none, joined-turn}
use Rattle.lists.proofs.PartLaws.{part_length, row-length}
use Rattle.bayer.specs.declared.frame.Frame.{Frame}
use Rattle.bayer.specs.Mirror.{mirror}
use Rattle.bayer.specs.Lent.{Lent}
use Rattle.green_row.specs.Extended.{column}
use Rattle.bayer.proofs.BlockLent.{lent-start, lent-end}
use Rattle.green_blocks.proofs.fetch.fetch.Goals as goal

-- row r of b + 12, each s places wide, lies among them, and these are few
inside : (b s : ℕ) {r : ℕ} → r < b + 12 → b ≤ 8 → (r * s + s ≤ b * s + 12 * s) × (b * s ≤ 8 * s)
inside b s h k = (rw add-mul at (part-within s h), mul-le-mul_right s k)

-- the row that is read is as long as the frame is wide
row-long : (f : Frame) (first v b : ℕ) (rows : List ℕ) → ((i : ℕ) → i < b → Lent f first (length rows) (v + i)) → 0 < b → {r m : ℕ} {row : List ℕ} → r < b + 12 → m ≡ mirror f.height (sub_ℕ (v + r) 6)
    → row ≡ row_of f.width (m - first) rows → length row ≡ f.width
row-long f first v b rows lent some h e i = ap length i ∙ row-length f.width _ rows (rw e (lent-end f first (length rows) v b lent some _ h))

pub loop-r-init : goal.loop-r-init
loop-r-init c = (joined-none _ _ (λ r. length-table _ _) _, refl)

pub overflow_add-block : goal.overflow_add-block
overflow_add-block c = let z = c.args.block.now.lent 0 c.args.block.now.some in omega (arith, z.row, z.frame.low)

pub row-row-requires-clause-from : goal.row-row-requires-clause-from
row-row-requires-clause-from c = let b = c.args.block.now in let p = b.piece in rw c.mirror.ensures (lent-start p.frame p.start (length p.readings.now) b.first b.rows c.args.block.now.lent c.args.block.now.some _ c.loop-r-test.true)

pub row-row-requires-clause-to : goal.row-row-requires-clause-to
row-row-requires-clause-to c = let b = c.args.block.now in let p = b.piece in rw c.mirror.ensures (lent-end p.frame p.start (length p.readings.now) b.first b.rows c.args.block.now.lent c.args.block.now.some _ c.loop-r-test.true)

pub slice_bounds-extend-end : goal.slice_bounds-extend-end
slice_bounds-extend-end c = omega (arith, inside c.args.block.now.rows c.args.s c.loop-r-test.true c.args.block.now.few)

pub extend-requires-clause-in_bounds : goal.extend-requires-clause-in_bounds
extend-requires-clause-in_bounds c =
    let a = c.args in
    let b = a.block.now in
    let z = (c.args.block.now.lent 0 c.args.block.now.some).frame in
    let l = row-long b.piece.frame b.piece.start b.first b.rows b.piece.readings.now c.args.block.now.lent c.args.block.now.some c.loop-r-test.true c.mirror.ensures c.row-row.ensures in
    (omega (arith, l, z.wide), omega (arith, l, z.narrow))

pub extend-requires-clause-out_len : goal.extend-requires-clause-out_len
extend-requires-clause-out_len c =
    let a = c.args in
    let b = a.block.now in
    let l = row-long b.piece.frame b.piece.start b.first b.rows b.piece.readings.now c.args.block.now.lent c.args.block.now.some c.loop-r-test.true c.mirror.ensures c.row-row.ensures in
    part_length (c.loop-r.r * a.s) a.s c.loop-r.x (omega (arith, inside a.block.now.rows a.s c.loop-r-test.true c.args.block.now.few)) ∙ omega (arith, l)

pub loop-r-preserved : goal.loop-r-preserved
loop-r-preserved c =
    let a = c.args in
    joined-turn _ a.s (λ r. length-table _ a.s) c.loop-r.r (a.block.now.rows + 12) a.x.now c.loop-r-test.true (omega (arith, add-mul a.block.now.rows 12 a.s)) c.loop-r.invariant
    (c.extend.ensures
    ∙ ap₂ (λ (row : List ℕ) (n : ℕ). table (column row) n) (rw c.mirror.ensures at c.row-row.ensures)
    (part_length (c.loop-r.r * a.s) a.s c.loop-r.x (omega (arith, inside a.block.now.rows a.s c.loop-r-test.true c.args.block.now.few))))
