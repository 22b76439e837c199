use Rattle.std.proofs.Common.{◌≡◌, refl, ap, subst, ◌∙◌, ℕ, ◌+◌, ◌*◌, ◌<◌, ◌≤◌, min, List, length, arith}
use Rattle.std.proofs.Math.Nat.{add-mul, mul-le-mul_right}
use Rattle.lists.specs.Table.{joined}
use Rattle.lists.proofs.TableLaws.{length-table}
use Rattle.lists.proofs.JoinedLaws.{joined_same, joined-none, joined-turns}
use Rattle.bayer.specs.declared.frame.Frame.{Frame}
use Rattle.bayer.specs.Lent.{Lent}
use Rattle.green_rule.specs.Greens.{green_row}
use Rattle.green_blocks.proofs.blocks.green_rows.Goals as goal

-- a block that starts at row i of these
lent-from : (f : Frame) (start m a i b n : ℕ) → i + b ≤ n → ((k : ℕ) → k < n → Lent f start m (a + k)) → (k : ℕ) → k < b → Lent f start m (a + i + k)
lent-from f start m a i b n h lent k l = let e : a + (i + k) ≡ a + i + k = omega arith in subst (Lent f start m) e (lent (i + k) (omega arith))

rows-from : (f : Frame) (start : ℕ) (piece : List ℕ) (a i b : ℕ) → joined (λ k. green_row f start piece (a + i + k)) b ≡ joined (λ k. green_row f start piece (a + (i + k))) b
rows-from f start piece a i b = joined_same _ _ b (λ k _. (let e : a + i + k ≡ a + (i + k) = omega arith in ap (green_row f start piece) e))

pub loop-k-init : goal.loop-k-init
loop-k-init c = let e : min (8 * 0) c.args.n ≡ 0 = omega arith in rw e ((joined-none _ _ (λ i. length-table _ c.args.piece.now.frame.width) _, refl), refl)

pub invariant_of-block : goal.invariant_of-block
invariant_of-block c =
    let a = c.args in
    let p = a.piece.now in
    record {
      some = omega (arith, c.block_size-b.ensures);
      few = omega (arith, c.block_size-b.ensures);
      lent = lent-from p.frame p.start (length p.readings.now) a.a (8 * c.loop-k.k) c.block_size-b.result a.n (omega (arith, c.block_size-b.ensures)) c.requires.by_index;
    }

pub slice_bounds-green_block_in-end : goal.slice_bounds-green_block_in-end
slice_bounds-green_block_in-end c =
    let w = c.args.piece.now.frame.width in
    let i : 8 * c.loop-k.k + c.block_size-b.result ≤ c.args.n = omega (arith, c.block_size-b.ensures) in
    omega (arith, rw add-mul at (mul-le-mul_right w i))

pub loop-k-preserved : goal.loop-k-preserved
loop-k-preserved c =
    let a = c.args in
    let p = a.piece.now in
    let w = p.frame.width in
    let i = 8 * c.loop-k.k in
    let b = c.block_size-b.result in
    let now : min i a.n ≡ i = omega arith in
    let next : min (8 * (c.loop-k.k + 1)) a.n ≡ i + b = omega (arith, c.block_size-b.ensures) in
    rw next (
      joined-turns _ w (λ i. length-table _ w) i b a.n a.out.now (omega (arith, c.block_size-b.ensures)) c.requires.out_len (rw now at c.loop-k.invariant.0)
          (c.green_block_in.ensures.value ∙ rows-from p.frame p.start p.readings.now a.a i b),
      c.green_block_in.ensures.same_room ∙ c.loop-k.invariant.1,
    )
