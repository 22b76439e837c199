use Rattle.std.proofs.Common.{◌≡◌, refl, ◌++◌, ℕ, ◌+◌, ◌-◌, ◌*◌, ◌≤◌, List, ℤ, arith}
use Rattle.std.proofs.Math.Nat.{le_refl, mul-le-mul}
use Rattle.lists.specs.Bound.{AllAtMost}
use Rattle.lists.specs.Part.{part}
use Rattle.lists.specs.Table.{table, joined}
use Rattle.bayer.proofs.ParityLaws.{starts-below}
use Rattle.gbtf.specs.Weights.{scale, weights_of}
use Rattle.green_rule.specs.Greens.{greens}
use Rattle.green_row.specs.AlongAxis.{difference_in, gradient_in}
use Rattle.green_row.specs.Extended.{extended_row}
use Rattle.green_row.proofs.BufferBounds.{extended-at-most}
use Rattle.green_blocks.specs.declared.rows.Block.{Block}
use Rattle.green_blocks.proofs.GreenBlock.{both-apart, BlockBuffers, gv-length, block-fused, in-range}
use Rattle.green_blocks.proofs.block.green_block.Goals as goal

-- the places of a block's rows are few
module _ (k : Block) where
  abbrev s : ℕ
  s = k.piece.frame.width + 14

  abbrev m : ℕ
  m = k.rows * s

  sizes : (2 ≤ s) × (s ≤ 4110) × (m ≤ 32880)
  sizes =
      let f = (k.lent 0 k.some).frame in
      let n : s ≤ 4110 = omega (arith, f.narrow) in
      (omega arith, n, mul-le-mul k.few n)

  -- what its buffers hold
  module _ {x : List ℕ} (x-is : x ≡ joined (extended_row k.piece.frame k.piece.start k.piece.readings.now k.first s) (k.rows + 12)) where
    small : AllAtMost 4095 k.piece.readings.now → AllAtMost 4095 x
    small range = rw x-is (extended-at-most k.piece.frame k.piece.start k.piece.readings.now k.first s (k.rows + 12) range)

    holds : {d : List ℤ} {g : List ℕ} → d ≡ table (difference_in 1 (part (5 * s - 2) (m + 2 * s + 4) x)) (m + 2 * s) ++ table (difference_in s x) (m + 8 * s)
        → g ≡ table (gradient_in 1 (part 0 (m + 2 * s) d)) (m + 2 * s - 4) ++ table (gradient_in s (part (m + 2 * s) (m + 8 * s) d)) (m + 4 * s)
        → BlockBuffers k.piece.frame k.piece.start k.piece.readings.now k.first k.rows s x d g
    holds d-is g-is = record { lent = k.lent; some = k.some; few = k.few; wide = refl; x-is = x-is; d-is = d-is; g-is = g-is }

pub all_differences-requires : goal.all_differences-requires
all_differences-requires c =
    let k = c.args.block.now in
    let h = sizes k in
    (h.0, h.1, h.2, omega arith, omega arith, small k c.fetch.ensures c.requires.range)

pub all_gradients-requires-clause-le_s : goal.all_gradients-requires-clause-le_s
all_gradients-requires-clause-le_s c = let h = sizes c.args.block.now in (h.0, h.1, h.2, omega arith, omega arith)

pub all_gradients-requires-clause-apart : goal.all_gradients-requires-clause-apart
all_gradients-requires-clause-apart c = let k = c.args.block.now in both-apart (s k) (m k) c.fetch.new.x (small k c.fetch.ensures c.requires.range) c.all_differences.ensures

pub column_sums-requires : goal.column_sums-requires
column_sums-requires c =
    let k = c.args.block.now in
    (omega (arith, c.starts_green-odd.ensures, starts-below k.piece.frame.layout k.first), le_refl _, (sizes k).1, k.few, gv-length (holds k c.fetch.ensures c.all_differences.ensures c.all_gradients.ensures), omega arith)

pub invariant_of-buffers : goal.invariant_of-buffers
invariant_of-buffers c =
    let k = c.args.block.now in
    record { in_range = in-range (holds k c.fetch.ensures c.all_differences.ensures c.all_gradients.ensures) c.requires.range (rw c.starts_green-odd.ensures at c.column_sums.ensures) }

pub returns-clause-value : goal.returns-clause-value
unfolding greens
returns-clause-value c =
    let k = c.args.block.now in
    block-fused (holds k c.fetch.ensures c.all_differences.ensures c.all_gradients.ensures) (rw c.starts_green-odd.ensures at c.column_sums.ensures) scale (weights_of k.piece.frame.smoothing)
    c.fuse_rows.ensures.value
