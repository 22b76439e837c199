use Rattle.std.proofs.Common.{◌∙◌, ap, ◌+◌, ◌/◌, length}
use Rattle.lists.specs.Table.{table}
use Rattle.gbtf.specs.Direction.{total}
use Rattle.gbtf.specs.Weights.{scale, weights_of}
use Rattle.green_row.proofs.DirectionLaws.{sums-fit, fives-fit, added-is, added-within}
use Rattle.green_row.proofs.fuse.added.Goals as goal

pub fuse_row-requires-clause-all_at_most : goal.fuse_row-requires-clause-all_at_most
fuse_row-requires-clause-all_at_most c =
    let a = c.args in
    let b = a.buffers.now in
    let ws = weights_of a.smoothing in
    let n = length a.out.now in (
      sums-fit ws b.stride a.odd n b.dh.now b.dv.now b.gh.now (c.sums.ensures ∙ ap (table _) c.requires.t_len) b.in_range.gh-within,
      b.in_range.tv-within,
      fives-fit ws b.stride a.odd n b.dh.now b.dv.now b.gh.now (c.total.ensures ∙ ap total c.weights_of-weights.ensures.value) c.row_fives.ensures b.in_range.dh-within b.in_range.dv-within,
    )

pub returns-clause-value : goal.returns-clause-value
returns-clause-value c =
    let a = c.args in
    let b = a.buffers.now in
    added-is (weights_of a.smoothing) b.stride a.odd (length a.out.now) b.dh.now b.dv.now b.gh.now c.requires.odd_bound ((a.w + 1) / 2) b.tv.now scale
    (c.total.ensures ∙ ap total c.weights_of-weights.ensures.value) (c.sums.ensures ∙ ap (table _) c.requires.t_len) c.row_fives.ensures c.fuse_row.ensures

pub returns-clause-range : goal.returns-clause-range
returns-clause-range c =
    let a = c.args in
    let b = a.buffers.now in
    added-within (weights_of a.smoothing) b.stride a.odd (length a.out.now) b.dh.now b.dv.now b.gh.now c.requires.odd_bound ((a.w + 1) / 2) b.tv.now
    (c.total.ensures ∙ ap total c.weights_of-weights.ensures.value) (c.sums.ensures ∙ ap (table _) c.requires.t_len) c.row_fives.ensures c.fuse_row.ensures
    (rw c.weights_of-weights.ensures.value at c.weights_of-weights.ensures.result_nonzero.0) b.in_range
