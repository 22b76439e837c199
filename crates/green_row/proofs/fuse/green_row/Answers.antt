use Rattle.std.proofs.Common.{◌≡◌, ◌∙◌, ap, length}
use Rattle.lists.specs.Table.{table}
use Rattle.green_row.proofs.RowHalves.{green-from-halves}
use Rattle.green_row.proofs.fuse.green_row.Goals as goal

pub returns : goal.returns
returns c =
    let a = c.args in
    let l : length a.out.now ≡ length a.x.now = c.requires.odd_bound.4 in
    c.interleave.ensures ∙ ap (table _) l
    ∙ green-from-halves a.x.now a.r.now a.odd c.requires.odd_bound.0 (length a.p.now) (length a.q.now) c.requires.p_len.0 c.requires.p_len.1 c.estimated.ensures c.observed.ensures
