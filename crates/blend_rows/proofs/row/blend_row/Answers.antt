use Rattle.std.proofs.Common.{◌≡◌, ◌+◌, ◌*◌, ◌-◌, ◌/◌, ◌∙◌, ◌++◌, ℕ, List, refl, ap, ap₂, arith, length, get_or, take, drop}
use Rattle.lists.specs.Table.{table}
use Rattle.lists.proofs.PartLaws.{get_or-from}
use Rattle.half_rows.specs.HalfRow.{interleaved}
use Rattle.blend_rows.specs.BlendIn.{blend_in}
use Rattle.blend_rows.proofs.RoomLaws.{lent_length, front-table}
use Rattle.blend_rows.proofs.row.blend_row.Goals as goal

from-none : (n : ℕ) (l : List ℕ) → take n l ≡ take (n - 0) l
from-none n l = let e : n ≡ n - 0 = omega arith in ap (λ i. take i l) e

pub returns-clause-value : goal.returns-clause-value
returns-clause-value c =
    let a = c.args.around in
    let room = c.args.room.now in
    let w = length c.args.out.now in
    let n = (w + 1 - a.side) / 2 in
    let green = blend_in a.places a.side a.own.now a.beside.now in
    let m = c.half_greens.new.q in
    let l = lent_length n room.other_half.now (omega arith) m c.half_greens.auto.q in
    c.interleaved.ensures
    ∙ ap₂ (λ p q. table (interleaved a.side p q) w)
    (from-none n _ ∙ front-table green green n room.half.now (omega arith) c.half_greens.ensures (λ k _. refl))
    (from-none (w - n) _ ∙ front-table _ (λ k. 16 * get_or a.beside.now (1 + k) 0) (w - n) (m ++ drop (n - 0) room.other_half.now) (omega (arith, l)) c.scaled.ensures
    (λ k h. ap (λ i. 16 * i) (get_or-from 1 a.beside.now k (1 + k) 0 (omega (arith, a.one)) refl)))
