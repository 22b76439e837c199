use Rattle.std.proofs.Common.{◌-◌, ◌<◌, ◌∙◌, sym, refl, arith}
use Rattle.lists.proofs.PartLaws.{row_is}
use Rattle.lists.proofs.JoinedLaws.{part-within}
use Rattle.strip_rows.proofs.GreenAmong.{green-length, among-inner}
use Rattle.strip_rows.proofs.colours.Strip.greens.Goals as goal

-- a row of the strip lies in its greens
pub slice_bounds-result-end : goal.slice_bounds-result-end
slice_bounds-result-end c =
    let s = c.args.self.now in
    let inside : c.args.v - s.first < s.rows = omega arith in
    omega (arith, green-length s.readable s.greens, part-within s.piece.frame.width inside)

pub returns-then-v-self-2 : goal.returns-then-v-self-2
returns-then-v-self-2 c = row_is _ _ _ refl ∙ sym (among-inner _ _ _ _ _ _ _ c.if-v-self.false c.if-v-self-2.true)
