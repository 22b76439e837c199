-- A turn makes of the moves that are left half as many, each of them two. Assumes nothing.
use Rattle.std.proofs.Common.{arith, sym, ◌∙◌}
use Rattle.test_frames.proofs.JumpLaws.{halved, jump-is, moves-done, turns-less}
use Rattle.test_frames.proofs.jump.jump.Goals as goal

pub loop-left-smaller : goal.loop-left-smaller
loop-left-smaller c = turns-less 63 c.loop-left.left (omega arith) (omega arith)

pub loop-left-preserved : goal.loop-left-preserved
loop-left-preserved c =
    let l = c.loop-left in
    rw (c.odd_move-x.ensures, c.affine-c.ensures, c.affine-a.ensures) (l.invariant ∙ halved l.a l.c l.left l.x)

pub returns : goal.returns
returns c =
    let steps = sym (c.loop-left.invariant ∙ moves-done _ _ _ c.loop-left-test.false) in
    (steps, steps ∙ sym (jump-is _ _ (omega arith)))
