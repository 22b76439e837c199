-- Each turn halves the moves that are left, and there are at most 64 turns, by `turns-most`. Assumes nothing.
use Rattle.std.proofs.Common.{◌≡◌}
use Rattle.test_frames.specs.Generator.{affine, iterate, state_after}
use Rattle.test_frames.proofs.JumpLaws.{turns}
use Rattle.test_frames.proofs.jump.jump.Given as goal

abbrev pub invariant-loop-left : goal.invariant-loop-left
invariant-loop-left l = state_after l.fn.state l.fn.r ≡ iterate (affine l.a l.c) l.left l.x

abbrev pub decreases-loop-left : goal.decreases-loop-left
decreases-loop-left l = turns 64 l.left
