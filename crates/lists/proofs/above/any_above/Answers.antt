-- One entry more. Assumes nothing.
use Rattle.std.proofs.Common.{refl}
use Rattle.lists.specs.Any.{any}
use Rattle.lists.proofs.AnyLaws.{any_more}
use Rattle.lists.proofs.above.any_above.Goals as goal

pub loop-x-init : goal.loop-x-init
unfolding any
loop-x-init c = refl

pub loop-x-preserved : goal.loop-x-preserved
loop-x-preserved c = rw (any_more _ _ _ 0 c.loop-x-test.true, c.loop-x.invariant) refl
