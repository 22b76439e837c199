use Rattle.std.proofs.Common.{arith}
use Rattle.std.proofs.lemmas.Int.{ints}
use Rattle.blend.specs.Blend.{axis}
use Rattle.blend.proofs.axis.estimate.Goals as goal

pub returns : goal.returns
unfolding axis
returns c = omega (arith, ints)
