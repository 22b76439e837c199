-- The code's table is the definition's. Assumes nothing.
use Rattle.std.proofs.Common.{ap, get_or}
use Rattle.blend.specs.Logistic.{logistic}
use Rattle.blend.proofs.logistic.weight.Goals as goal

pub returns : goal.returns
unfolding logistic
returns c = ap (λ k. get_or logistic k 0) c.from.ensures
