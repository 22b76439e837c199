-- What was found says it of the entries so far. Assumes nothing.
use Rattle.std.proofs.Common.{◌≡◌, take}
use Rattle.lists.specs.Bound.{any_above}
use Rattle.lists.proofs.above.any_above.Given as goal

abbrev pub invariant-loop-x : goal.invariant-loop-x
invariant-loop-x l = l.found ≡ any_above l.limit (take l.x-index l.s)
