-- The samples so far. Assumes nothing.
use Rattle.std.proofs.Common.{◌≡◌, ◌<◌, ℕ, get_or}
use Rattle.fill_rows.specs.HalfFill.{pair_in}
use Rattle.fill_rows.proofs.half.pairs.Given as goal

abbrev pub invariant-loop-k : goal.invariant-loop-k
invariant-loop-k l = (j : ℕ) → j < l.k → get_or l.out j 0 ≡ pair_in l.g l.a l.b j
