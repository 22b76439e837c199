-- The columns so far. Assumes nothing.
use Rattle.std.proofs.Common.{◌*◌, ◌≡◌, ◌<◌, ℕ, get_or}
use Rattle.half_rows.proofs.observed.Given as goal

abbrev pub invariant-loop-k : goal.invariant-loop-k
invariant-loop-k l = (j : ℕ) → j < l.k → get_or l.out j 0 ≡ 16 * get_or l.x (2 * j) 0
