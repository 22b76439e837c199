-- The differences so far. Assumes nothing.
use Rattle.std.proofs.Common.{◌≡◌, ◌<◌, ◌*◌, ℕ, pos, get_or}
use Rattle.fill_rows.specs.FillRow.{colour_difference_at}
use Rattle.fill_rows.proofs.edge.differences.Given as goal

abbrev pub invariant-loop-k : goal.invariant-loop-k
invariant-loop-k l = (j : ℕ) → j < l.k → get_or l.out j (pos 0) ≡ colour_difference_at l.x l.g (2 * j)
