-- The places so far. Assumes nothing.
use Rattle.std.proofs.Common.{◌+◌, ◌≡◌, ◌<◌, ℕ, get_or}
use Rattle.half_rows.specs.HalfRow.{half_column}
use Rattle.half_rows.proofs.halves.edge.Given as goal

abbrev pub invariant-loop-k : goal.invariant-loop-k
invariant-loop-k l = record {
  even : (j : ℕ) → j < l.k → get_or l.e j 0 ≡ half_column 0 l.row (l.from + j);
  odd : (j : ℕ) → j < l.k → get_or l.o j 0 ≡ half_column 1 l.row (l.from + j);
}
