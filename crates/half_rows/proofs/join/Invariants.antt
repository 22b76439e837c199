-- The columns so far. Assumes nothing.
use Rattle.std.proofs.Common.{◌+◌, ◌*◌, ◌≡◌, ◌<◌, ℕ, get_or}
use Rattle.half_rows.proofs.join.Given as goal

abbrev pub invariant-loop-k : goal.invariant-loop-k
invariant-loop-k l = record {
  even : (j : ℕ) → j < l.k → get_or l.out (2 * j) 0 ≡ get_or l.e j 0;
  odd : (j : ℕ) → j < l.k → get_or l.out (2 * j + 1) 0 ≡ get_or l.o j 0;
}
