-- The pixels so far. Assumes nothing.
use Rattle.std.proofs.Common.{◌≡◌, ◌*◌, ◌<◌, ℕ, pos, ◌+ℤ◌, get_or}
use Rattle.whole.specs.Clamp.{clamp}
use Rattle.green_row.proofs.fuse.estimated.Given as goal

abbrev pub invariant-loop-k : goal.invariant-loop-k
invariant-loop-k l = (j : ℕ) → j < l.k → get_or l.out j 0 ≡ clamp (pos (16 * get_or l.x (2 * j) 0) +ℤ get_or l.r j (pos 0))
