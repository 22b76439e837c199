-- The pixels so far. Assumes nothing.
use Rattle.std.proofs.Common.{◌≡◌, ◌<◌, ℕ, pos, get_or}
use Rattle.gbtf.specs.Weights.{scale}
use Rattle.green_row.specs.Directions.{direction_from}
use Rattle.green_row.specs.GreenIn.{fused_by}
use Rattle.green_row.proofs.fuse.fuse_row.Given as goal

abbrev pub invariant-loop-i : goal.invariant-loop-i
invariant-loop-i l = (j : ℕ) → j < l.i → get_or l.out j (pos 0) ≡ fused_by scale l.total (direction_from l.n l.h l.t l.tv l.f j)
