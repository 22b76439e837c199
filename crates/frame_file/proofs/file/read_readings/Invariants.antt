-- The readings so far. Assumes nothing.
use Rattle.std.proofs.Common.{◌≡◌, ℕ, ◌+◌, ◌*◌, ◌<◌, get_or}
use Rattle.frame_bytes.specs.FrameBytes.{big_endian}
use Rattle.frame_file.proofs.file.read_readings.Given as goal

abbrev pub invariant-loop-k : goal.invariant-loop-k
invariant-loop-k l = (j : ℕ) → j < l.k → get_or l.out j 0 ≡ big_endian l.bytes (10 + 2 * j) 2
