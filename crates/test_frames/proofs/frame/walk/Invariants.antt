-- The readings so far, and the state that the last of them came from. Assumes nothing.
use Rattle.std.proofs.Common.{◌+◌, ◌≡◌, ◌<◌, ℕ, get_or}
use Rattle.test_frames.specs.Generator.{reading, state_after}
use Rattle.test_frames.proofs.frame.walk.Given as goal

abbrev pub invariant-loop-sample : goal.invariant-loop-sample
invariant-loop-sample l = (l.state ≡ state_after l.fn.state l.sample-index) × ((t : ℕ) → t < l.sample-index → get_or l.out t 0 ≡ reading (state_after l.fn.state (t + 1)))
