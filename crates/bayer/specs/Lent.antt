-- What is lent of a frame: readings of whole rows, from row `first` on. Assumes nothing.
use Rattle.std.specs.Prelude.{ℕ, ◌+◌, ◌-◌, ◌*◌, ◌≤◌, ◌<◌}
use Rattle.std.proofs.Math.IntN.{sub_ℕ}
use Rattle.bayer.specs.declared.frame.Frame.{Frame}
use Rattle.bayer.specs.Mirror.{mirror}
use Rattle.bayer.specs.Condition.{FrameFits}

-- so many of a frame that is not refused that rows v − 6 to v + 6 of its continuation are among them: green of row v is worked out from these
pub record Lent (f : Frame) (first length v : ℕ) : Type 0 where
  pub frame : FrameFits f
  pub row : v < f.height
  pub start : (r : ℕ) → r < 13 → first ≤ mirror f.height (sub_ℕ (v + r) 6)
  pub end : (r : ℕ) → r < 13 → (mirror f.height (sub_ℕ (v + r) 6) - first + 1) * f.width ≤ length
