-- The frame description, by its numbers. Assumes nothing.
use Rattle.std.specs.Prelude.{ℕ}
use Rattle.bayer.specs.declared.frame.Frame.{Frame}

-- with a smoothing that is named, document 02's choice (A.5): 0 or 1; strip calls refuse others
abbrev pub smoothed : (width height layout smoothing : ℕ) → Frame
smoothed width height layout smoothing = record { width = width; height = height; layout = layout; smoothing = smoothing }

-- a caller that names none gets 1
abbrev pub frame : (width height layout : ℕ) → Frame
frame width height layout = smoothed width height layout 1
