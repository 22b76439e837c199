-- An accepted call fills the frame. Assumes nothing.
use Rattle.std.proofs.Common.{ap, sym, ◌∙◌}
use Rattle.bayer.proofs.RefusalLaws.{accepts}
use Rattle.test_frames.specs.Generator.{readings_after}
use Rattle.test_frames.proofs.NumberLaws.{walk-fits}
use Rattle.test_frames.proofs.frame.test_frame.Goals as goal

pub returns : goal.returns
returns c = let h = c.in_ok-walk_check.ensures in accepts h (c.walk.ensures ∙ ap (readings_after _) (walk-fits _ _ _ (sym h)))
