-- A frame that is not refused is walked, and its walk printed. Assumes nothing.
use Rattle.std.proofs.Common.{◌∙◌, sym, refl, arith, rules}
use Rattle.bayer.proofs.RefusalLaws.{delivers, number_positive}
use Rattle.test_frames.proofs.NumberLaws.{walk-passes}
use Rattle.test_bytes.proofs.OutputLaws.{named-fits, accepted_text}
use Rattle.test_bytes.proofs.answer.frame_answer.Goals as goal

pub overflow_mul-size : goal.overflow_mul-size
overflow_mul-size c = let h = named-fits c.args.frame (sym c.in_ok-named_check.ensures) in search rules

pub slice_bounds-mosaic-end : goal.slice_bounds-mosaic-end
slice_bounds-mosaic-end c = let h = named-fits c.args.frame (sym c.in_ok-named_check.ensures) in search rules

pub slice_bounds-readings-end : goal.slice_bounds-readings-end
slice_bounds-readings-end c = let h = named-fits c.args.frame (sym c.in_ok-named_check.ensures) in search rules

pub text_of_frame-requires-clause-whole : goal.text_of_frame-requires-clause-whole
text_of_frame-requires-clause-whole c = let h = named-fits c.args.frame (sym c.in_ok-named_check.ensures) in search rules

-- a walk of such a frame is not refused
pub returns-in_err-test_frame-clause-refused : goal.returns-in_err-test_frame-clause-refused
returns-in_err-test_frame-clause-refused c =
    let h = named-fits c.args.frame (sym c.in_ok-named_check.ensures) in
    let none = c.in_err-test_frame.ensures.answered ∙ walk-passes c.args.frame.width c.args.frame.height _ h.0 (search rules) in
    absurd (omega (arith, none, number_positive c.in_err-test_frame.field-0.0))

pub returns-clause-accepted : goal.returns-clause-accepted
returns-clause-accepted c =
    c.text_of_frame.ensures ∙ accepted_text c.args.frame c.args.seed (sym c.in_ok-named_check.ensures) c.requires (delivers c.in_ok-test_frame.ensures refl)
