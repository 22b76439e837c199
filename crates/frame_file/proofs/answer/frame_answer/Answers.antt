-- The readings are those of the file, and are printed as its frame. Assumes nothing.
use Rattle.std.proofs.Common.{◌*◌, ◌≡◌, length, sym, ◌∙◌, rules}
use mathlib.Core.Path.{ap₂}
use Rattle.bayer.specs.declared.frame.Frame.{Frame}
use Rattle.frame_text.specs.FrameText.{frame_text, whole_number}
use Rattle.frame_file.proofs.FileLaws.{frame_sized, readings-are}
use Rattle.frame_file.proofs.AnswerLaws.{frame-lines}
use Rattle.frame_file.proofs.answer.frame_answer.Goals as goal

pub slice_bounds-readings-end : goal.slice_bounds-readings-end
slice_bounds-readings-end c = let h = frame_sized _ _ c.requires.well_formed c.requires.described in search rules

pub read_readings-requires : goal.read_readings-requires
read_readings-requires c = let h = frame_sized _ _ c.requires.well_formed c.requires.described in search rules

pub text_of_frame-requires-clause-whole : goal.text_of_frame-requires-clause-whole
text_of_frame-requires-clause-whole c = let h = frame_sized _ _ c.requires.well_formed c.requires.described in search rules

pub returns : goal.returns
returns c =
    let h = frame_sized _ _ c.requires.well_formed c.requires.described in
    let whole : length c.read_readings.new.out ≡ c.args.frame.width * c.args.frame.height = search rules in
    let read = readings-are _ _ _ c.requires.described c.read_readings.ensures whole in
    c.text_of_frame.ensures ∙ ap₂ (λ (f : Frame) r. frame_text (whole_number f r) f r) c.requires.described read ∙ sym (frame-lines _ c.requires.well_formed)
