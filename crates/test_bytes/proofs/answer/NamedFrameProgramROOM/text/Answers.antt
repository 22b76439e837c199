-- Nine bytes print the text of their frame, and all others the line of a refusal. Assumes nothing.
use Rattle.std.proofs.Common.{sym, ap, ◌∙◌}
use mathlib.Core.Path.{ap₂}
use Rattle.bayer.specs.declared.frame.Frame.{Frame}
use Rattle.bayer.specs.Refusal.{first_of}
use Rattle.plane_text.specs.Text.{refusal_line}
use Rattle.frame_text.specs.FrameText.{frame_text}
use Rattle.test_frames.specs.TestFrame.{test_frame}
use Rattle.test_bytes.specs.TestBytes.{named_cases}
use Rattle.test_bytes.specs.LongInput.{not-nine}
use Rattle.test_bytes.proofs.OutputLaws.{nine_output}
use Rattle.test_bytes.proofs.answer.NamedFrameProgramROOM.text.Goals as goal

pub returns-then-bytes-ne9 : goal.returns-then-bytes-ne9
returns-then-bytes-ne9 c = c.refusal.ensures.line ∙ ap refusal_line c.number.ensures ∙ sym (not-nine c.args.bytes.now c.if-bytes-ne9.true)

pub returns-in-Ok : goal.returns-in-Ok
returns-in-Ok c =
    c.in-Ok.ensures.accepted
    ∙ ap₂ (λ (f : Frame) seed. frame_text (first_of (named_cases f)) f (test_frame seed f.width f.height)) c.frame_at.ensures c.four_bytes.ensures
    ∙ sym (nine_output c.args.bytes.now c.if-bytes-ne9.false)

pub returns-in-Err : goal.returns-in-Err
returns-in-Err c =
    c.refusal-in-Err.ensures.line
    ∙ ap refusal_line c.number-in-Err.ensures
    ∙ c.in-Err.ensures.refused
    ∙ ap₂ (λ (f : Frame) seed. frame_text (first_of (named_cases f)) f (test_frame seed f.width f.height)) c.frame_at.ensures c.four_bytes.ensures
    ∙ sym (nine_output c.args.bytes.now c.if-bytes-ne9.false)
