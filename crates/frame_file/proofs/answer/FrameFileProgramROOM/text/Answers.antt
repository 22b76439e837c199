-- A malformed file prints the line of its refusal, and any other has a frame description. Assumes nothing.
use Rattle.std.proofs.Common.{sym, ap, ◌∙◌, arith}
use Rattle.plane_text.specs.Text.{refusal_line}
use Rattle.frame_file.proofs.AnswerLaws.{torn-line}
use Rattle.frame_file.proofs.FileLaws.{sized}
use Rattle.frame_file.proofs.answer.FrameFileProgramROOM.text.Goals as goal

pub returns-then-is_malformed : goal.returns-then-is_malformed
returns-then-is_malformed c =
    c.refusal.ensures.line ∙ ap refusal_line c.number.ensures ∙ sym (torn-line c.args.bytes.now (sym c.is_malformed.ensures ∙ c.if-is_malformed.true))

pub frame_at-requires : goal.frame_at-requires
frame_at-requires c = omega (arith, sized c.args.bytes.now (sym c.is_malformed.ensures ∙ c.if-is_malformed.false))
