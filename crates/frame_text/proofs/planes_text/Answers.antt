-- The whole frame is one strip. Assumes nothing.
use Rattle.std.proofs.Common.{◌∙◌}
use Rattle.frame_text.proofs.FrameTextLaws.{printed_whole}
use Rattle.frame_text.proofs.planes_text.Goals as goal

pub returns : goal.returns
returns c =
    let q = c.requires in
    c.answer_text.ensures ∙ printed_whole c.args.frame c.args.mosaic.now q.mosaic_len.0 c.strip-answer.ensures q.red_len.0 q.red_len.1 q.red_len.2
