use Rattle.std.proofs.Common.{◌∙◌, arith}
use Rattle.green_row.proofs.DirectionLaws.{row-from-added}
use Rattle.green_row.proofs.fuse.fuse_in.Goals as goal

pub returns-clause-value : goal.returns-clause-value
returns-clause-value c = c.green_row.ensures ∙ row-from-added _ _ _ _ _ _ _ _ _ c.requires.odd_bound (omega arith) c.added.ensures.value
