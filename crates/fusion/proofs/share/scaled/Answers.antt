use Rattle.floats.proofs.Literals.{scale-is}
use Rattle.fusion.proofs.ShareLaws.{scaled-law}
use Rattle.fusion.proofs.share.scaled.Goals as goal

pub returns : goal.returns
returns c = scaled-law c.requires scale-is
