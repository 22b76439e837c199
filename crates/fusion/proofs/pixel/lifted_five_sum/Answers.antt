use Rattle.std.proofs.Common.{◌*◌, refl}
use Rattle.fusion.proofs.LiftLaws.{lifted-is}
use Rattle.fusion.proofs.pixel.lifted_five_sum.Goals as goal

pub returns : goal.returns
returns c = rw c.from.ensures (lifted-is c.args.d.five (32768 * c.args.total) c.args.total c.requires.0 c.requires.1 refl)
