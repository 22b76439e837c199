use native.Mathlib.Nat.{mul-le-mul, mul-pos}
use Rattle.floats.proofs.Numbers.{numbers}
use Rattle.fusion.proofs.ShareLaws.{asks, told}
use Rattle.fusion.proofs.share.share.Goals as goal

pub quotient-requires : goal.quotient-requires
quotient-requires c = asks (search numbers) (search numbers) (search mul-pos) (search mul-le-mul)

pub returns : goal.returns
returns c = let q = c.quotient.ensures in (q.0, told q.1 (search numbers) (search numbers))
