use Rattle.std.proofs.Common.{◌∙◌, ap, arith, lit<}
use native.Mathlib.Nat.{div-le_of_le-mul}
use Rattle.floats.specs.Float.{float}
use Rattle.floats.proofs.Exact.{whole_is}
use Rattle.floats.proofs.Numbers.{less}
use Rattle.fusion.proofs.ShareLaws.{corrected}
use Rattle.fusion.proofs.share.quotient.Goals as goal

pub returns : goal.returns
returns c =
    let q = c.guess-q.ensures in
    let k = corrected _ _ _ c.exceeds.result (omega arith) q.1 q.2 c.exceeds.ensures in
    whole_is _ _ 16777216 (less _ q.0 (lit< tt) c.one_if.ensures k.0 ∙ ap float k.1) (div-le_of_le-mul _ (omega arith)) (lit< tt)
