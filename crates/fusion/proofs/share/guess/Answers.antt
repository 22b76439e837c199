use Rattle.std.proofs.Common.{arith, lit<}
use Rattle.floats.specs.Float.{val}
use Rattle.floats.proofs.Exact.{whole_is}
use Rattle.fusion.proofs.ShareLaws.{guess-law}
use Rattle.fusion.proofs.share.guess.Goals as goal

pub returns : goal.returns
returns c =
    let a = c.args in
    let p = c.requires in
    let g = guess-law (val a.z) (val a.y) c.scaled.result a.y c.scaled.ensures p.1.whole p.2 p.3 p.1.most in
    let w = whole_is _ g.0 16777217 g.4 (omega (arith, g.2, g.3)) (lit< tt) in
    (w.0, rw w.1 g.1, rw w.1 g.2)
