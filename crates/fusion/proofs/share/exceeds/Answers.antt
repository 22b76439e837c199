use Rattle.floats.specs.Float.{val}
use Rattle.fusion.proofs.ShareLaws.{exceeds-law}
use Rattle.fusion.proofs.share.exceeds.Goals as goal

pub returns : goal.returns
returns c =
    let a = c.args in
    let p = c.requires in
    exceeds-law (val a.q) (val a.z) (val a.y) a.q c.scaled.result a.y p.0.whole c.scaled.ensures p.2.whole p.0.most p.1.most p.2.most
