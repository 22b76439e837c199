use Rattle.floats.specs.Float.{val}
use Rattle.floats.proofs.Literals.{literals, values}
use Rattle.floats.proofs.Numbers.{numbers}
use Rattle.fusion.proofs.MeanLaws.{mean-fits, mean-is}
use Rattle.fusion.proofs.mean.mean.Goals as goal

pub float_to_int-result : goal.float_to_int-result
float_to_int-result c =
    let p = c.requires in
    mean-fits (val c.args.n) (val c.args.u) p.2 p.1.most p.3 (search (numbers, literals)) (search (numbers, literals)) (simp values) (simp values)

pub returns : goal.returns
returns c =
    let p = c.requires in
    mean-is (val c.args.n) (val c.args.u) p.2 p.1.most p.3 (search (numbers, literals)) (search (numbers, literals)) (simp values) (simp values)
