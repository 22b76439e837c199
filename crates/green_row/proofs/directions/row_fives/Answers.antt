-- Each call fills one of the four parts. Assumes nothing.
use Rattle.std.proofs.Common.{◌+◌, ◌*◌, arith}
use Rattle.lists.proofs.JoinedLaws.{four-parts}
use Rattle.gbtf.specs.Weights.{weights_of}
use Rattle.green_row.specs.Directions.{five_in}
use Rattle.green_row.proofs.DirectionLaws.{five-after, five-before}
use Rattle.green_row.proofs.directions.row_fives.Goals as goal

pub returns : goal.returns
returns c =
    let a = c.args in
    let ws = weights_of a.smoothing in
    four-parts (λ k i. five_in ws a.s a.dh.now a.dv.now k (2 * i + a.side)) a.n a.f.now c.requires.4
    c.fives_after.ensures (λ j. five-after ws 1 a.dh.now (omega arith))
    c.fives_before.ensures (λ j. five-before ws 1 a.dh.now (omega arith))
    c.fives_before-2.ensures (λ j. five-before ws a.s a.dv.now (omega arith))
    c.fives_after-2.ensures (λ j. five-after ws a.s a.dv.now (omega arith))
