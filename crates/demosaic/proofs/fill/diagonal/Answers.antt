-- It adds up in another order than the definition. Assumes nothing.
use Rattle.std.proofs.Common.{◌∙◌, arith}
use mir.Syntax.{w32}
use Rattle.whole.proofs.Signed.{E, int, ◌⊕◌, value}
use Rattle.whole.proofs.Pairs.{four-terms}
use Rattle.demosaic.proofs.FillLaws.{shift-fills}
use Rattle.demosaic.proofs.fill.diagonal.Goals as goal

abbrev sum : goal.After-lifted → E w32
sum c = int c.args.nw 1048560 c.requires.0 ⊕ int c.args.ne 1048560 c.requires.1 ⊕ (int c.args.sw 1048560 c.requires.2 ⊕ int c.args.se 1048560 c.requires.3)

pub returns : goal.returns
returns c =
    let a = c.args in
    shift-fills 2 a.g _ _ (value (sum c) tt ∙ four-terms a.nw a.ne a.sw a.se) c.lifted.ensures (omega arith) (omega arith)
