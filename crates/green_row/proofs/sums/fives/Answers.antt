use Rattle.std.proofs.Common.{◌∙◌, length}
use Rattle.green_row.proofs.ReadLaws.{fives-apart}
use Rattle.green_row.proofs.sums.fives.Goals as goal

pub returns : goal.returns
returns c = let a = c.args in c.fives_across.ensures ∙ fives-apart a.weights a.d.now a.step a.at (length a.out.now) c.requires
