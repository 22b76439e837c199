-- The three parts are the columns before the row, the row, and the columns after it. Assumes nothing.
use Rattle.std.proofs.Common.{arith}
use Rattle.green_row.proofs.ExtendedLaws.{from_parts}
use Rattle.green_row.proofs.extend.extend.Goals as goal

pub returns : goal.returns
returns c = from_parts c.args.row.now c.args.out.now (omega arith) (omega arith) (omega arith) c.edge.ensures c.copy.ensures c.edge-2.ensures
