-- Assumes nothing.
use Rattle.std.proofs.Common.{◌/◌, refl, arith, ◌∙◌}
use Rattle.lists.proofs.JoinedLaws.{joined-none, joined-turn, joined-done, parts-length}
use Rattle.remosaic.proofs.RowLaws.{row-table}
use Rattle.remosaic.proofs.back.rows_back.Goals as goal

pub loop-i-init : goal.loop-i-init
loop-i-init c = (joined-none _ _ (parts-length _ _) _, refl)

pub loop-i-preserved : goal.loop-i-preserved
loop-i-preserved c =
    let readings = c.row_back.ensures ∙ row-table (λ x. x / 16) c.row.ensures.width c.row.ensures.samples in
    joined-turn _ _ (parts-length _ _) c.loop-i.i c.args.planes.now.n _ c.loop-i-test.true c.requires c.loop-i.invariant readings

pub returns : goal.returns
returns c = c.loop-i.invariant.0 ∙ joined-done _ _ (parts-length _ _) c.loop-i.i c.args.planes.now.n _ (omega arith) (omega arith) c.requires
