-- What the call says of row i is said of the frame's observed samples there. Assumes nothing.
use Rattle.std.proofs.Common.{ap, refl, sym, ◌∙◌}
use Rattle.lists.specs.Any.{any}
use Rattle.lists.specs.Table.{joined}
use Rattle.lists.proofs.AnyLaws.{any-joined, joined-stop}
use Rattle.remosaic.specs.MosaicBack.{not_of_camera}
use Rattle.remosaic.proofs.RowLaws.{row-table}
use Rattle.remosaic.proofs.check.rows_not_of_camera.Goals as goal

pub loop-i-init : goal.loop-i-init
unfolding any joined
loop-i-init c = refl

pub returns-then-row_not_of_camera : goal.returns-then-row_not_of_camera
returns-then-row_not_of_camera c =
    let found = ap (any not_of_camera) (row-table (λ x. x) c.row.ensures.width c.row.ensures.samples) in
    sym (joined-stop not_of_camera _ c.loop-i.i c.args.planes.now.n c.loop-i-test.true (sym (c.if-row_not_of_camera.ensures ∙ found)))

pub loop-i-preserved : goal.loop-i-preserved
loop-i-preserved c =
    let none = ap (any not_of_camera) (row-table (λ x. x) c.row.ensures.width c.row.ensures.samples) in
    rw (any-joined, c.loop-i.invariant) (sym (c.if-row_not_of_camera.ensures ∙ none))
