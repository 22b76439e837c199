-- A turn looks at one column more. Assumes nothing.
use Rattle.std.proofs.Common.{refl}
use Rattle.lists.specs.Any.{any}
use Rattle.lists.specs.Table.{table}
use Rattle.lists.proofs.AnyLaws.{any-table}
use Rattle.remosaic.proofs.check.row_not_of_camera.Goals as goal

pub loop-j-init : goal.loop-j-init
unfolding any table
loop-j-init c = refl

pub loop-j-preserved : goal.loop-j-preserved
loop-j-preserved c = rw (any-table, c.loop-j.invariant, c.not_of_camera-found.ensures, c.sample.ensures)
