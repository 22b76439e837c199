-- It was not found in the rows so far. Assumes nothing.
use Rattle.std.proofs.Common.{◌≡◌, false}
use Rattle.lists.specs.Any.{any}
use Rattle.bayer.specs.Planes.{three_planes}
use Rattle.remosaic.specs.MosaicBack.{not_of_camera, observed_rows}
use Rattle.remosaic.proofs.check.rows_not_of_camera.Given as goal

abbrev pub invariant-loop-i : goal.invariant-loop-i
invariant-loop-i l = any not_of_camera (observed_rows l.planes.frame l.planes.a l.i (three_planes l.planes.red.now l.planes.green.now l.planes.blue.now)) ≡ false
