-- Whether it was found in the columns so far. Assumes nothing.
use Rattle.std.proofs.Common.{◌≡◌}
use Rattle.lists.specs.Any.{any}
use Rattle.lists.specs.Table.{table}
use Rattle.remosaic.specs.MosaicBack.{not_of_camera}
use Rattle.remosaic.specs.Rows.{observed_in}
use Rattle.remosaic.proofs.check.row_not_of_camera.Given as goal

abbrev pub invariant-loop-j : goal.invariant-loop-j
invariant-loop-j l = l.found ≡ any not_of_camera (table (observed_in l.row.odd l.row.green.now l.row.other.now) l.j)
