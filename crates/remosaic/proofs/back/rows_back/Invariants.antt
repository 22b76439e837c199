-- The rows so far, in a mosaic that held others. Assumes nothing.
use Rattle.std.proofs.Common.{ℕ, ◌/◌}
use Rattle.lists.proofs.JoinedLaws.{Handed, parts, parts-length}
use Rattle.bayer.specs.Planes.{three_planes}
use Rattle.remosaic.specs.MosaicBack.{observed}
use Rattle.remosaic.proofs.back.rows_back.Given as goal

abbrev pub invariant-loop-i : goal.invariant-loop-i
invariant-loop-i l =
    let p = l.planes in
    let reading : ℕ → ℕ → ℕ = λ i j. observed p.frame p.a (three_planes p.red.now p.green.now p.blue.now) i j / 16 in
    Handed (parts reading p.frame.width) p.frame.width (parts-length reading p.frame.width) l.i l.initial.mosaic l.mosaic
