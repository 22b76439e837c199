-- The columns so far. Assumes nothing.
use Rattle.std.proofs.Common.{◌/◌, ◌≡◌, ◌<◌, ℕ, get_or}
use Rattle.remosaic.specs.Rows.{observed_in}
use Rattle.remosaic.proofs.back.row_back.Given as goal

abbrev pub invariant-loop-j : goal.invariant-loop-j
invariant-loop-j l = (k : ℕ) → k < l.j → get_or l.out k 0 ≡ observed_in l.row.odd l.row.green.now l.row.other.now k / 16
