-- The half rows so far. Assumes nothing.
use Rattle.lists.proofs.JoinedLaws.{Handed}
use Rattle.half_rows.specs.HalfRow.{places}
use Rattle.blend_rows.proofs.FetchLaws.{fetched, fetched-length}
use Rattle.blend_rows.proofs.fetch.fetch_halves.Given as goal

abbrev pub invariant-loop-r : goal.invariant-loop-r
invariant-loop-r l = record {
  even : Handed (fetched l.piece l.v 0) (places l.piece.frame.width) (fetched-length l.piece l.v 0) l.r l.initial.e l.e;
  odd : Handed (fetched l.piece l.v 1) (places l.piece.frame.width) (fetched-length l.piece l.v 1) l.r l.initial.o l.o;
}
