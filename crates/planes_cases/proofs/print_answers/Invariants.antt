-- `print_answers` ends, since each input that it reads leaves less of the bytes. Assumes nothing.
use Rattle.std.proofs.Common.{length}
use Rattle.planes_cases.proofs.print_answers.Given as goal

abbrev pub decreases-loop-rest : goal.decreases-loop-rest
decreases-loop-rest g l = length l.rest
