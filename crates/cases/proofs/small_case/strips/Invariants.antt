-- `cases::small_case::strips` stays in the room. Assumes nothing.
use Rattle.std.proofs.Common.{◌≤◌}
use Rattle.cases.proofs.small_case.strips.Given as goal

abbrev pub invariant-loop-first : goal.invariant-loop-first
invariant-loop-first l = l.at ≤ 1485

abbrev pub invariant-loop-count : goal.invariant-loop-count
invariant-loop-count l = l.at ≤ 1485
