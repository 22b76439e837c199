-- The size fits, as the frame does; and where 5 is passed the planes are as long as they are to be. Assumes nothing.
use Rattle.std.proofs.Common.{arith, sym, ◌≤◌}
use native.Mathlib.Nat.{mul-le-mul}
use Rattle.bayer.specs.Condition.{frame_cases, rows_cases}
use Rattle.bayer.proofs.RefusalLaws.{off-append}
use Rattle.bayer.proofs.ConditionLaws.{frame-fits, rows_fit}
use Rattle.remosaic.proofs.NumberLaws.{rows-lent}
use Rattle.remosaic.proofs.check.mosaic_back_check.Goals as goal

pub overflow_mul-size : goal.overflow_mul-size
overflow_mul-size c =
    let f = c.args.frame in
    let o = off-append (frame_cases f) (rows_cases f c.args.a c.args.n) (sym c.in_ok-rows_check.ensures) in
    let few : c.args.n ≤ 4096 = omega (arith, rows_fit f c.args.a c.args.n o.1, (frame-fits f o.0).low) in
    omega (arith, mul-le-mul few (frame-fits f o.0).narrow)

pub invariant_of-planes : goal.invariant_of-planes
invariant_of-planes c = record { lent = rows-lent _ _ _ _ (sym c.in_ok-rows_check.ensures) (sym c.if-planes_misfit.ensures) }
