-- In an accepted call the row fits, and a jump leads to the state before it. Assumes nothing.
use Rattle.std.proofs.Common.{◌≤◌, ap₂, arith, sym, ◌∙◌}
use native.Mathlib.Nat.{mul-le-mul}
use Rattle.bayer.proofs.RefusalLaws.{accepts}
use Rattle.test_frames.specs.Generator.{readings_after}
use Rattle.test_frames.proofs.FrameLaws.{row_is}
use Rattle.test_frames.proofs.NumberLaws.{row_fits}
use Rattle.test_frames.proofs.frame.test_row.Goals as goal

pub overflow_mul-row : goal.overflow_mul-row
overflow_mul-row c =
    let f = row_fits _ _ _ _ (sym c.in_ok-row_check.ensures) in
    let inside : c.args.row ≤ 4096 = omega (arith, f.inside, f.low) in
    omega (arith, mul-le-mul inside f.narrow)

pub returns : goal.returns
returns c =
    let f = row_fits _ _ _ _ (sym c.in_ok-row_check.ensures) in
    accepts c.in_ok-row_check.ensures (c.walk.ensures ∙ ap₂ readings_after c.jump.ensures.0 f.long ∙ sym (row_is _ _ _ _ f.inside))
