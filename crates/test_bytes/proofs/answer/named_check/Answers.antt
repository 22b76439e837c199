-- Sizes that pass have a product. Assumes nothing.
use Rattle.std.proofs.Common.{sym, arith}
use native.Mathlib.Nat.{mul-le-mul}
use Rattle.bayer.proofs.ConditionLaws.{frame-fits}
use Rattle.test_bytes.proofs.answer.named_check.Goals as goal

pub overflow_mul-frame : goal.overflow_mul-frame
overflow_mul-frame c =
    let w = frame-fits c.args.frame (sym c.in_ok-frame_check.ensures) in omega (arith, mul-le-mul w.narrow w.low)
