-- What holds where a call is accepted, and that a walk which fits is. Assumes nothing.
use Prim.Native.Nat.{ℕ, ◌*◌, ◌≤◌, ◌<◌}
use mathlib.Core.Path.{◌≡◌}
use mathlib.Core.Bool.{not}
use mathlib.Core.List.{◌∷◌}
use borrow.Author.Tests.{ltb-true, not-false, eq-eqb}
use lib.Dec.{ltb}
use Rattle.bayer.specs.Condition.{size_cases, misfit_cases}
use Rattle.bayer.specs.declared.refusal.Refusal.TheVariants.{RowsOutsideFrame}
use Rattle.bayer.specs.Refusal.{◌when◌, first_of}
use Rattle.bayer.proofs.RefusalLaws.{off, on, off-append, on-append}
use Rattle.bayer.proofs.ConditionLaws.{sizes-fit, same_number}
use Rattle.test_frames.specs.TestFrame.{walk_number, row_number}

pub walk-fits : (W H lent : ℕ) → walk_number W H lent ≡ 0 → lent ≡ W * H
unfolding walk_number
walk-fits W H lent e = same_number lent (W * H) (off (misfit_cases (W * H) lent) (off-append (size_cases W H) (misfit_cases (W * H) lent) e).1).0

pub walk-passes : (W H lent : ℕ) → first_of (size_cases W H) ≡ 0 → lent ≡ W * H → walk_number W H lent ≡ 0
unfolding walk_number
walk-passes W H lent e l = on-append (size_cases W H) (misfit_cases (W * H) lent) e (on (misfit_cases (W * H) lent) (rw (eq-eqb lent (W * H) l), tt))

pub record RowFits (W H row lent : ℕ) : Type 0 where
  pub narrow : W ≤ 4096
  pub low : H ≤ 4096
  pub inside : row < H
  pub long : lent ≡ W

pub row_fits : (W H row lent : ℕ) → row_number W H row lent ≡ 0 → RowFits W H row lent
unfolding row_number
row_fits W H row lent e =
    let cases = (RowsOutsideFrame when not (ltb row H)) ∷ misfit_cases W lent in
    let o = off-append (size_cases W H) cases e in
    let s = sizes-fit W H o.0 in
    let p = off cases o.1 in
    record { narrow = s.0.1; low = s.1.1; inside = ltb-true row H (not-false (ltb row H) p.0); long = same_number lent W p.1.0 }
