-- What a test of two guarded sums, held as floats, tells of the smaller. Assumes nothing.
use Prim.Native.Nat.{min}
use mathlib.Core.Path.{◌≡◌}
use mathlib.Core.Bool.{true, false}
use native.Mathlib.Omega.{arith}
use lib.Dec.{lit<}
use lib.Ieee.{Float, lt}
use Rattle.floats.specs.Float.{val, WholeUpTo}
use Rattle.floats.proofs.Comparison.{below, not-below}
use Rattle.gbtf.specs.Bounds.{most_sum}

pub smaller_first : {a b : Float} → lt a b ≡ true → WholeUpTo most_sum a → WholeUpTo most_sum b → val a ≡ min (val a) (val b)
smaller_first e A B = omega (arith, below most_sum most_sum e A B (lit< tt) (lit< tt))

pub smaller_second : {a b : Float} → lt a b ≡ false → WholeUpTo most_sum a → WholeUpTo most_sum b → val b ≡ min (val a) (val b)
smaller_second e A B = omega (arith, not-below most_sum most_sum e A B (lit< tt) (lit< tt))
