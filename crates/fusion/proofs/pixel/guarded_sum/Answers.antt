use Rattle.std.proofs.Common.{ℕ, ◌≡◌, ◌≤◌, refl, arith, lit<, to_z}
use lib.Ieee.{Float, binary64, of_int}
use mir.Syntax.{w32}
use Rattle.whole.proofs.Signed.{nat, value}
use Rattle.floats.specs.Float.{val, WholeUpTo}
use Rattle.floats.proofs.Casts.{of-i32}
use Rattle.floats.proofs.Comparison.{below, not-below}
use Rattle.floats.proofs.Literals.{four, literals, values}
use Rattle.floats.proofs.Exact.{wider}
use Rattle.gbtf.specs.Bounds.{most_sum}
use Rattle.fusion.proofs.pixel.guarded_sum.Goals as goal

-- the direction sum n, as a float
sum : (n : ℕ) {t : Float} → t ≡ of_int binary64 (to_z w32 n) → n ≤ most_sum → WholeUpTo most_sum t × (val t ≡ n)
sum n e h = rw e (of-i32 _ n most_sum (value {w = w32} (nat n most_sum h) tt) h (lit< tt))

pub returns-then-t : goal.returns-then-t
returns-then-t c =
    let t = sum c.args.d.sum c.from-t.ensures c.requires in
    (wider four refl, omega (arith, values, t.1, below most_sum 16 c.if-t.true t.0 (search literals) (lit< tt) (lit< tt)))

pub returns-else-t : goal.returns-else-t
returns-else-t c =
    let t = sum c.args.d.sum c.from-t.ensures c.requires in
    (t.0, omega (arith, values, t.1, not-below most_sum 16 c.if-t.false t.0 (search literals) (lit< tt) (lit< tt)))
