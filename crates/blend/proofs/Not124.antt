-- The figure of 125 hundredths cannot be 124: a cross of readings whose green is 1.24006 units from exact green, for every exponential. Assumes nothing.
use Prim.Native.Nat.{◌*◌, ◌<◌}
use native.Mathlib.Nat.{mul-le-mul_right}
use native.Mathlib.Decide.{dec_lt}
use native.Mathlib.Omega.{arith}
use lib.Dec.{lit<}
use lib.IntN.{pos, negsuc}
use Rattle.whole.specs.Fraction.{Fraction, natural, divided_by, clampᶠ, Within}
use Rattle.blend.specs.declared.axis.Axis.{Axis}
use Rattle.blend.specs.Logistic.{logistic}
use Rattle.blend.specs.Exponential.{Exponential, logistic_of, weight_by, exact_weight}
use Rattle.blend.specs.Blend.{axis, rounded, unclamped_blend, blend}
use Rattle.blend.specs.Exact.{exact_weighted, unrounded, exact_blend}
use Rattle.blend.proofs.TableRight.{by-lower}

-- k is 10, where the true weight is 24742.505 and the entry 24743
abbrev pub row : Axis
row = axis 2102 4095 4095 0 43

abbrev pub column : Axis
column = axis 2102 0 0 4095 4095

-- whatever the weight, if it is below 24742.5054
too_far : (w : Fraction) → 2452700 * w.plus < 60685942784 * w.under
    → Within (natural 21097) (clampᶠ (divided_by (exact_weighted w (record { variation = 4161; estimate = pos 20541 }) (record { variation = 3986; estimate = negsuc 3985 })) 16384 (lit< tt))) 124 100 → ⊥
too_far w h near = omega (arith, near.low, mul-le-mul_right w.under h)

by_place : (e : Exponential) (d : Dec (10 < 256)) → Within (natural 21097) (clampᶠ (divided_by (exact_weighted (weight_by e 10 d) row column) 16384 (lit< tt))) 124 100 → ⊥
unfolding axis logistic_of
by_place e (yes h) near = too_far (logistic_of e 10 h) (omega (arith, by-lower e 10 h (2452700 * 65536) 60685942784 (lit< tt))) near
by_place e (no h) near = h (lit< tt)

pub not-124 : (e : Exponential) → Within (natural (blend row column)) (exact_blend e row column) 124 100 → ⊥
unfolding axis blend unclamped_blend rounded logistic exact_blend unrounded exact_weight
not-124 e near = by_place e (dec_lt 10 256) near
