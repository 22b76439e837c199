-- The constants of the code, by their bits. Assumes nothing.
use Prim.Native.Nat.{ℕ, ◌*◌, ◌^◌}
use mathlib.Core.Path.{◌≡◌, refl}
use lib.Dec.{lit<, lit≤}
use lib.Ieee.{binary64, round, of_bits}
use Rattle.floats.specs.Float.{float, val, WholeUpTo}
use Rattle.floats.proofs.Exact.{val_is, whole_is}

pub zero_is : of_bits binary64 0 ≡ float 0
unfolding of_bits float round
zero_is = refl

pub one-is : of_bits binary64 4607182418800017408 ≡ float 1
unfolding of_bits float round
one-is = refl

four_is : of_bits binary64 4616189618054758400 ≡ float 4
unfolding of_bits float round
four_is = refl

sixteen-is : of_bits binary64 4625196817309499392 ≡ float 16
unfolding of_bits float round
sixteen-is = refl

pub scale-is : of_bits binary64 4715268809856909312 ≡ float (2 ^ 24)
unfolding of_bits float round
scale-is = refl

-- 1.5 × 2^52: between it and 2^53 floats are the whole numbers
abbrev pub middle : ℕ
middle = 6755399441055744

pub middle-is : of_bits binary64 4843621399236968448 ≡ float middle
unfolding of_bits float round
middle-is = refl

-- 1.5 × 2^72, and 2^20 less
pub upper_is : of_bits binary64 4933693391784378368 ≡ float (middle * 2 ^ 20)
unfolding of_bits float round
upper_is = refl

pub under-upper-is : of_bits binary64 4933693391784378367 ≡ float (6755399441055743 * 2 ^ 20)
unfolding of_bits float round
under-upper-is = refl

-- ---- as parts of a number: `search (numbers, literals)`, then `simp values`
pub zero : WholeUpTo 16 (of_bits binary64 0)
zero = (whole_is (of_bits binary64 0) 0 16 zero_is (lit≤ tt) (lit< tt)).0

pub one : WholeUpTo 16 (of_bits binary64 4607182418800017408)
one = (whole_is (of_bits binary64 4607182418800017408) 1 16 one-is (lit≤ tt) (lit< tt)).0

pub four : WholeUpTo 16 (of_bits binary64 4616189618054758400)
four = (whole_is (of_bits binary64 4616189618054758400) 4 16 four_is (lit≤ tt) (lit< tt)).0

pub sixteen : WholeUpTo 16 (of_bits binary64 4625196817309499392)
sixteen = (whole_is (of_bits binary64 4625196817309499392) 16 16 sixteen-is (lit≤ tt) (lit< tt)).0

pub ruleset literals = (zero, one, four, sixteen)

pub zero-value : val (of_bits binary64 0) ≡ 0
zero-value = val_is (of_bits binary64 0) 0 zero_is (lit< tt)

pub one_value : val (of_bits binary64 4607182418800017408) ≡ 1
one_value = val_is (of_bits binary64 4607182418800017408) 1 one-is (lit< tt)

pub four-value : val (of_bits binary64 4616189618054758400) ≡ 4
four-value = val_is (of_bits binary64 4616189618054758400) 4 four_is (lit< tt)

pub sixteen-value : val (of_bits binary64 4625196817309499392) ≡ 16
sixteen-value = val_is (of_bits binary64 4625196817309499392) 16 sixteen-is (lit< tt)

pub ruleset values = (zero-value, one_value, four-value, sixteen-value)
