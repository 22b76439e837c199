-- Sums and products of whole numbers in floats, which `search` finds. The proof does not repeat the code's expressions.
--     Number b x               x, as a goal shows it, is a whole number from 0 to b
--     search numbers depth n   finds it along x, from `WholeUpTo` of its parts
-- Assumes nothing.
use Prim.Native.Nat.{ℕ, ◌+◌, ◌-◌, ◌*◌, ◌/◌, ◌^◌, ◌≤◌, ◌<◌}
use mathlib.Core.Path.{◌≡◌, ap₂, ◌∙◌}
use mathlib.Core.Bool.{true, false}
use native.Mathlib.Nat.{le_trans, mul-le-mul, mul-div-le, div-le_self}
use native.Mathlib.Omega.{arith}
use borrow.Author.Tests.{ltb-true, ltb-false}
use lib.Dec.{ltb}
use lib.Ieee.{Float, binary64, add, sub, mul}
use Rattle.floats.specs.Float.{float, val, WholeUpTo}
use Rattle.floats.proofs.Exact.{exact-small, whole_is, held}
use Rattle.floats.proofs.Operations.{add-whole, sub-whole, mul-whole}

pub record Number (b : ℕ) (x : Float) : Type 0 where
  pub value : ℕ
  pub is : x ≡ float value
  pub most : value ≤ b

abbrev pub number-part : (b k : ℕ) (x : Float) → WholeUpTo k x → ltb b k ≡ false → Number b x
number-part b k x w e = record { value = val x; is = w.whole; most = le_trans w.most (ltb-false b k e) }

-- with a part added
abbrev pub number-plus : (b k : ℕ) (x y : Float) → WholeUpTo k y → Number (b - k) x → ltb b k ≡ false → ltb b (2 ^ 53) ≡ true → Number b (add binary64 x y)
number-plus b k x y w p f e =
    record {
      value = p.value + val y;
      is = ap₂ (add binary64) p.is w.whole
          ∙ add-whole p.value (val y) (exact-small p.value (omega (arith, ltb-true b (2 ^ 53) e, p.most))) (exact-small (val y) (omega (arith, ltb-false b k f, ltb-true b (2 ^ 53) e, w.most)));
      most = omega (arith, p.most, w.most, ltb-false b k f);
    }

-- of two that are within half the bound
abbrev pub number-sum : (b : ℕ) (x y : Float) → Number (b / 2) x → Number (b / 2) y → ltb b (2 ^ 53) ≡ true → Number b (add binary64 x y)
number-sum b x y p q e =
    record {
      value = p.value + q.value;
      is = ap₂ (add binary64) p.is q.is ∙ add-whole p.value q.value (exact-small p.value (omega (arith, ltb-true b (2 ^ 53) e, p.most))) (exact-small q.value (omega (arith, ltb-true b (2 ^ 53) e, q.most)));
      most = omega (arith, p.most, q.most);
    }

abbrev pub number-product : (b k : ℕ) (x y : Float) → WholeUpTo k x → Number (b / k) y → ltb k (2 ^ 53) ≡ true → ltb b (2 ^ 53) ≡ true → Number b (mul binary64 x y)
number-product b k x y w q f e =
    record {
      value = val x * q.value;
      is = ap₂ (mul binary64) w.whole q.is
          ∙ mul-whole (val x) q.value (exact-small (val x) (omega (arith, ltb-true k (2 ^ 53) f, w.most))) (exact-small q.value (omega (arith, ltb-true b (2 ^ 53) e, q.most, div-le_self b k)));
      most = le_trans (mul-le-mul w.most q.most) (mul-div-le b k);
    }

pub ruleset numbers = (number-part, number-plus, number-sum, number-product)

-- and what it says of the float
pub number-told : {b : ℕ} {x : Float} (n : Number b x) → b < 2 ^ 53 → WholeUpTo b x × (val x ≡ n.value)
number-told {b} {x} n h = whole_is x n.value b n.is n.most h

-- a difference that is not below 0
pub less : {b : ℕ} {x y : Float} (k : ℕ) → WholeUpTo b x → b < 2 ^ 53 → y ≡ float k → k ≤ val x → sub binary64 x y ≡ float (val x - k)
less {x = x} k w h e l = ap₂ (sub binary64) w.whole e ∙ sub-whole (val x) k (held w h) (exact-small k (omega (arith, w.most))) l
