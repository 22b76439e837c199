-- Signed code whose ranges and values `search` finds: sums, differences and natural multiples (the literal first) of literals that are not below 0 and of u16 values
-- that are widened to a signed type. The proof does not repeat the code's expressions. For values with other bounds: proofs/Signed.
--     Small k z                z, as a goal shows it, is an integer within k, given as a pair of naturals
--     search small depth n     finds it along z, and proves what an operation asks; each operation of the code takes two of the depth.
--                              Ten operations in one value are found; at eleven `search` broke off, at its bound of steps
--     equal s q                z is the integer of the pair q; what is left is for `omega`
-- Assumes nothing.
use mathlib.Core.Path.{◌≡◌, refl, ◌∙◌, ap, ap₂}
use mathlib.Core.Bool.{true, false}
use Prim.Native.Nat.{ℕ, ◌+◌, ◌-◌, ◌/◌, ◌^◌, ◌≤◌}
use native.Mathlib.Nat.{le_trans, le_refl, mul-div-le, one-le-pow}
use native.Mathlib.Omega.{arith}
use borrow.Author.Tests.{ltb-true, ltb-false}
use lib.Dec.{ltb}
use lib.IntN.{ℤ, pos, nat_abs, ◌+ℤ◌, ◌-ℤ◌, ◌*ℤ◌}
use mir.Syntax.{Width, w16}
use mir.Val.{Fits, SFits, hbits, of_z, to_z}
use mir.ValLaws.{to_z_pos}
use Rattle.whole.proofs.Pairs.{Pair, natₚ, ◌+ₚ◌, ◌-ₚ◌, ◌*ₚ◌, eq-by}
use Rattle.whole.proofs.Magnitudes.{add-within, sub_within, mul-within, fits-within}
use Rattle.whole.proofs.Signed.{back}

pub record Small (k : ℕ) (z : ℤ) : Type 0 where
  pub value : ℤ
  pub pair : Pair value
  pub is : z ≡ value
  pub within : nat_abs value ≤ k

-- ---- along z. The bound is handed down and divided at each operation, so `search` knows it at every part, and the tests of it compute
abbrev pub small-literal : (k n : ℕ) → ltb k n ≡ false → Small k (pos n)
small-literal k n e = record { value = pos n; pair = natₚ n; is = refl; within = ltb-false k n e }

abbrev pub small-u16 : (w : Width) (k n : ℕ) → Fits w16 n → ltb 65534 k ≡ true → ltb k (2 ^ hbits w) ≡ true → Small k (to_z w n)
small-u16 w k n f e h =
    record {
      value = pos n;
      pair = natₚ n;
      is = to_z_pos w n (omega (arith, ltb-true 65534 k e, ltb-true k (2 ^ hbits w) h));
      within = omega (arith, ltb-true 65534 k e);
    }

-- one that `i32::from` widened
abbrev pub small-from : (k n : ℕ) (z : ℤ) → z ≡ pos n → Fits w16 n → ltb 65534 k ≡ true → Small k z
small-from k n z p f e = record { value = pos n; pair = natₚ n; is = p; within = omega (arith, ltb-true 65534 k e) }

-- a sum or a difference of two that are within half the bound
abbrev of-halves : (k : ℕ) (o : ℤ → ℤ → ℤ) {x y : ℤ} (a : Small (k / 2) x) (b : Small (k / 2) y) → let v = o a.value b.value in Pair v → nat_abs v ≤ k / 2 + k / 2 → Small k (o x y)
of-halves k o a b p h = record { value = o a.value b.value; pair = p; is = ap₂ o a.is b.is; within = le_trans h (omega arith) }

abbrev pub small-sum : (k : ℕ) (x y : ℤ) → Small (k / 2) x → Small (k / 2) y → Small k (x +ℤ y)
small-sum k x y a b = of-halves k ◌+ℤ◌ a b (a.pair +ₚ b.pair) (add-within a.value b.value a.within b.within)

abbrev pub small-difference : (k : ℕ) (x y : ℤ) → Small (k / 2) x → Small (k / 2) y → Small k (x -ℤ y)
small-difference k x y a b = of-halves k ◌-ℤ◌ a b (a.pair -ₚ b.pair) (sub_within a.value b.value a.within b.within)

abbrev pub small-multiple : (k n : ℕ) (y : ℤ) → Small (k / n) y → Small k (pos n *ℤ y)
small-multiple k n y b =
    record {
      value = pos n *ℤ b.value;
      pair = n *ₚ b.pair;
      is = ap (λ u. pos n *ℤ u) b.is;
      within = le_trans (mul-within (pos n) b.value (le_refl n) b.within) (mul-div-le k n);
    }

-- read back from its bits
abbrev pub small-read : (w : Width) (k : ℕ) (z : ℤ) → ltb k (2 ^ hbits w) ≡ true → Small k z → Small k (to_z w (of_z w z))
small-read w k z e a =
    record {
      value = a.value;
      pair = a.pair;
      is = back w z a.is (fits-within a.value a.within (ltb-true k (2 ^ hbits w) e));
      within = a.within;
    }

-- ---- what an operation asks, and what a value is
pub small-fits : (w : Width) (z : ℤ) → Small (2 ^ hbits w - 1) z → SFits w z
small-fits w z a = rw a.is (fits-within a.value a.within (omega (arith, one-le-pow (hbits w) 2 (omega arith))))

-- a difference is a sum too, so its law comes before the sum's
pub ruleset small = (small-literal, small-u16, small-difference, small-sum, small-multiple, small-read, small-from, small-fits)

pub equal : {k : ℕ} {z y : ℤ} (s : Small k z) (q : Pair y) → s.pair.hi + q.lo ≡ q.hi + s.pair.lo → z ≡ y
equal s q e = s.is ∙ eq-by s.pair q e
