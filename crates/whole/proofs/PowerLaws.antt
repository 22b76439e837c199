-- Laws of powers of fractions that have no part below 0. Assumes nothing.
use mathlib.Core.Path.{◌≡◌, sym, ap}
use Prim.Native.Nat.{ℕ, zero, suc, ◌*◌, ◌^◌, ◌≤◌}
use native.Mathlib.Nat.{mul-le-mul, pow-zero, pow-suc}
use native.Mathlib.Omega.{arith}
use Rattle.whole.specs.Fraction.{Fraction, power, power-plain, ◌≤ᶠ◌}

module _ (x y : Fraction) (p : x.minus ≡ 0) (q : y.minus ≡ 0) where
  plain : x ≤ᶠ y → x.plus * y.under ≤ y.plus * x.under
  plain h = omega (arith, ap (λ (n : ℕ). n * y.under) p, ap (λ (n : ℕ). n * x.under) q)

  from-plain : x.plus * y.under ≤ y.plus * x.under → x ≤ᶠ y
  from-plain h = omega (arith, ap (λ (n : ℕ). n * y.under) p, ap (λ (n : ℕ). n * x.under) q)

-- a larger one has the larger power
pub power-rises : (x y : Fraction) → x.minus ≡ 0 → y.minus ≡ 0 → x ≤ᶠ y → (k : ℕ) → power x k ≤ᶠ power y k
unfolding power
power-rises x y p q h zero = omega arith
power-rises x y p q h (suc k) =
    let u = power x k in let v = power y k in
    from-plain (power x (suc k)) (power y (suc k)) (power-plain x p (suc k)) (power-plain y q (suc k))
    (omega (arith, mul-le-mul (plain x y p q h) (plain u v (power-plain x p k) (power-plain y q k) (power-rises x y p q h k)), ap (λ (n : ℕ). n * (u.minus * (y.under * v.under))) p))

-- and its two naturals are powers
pub power-plus : (x : Fraction) → x.minus ≡ 0 → (k : ℕ) → (power x k).plus ≡ x.plus ^ k
unfolding power
power-plus x p zero = sym (pow-zero x.plus)
power-plus x p (suc k) = omega (arith, pow-suc x.plus k, ap (λ (n : ℕ). x.plus * n) (power-plus x p k), ap (λ (n : ℕ). n * (power x k).minus) p)

pub power-under : (x : Fraction) (k : ℕ) → (power x k).under ≡ x.under ^ k
unfolding power
power-under x zero = sym (pow-zero x.under)
power-under x (suc k) = omega (arith, pow-suc x.under k, ap (λ (n : ℕ). x.under * n) (power-under x k))
