-- The whole number nearest to 4n / u, a half upward, by one division of floats. Assumes nothing.
use Prim.Native.Nat.{ℕ, zero, suc, ◌+◌, ◌-◌, ◌*◌, ◌/◌, ◌%◌, ◌^◌, ◌≤◌, ◌<◌}
use mathlib.Core.Path.{◌≡◌, sym, ap, ap₂, ◌∙◌, subst}
use mathlib.Core.Bool.{false}
use native.Mathlib.Nat.{le_of_lt, lt_of_mul-lt-mul_right, add-sub_cancel, mul-le-mul_right, div-add-mod', mod-lt, div-lt_iff_lt-mul}
use native.Mathlib.Omega.{arith}
use lib.Dec.{T, lit≤}
use lib.IntN.{pos}
use mir.Syntax.{w32}
use mir.Val.{to_z, of_z}
use lib.Ieee.{Float, binary64, round, of_bits, in_signed, to_signed, add, sub, div}
use lib.Ieee.Nearest.{closest}
use lib.Ieee.Positive.{num, den, den_pos}
use Rattle.floats.specs.Float.{float}
use Rattle.floats.proofs.Casts.{to-i32}
use Rattle.floats.proofs.Exact.{exact-small, exact-over}
use Rattle.floats.proofs.Literals.{middle, middle-is}
use Rattle.floats.proofs.Nearest.{Half, closest-near}
use Rattle.floats.proofs.Numbers.{Number}
use Rattle.floats.proofs.Operations.{div-whole}
use Rattle.floats.proofs.Rounding.{Between, quotient-between, whole_part}

-- P / D is less than a half from w
closest-is : (P D w : ℕ) → 0 < D → w * D * 2 < P * 2 + D → P * 2 < w * D * 2 + D → closest (P + middle * D) D ≡ w + middle
closest-is P D w pos-D l h =
    let c : ℕ = closest (P + middle * D) D in
    let n : Half (c * D) (P + middle * D) D = closest-near (P + middle * D) D pos-D in
    let u : c * D < (w + middle + 1) * D = omega (arith, n.0, n.1) in
    let v : (w + middle) * D < (c + 1) * D = omega (arith, n.0, n.1) in
    omega (arith, lt_of_mul-lt-mul_right D u, lt_of_mul-lt-mul_right D v)

-- w - 1/2 and w + 1/2, in parts of 2^35 and one part nearer
low-side : (P D w : ℕ) → 0 < D → (w * 2 ^ 35 - 2 ^ 34 + 1) * D ≤ P * 2 ^ 35 → w * D * 2 < P * 2 + D
low-side P D zero d h = omega arith
low-side P D (suc w) d h =
    let e : suc w * 2 ^ 35 - 2 ^ 34 + 1 ≡ w * 2 ^ 35 + (2 ^ 34 + 1) = omega arith in
    let h' : (w * 2 ^ 35 + (2 ^ 34 + 1)) * D ≤ P * 2 ^ 35 = subst (λ (z : ℕ). z * D ≤ P * 2 ^ 35) e h in
    omega arith

high-side : (P D w : ℕ) → 0 < D → P * 2 ^ 35 ≤ (w * 2 ^ 35 + (2 ^ 34 - 1)) * D → P * 2 < w * D * 2 + D
high-side P D w d h = omega arith

low-bound : (n u w : ℕ) → u ≤ 2 ^ 33 → w * (2 * u) ≤ 8 * n + u → (w * 2 ^ 35 - 2 ^ 34 + 1) * (4 * u) ≤ (16 * n + 1) * 2 ^ 35
low-bound n u zero U h = omega arith
low-bound n u (suc w) U h =
    let e : suc w * 2 ^ 35 - 2 ^ 34 + 1 ≡ w * 2 ^ 35 + (2 ^ 34 + 1) = omega arith in
    subst (λ (z : ℕ). z * (4 * u) ≤ (16 * n + 1) * 2 ^ 35) (sym e) (omega arith)

high-bound : (n u w : ℕ) → u ≤ 2 ^ 33 → 8 * n + u < suc w * (2 * u) → (16 * n + 1) * 2 ^ 35 ≤ (w * 2 ^ 35 + (2 ^ 34 - 1)) * (4 * u)
high-bound n u w U h = omega arith

pub mean-small : (n u : ℕ) → 0 < u → n ≤ 65535 * u → (8 * n + u) / (2 * u) < 2 ^ 18
mean-small n u U N = (div-lt_iff_lt-mul {k = 2 * u} (omega arith)).1 (omega arith)

module _ (n u : ℕ) (U : 0 < u) (U' : u ≤ 2 ^ 33) (N : n ≤ 65535 * u) where
  abbrev w : ℕ
  w = (8 * n + u) / (2 * u)

  abbrev r : Float
  r = round binary64 false (16 * n + 1) (4 * u)

  inside : Between (w * 2 ^ 35 - 2 ^ 34 + 1) (2 ^ 35) (w * 2 ^ 35 + (2 ^ 34 - 1)) (2 ^ 35) (round binary64 false (16 * n + 1) (4 * u))
  inside =
      let m : w * (2 * u) + (8 * n + u) % (2 * u) ≡ 8 * n + u = div-add-mod' (8 * n + u) (2 * u) in
      let b : (8 * n + u) % (2 * u) < 2 * u = mod-lt (8 * n + u) (omega arith) in
      let s : w < 2 ^ 18 = mean-small n u U N in
      quotient-between (16 * n + 1) (4 * u) (w * 2 ^ 35 - 2 ^ 34 + 1) (2 ^ 35) (w * 2 ^ 35 + (2 ^ 34 - 1)) (2 ^ 35) (omega arith) (lit≤ tt) (lit≤ tt) (omega arith) (omega arith)
      (exact-over (w * 2 ^ 35 - 2 ^ 34 + 1) 35 (omega arith) (lit≤ tt)) (exact-over (w * 2 ^ 35 + (2 ^ 34 - 1)) 35 (omega arith) (lit≤ tt))
      (low-bound n u w U' (omega arith)) (high-bound n u w U' (omega arith))

  rounded-twice : sub binary64 (add binary64 (round binary64 false (16 * n + 1) (4 * u)) (float middle)) (float middle) ≡ float ((8 * n + u) / (2 * u))
  rounded-twice =
      let D : 0 < den r = den_pos r in
      let b = inside in
      let h : num r * 2 ^ 35 ≤ (w * 2 ^ 35 + (2 ^ 34 - 1)) * den r = b.high in
      let c : closest (num r + middle * den r) (den r) ≡ w + middle = closest-is (num r) (den r) w D (low-side (num r) (den r) w D b.low) (high-side (num r) (den r) w D h) in
      let l : w * den r ≤ 2 ^ 18 * den r = mul-le-mul_right (den r) (le_of_lt (mean-small n u U N)) in
      whole_part r b.above0 (omega arith) ∙ ap float (ap (λ (z : ℕ). z - middle) c ∙ add-sub_cancel w middle)

  -- of the dividend and the divisor, as the code works them out
  module _ {x y : Float} (p : Number (2 ^ 53 - 1) x) (q : Number (2 ^ 53 - 1) y) (e : p.value ≡ 16 * n + 1) (f : q.value ≡ 4 * u) where
    abbrev pub nearest : Float
    nearest = sub binary64 (add binary64 (div binary64 x y) (of_bits binary64 4843621399236968448)) (of_bits binary64 4843621399236968448)

    both : T (in_signed binary64 31 nearest) × (to_z w32 (of_z w32 (to_signed 31 nearest)) ≡ pos ((8 * n + u) / (2 * u)))
    both =
        let d : div binary64 x y ≡ round binary64 false (16 * n + 1) (4 * u) =
        ap₂ (div binary64) (p.is ∙ ap float e) (q.is ∙ ap float f) ∙ div-whole (16 * n + 1) (4 * u) (omega arith) (exact-small (16 * n + 1) (omega arith)) (exact-small (4 * u) (omega arith)) in
        to-i32 nearest ((8 * n + u) / (2 * u)) (rw (d, middle-is) rounded-twice) (omega (arith, mean-small n u U N))

    pub mean-fits : T (in_signed binary64 31 nearest)
    mean-fits = both.0

    pub mean-is : to_z w32 (of_z w32 (to_signed 31 nearest)) ≡ pos ((8 * n + u) / (2 * u))
    mean-is = both.1
