-- Whole numbers from integers, and back. Assumes nothing.
use Prim.Native.Nat.{ℕ, ◌^◌, ◌≤◌, ◌<◌}
use mathlib.Core.Path.{◌≡◌, refl, ap, ◌∙◌}
use native.Mathlib.Omega.{arith}
use lib.Dec.{T, le→leb}
use lib.IntN.{ℤ, pos}
use mir.Syntax.{w32}
use mir.Val.{to_z, of_z}
use mir.ValLaws.{to_z-of_z}
use lib.Ieee.{Float, binary64, of_int, in_float, in_signed, to_signed}
use lib.Ieee.Back.{positive_back}
use Rattle.floats.specs.Float.{float, val, WholeUpTo}
use Rattle.floats.proofs.Exact.{whole_is}

of-int : (k : ℕ) → of_int binary64 (pos k) ≡ float k
unfolding of_int float
of-int k = refl

pub of-i32 : (x : ℤ) (k b : ℕ) → x ≡ pos k → k ≤ b → b < 2 ^ 53 → WholeUpTo b (of_int binary64 x) × (val (of_int binary64 x) ≡ k)
of-i32 x k b e h B = whole_is (of_int binary64 x) k b (ap (of_int binary64) e ∙ of-int k) h B

-- a whole number as an i32
in-float : (n : ℕ) → n < 2 ^ 31 → T (in_float binary64 (pos n))
unfolding in_float
in-float n h = le→leb n (2 ^ 53) (omega arith)

pub to-i32 : (x : Float) (n : ℕ) → x ≡ float n → n < 2 ^ 31 → T (in_signed binary64 31 x) × (to_z w32 (of_z w32 (to_signed 31 x)) ≡ pos n)
to-i32 x n e h =
    let c : T (in_signed binary64 31 x) × (to_signed 31 x ≡ pos n) = rw e (unfold float of_int in positive_back binary64 31 n (in-float n h) h) in
    (c.0, ap (λ (z : ℤ). to_z w32 (of_z w32 z)) c.1 ∙ to_z-of_z w32 (pos n) (record { sfits = h }))
