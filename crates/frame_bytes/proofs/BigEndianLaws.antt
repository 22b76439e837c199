-- Big-endian numbers by their bytes. Assumes nothing.
use Prim.Native.Nat.{ℕ, ◌+◌, ◌*◌}
use mathlib.Core.Path.{◌≡◌, ap}
use mathlib.Core.List.{List, [], ◌∷◌}
use native.Mathlib.Nat.{add-zero}
use native.Mathlib.Omega.{arith}
use lib.ListN.{get_or}
use mir.Syntax.{w16, w32}
use Rattle.std.specs.Int.{from_be_bytes}
use Rattle.frame_bytes.specs.FrameBytes.{big_endian}

pub two_is : (bytes : List ℕ) (at : ℕ) → big_endian bytes at 2 ≡ get_or bytes at 0 * 256 + get_or bytes (at + 1) 0
unfolding big_endian
two_is bytes at = omega (arith, ap (λ (k : ℕ). get_or bytes k 0) (add-zero at))

pub four_is : (bytes : List ℕ) (at : ℕ) → big_endian bytes at 4 ≡ big_endian bytes at 2 * 65536 + big_endian bytes (at + 2) 2
unfolding big_endian
four_is bytes at =
    let p : at + 2 + 0 ≡ at + 2 = omega arith in
    let q : at + 2 + 1 ≡ at + 3 = omega arith in
    omega (arith, ap (λ (k : ℕ). get_or bytes k 0) p, ap (λ (k : ℕ). get_or bytes k 0) q)

-- ---- as the library reads them

pub two_read : (bytes : List ℕ) (at : ℕ) → from_be_bytes w16 (get_or bytes at 0 ∷ get_or bytes (at + 1) 0 ∷ []) ≡ big_endian bytes at 2
unfolding big_endian
two_read bytes at = omega (arith, ap (λ (k : ℕ). get_or bytes k 0) (add-zero at))

pub four_read : (bytes : List ℕ) (at : ℕ)
    → from_be_bytes w32 (get_or bytes at 0 ∷ get_or bytes (at + 1) 0 ∷ get_or bytes (at + 2) 0 ∷ get_or bytes (at + 3) 0 ∷ []) ≡ big_endian bytes at 4
unfolding big_endian
four_read bytes at = omega (arith, ap (λ (k : ℕ). get_or bytes k 0) (add-zero at))
