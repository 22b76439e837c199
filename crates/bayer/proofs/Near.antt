-- Positions, of rows or of columns, that are near each other. Assumes nothing.
use Prim.Native.Nat.{ℕ, ◌+◌, ◌≤◌}
use native.Mathlib.Omega.{arith}
use lib.IntN.{ℤ, pos, ◌+ℤ◌, ◌-ℤ◌}
use Rattle.whole.specs.Parts.{up, down}
use Rattle.whole.proofs.Pairs.{+ℤ-up, -ℤ-up}

-- position r is at most k away from position i
pub record Near (k : ℕ) (i r : ℤ) : Type 0 where
  pub above : up r + down i ≤ up i + down r + k
  pub below : up i + down r ≤ up r + down i + k

pub here : (k : ℕ) (i : ℤ) → Near k i i
here k i = record { above = omega arith; below = omega arith }

module _ {i : ℤ} where
  pub wider : (d : ℕ) {c : ℕ} (r : ℤ) → Near c i r → c ≤ d → Near d i r
  wider d r h e = record { above = omega arith; below = omega arith }

  pub plus : (d k : ℕ) {c : ℕ} (r : ℤ) → Near c i r → c + k ≤ d → Near d i (r +ℤ pos k)
  plus d k r h e = record { above = omega (arith, +ℤ-up r (pos k)); below = omega (arith, +ℤ-up r (pos k)) }

  pub minus : (d k : ℕ) {c : ℕ} (r : ℤ) → Near c i r → c + k ≤ d → Near d i (r -ℤ pos k)
  minus d k r h e = record { above = omega (arith, -ℤ-up r (pos k)); below = omega (arith, -ℤ-up r (pos k)) }

  -- k up and b down again
  pub back : (d k b : ℕ) {c : ℕ} (r : ℤ) → Near c i r → c + k ≤ d + b → c + b ≤ d + k → Near d i (r -ℤ pos k +ℤ pos b)
  back d k b r h e f = record { above = omega (arith, -ℤ-up r (pos k), +ℤ-up (r -ℤ pos k) (pos b)); below = omega (arith, -ℤ-up r (pos k), +ℤ-up (r -ℤ pos k) (pos b)) }
