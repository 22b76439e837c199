-- What is read at a position of a row or a column, just before it and just after it. Assumes nothing.
use Prim.Native.Nat.{ℕ, ◌+◌, ◌-◌, ◌≤◌, ◌<◌}
use mathlib.Core.Path.{◌≡◌, refl, sym, ap, ◌∙◌}
use native.Mathlib.Omega.{arith}
use lib.IntN.{ℤ, pos, sub_ℕ, ◌+ℤ◌, ◌-ℤ◌}
use Rattle.whole.proofs.Pairs.{sub-pos}
use Rattle.bayer.specs.Mirror.{mirror}
use Rattle.bayer.proofs.MirrorLaws.{mirror-lt, mirror-inside, mirror-from}

-- away from the ends it is the position itself
pub before-inside : (size p : ℕ) → 1 ≤ p → p ≤ size → p - 1 ≡ mirror size (sub_ℕ p 1)
before-inside size p h k = sym (mirror-from size p 1 h ∙ mirror-inside size (p - 1) (omega arith))

pub after-inside : (size p : ℕ) → p + 1 < size → p + 1 ≡ mirror size (sub_ℕ (p + 1) 0)
after-inside size p h = sym (ap (mirror size) (sub-pos (p + 1) 0 (p + 1) (omega arith)) ∙ mirror-inside size (p + 1) h)

-- n, inside, is read for position z
abbrev pub Read : (size n : ℕ) (z : ℤ) → Type 0
Read size n z = (n ≡ mirror size z) × (n < size)

module _ (size p : ℕ) (k : p < size) where
  pub at_read : Read size p (pos p)
  at_read = (sym (mirror-inside size p k), k)

  pub before-read : Read size (mirror size (sub_ℕ p 1)) (pos p -ℤ pos 1)
  before-read = (refl, mirror-lt size _ (omega arith))

  -- just after it, in the code's form and in the definitions'
  pub after_read : Read size (mirror size (sub_ℕ (p + 1) 0)) (pos p +ℤ pos 1)
  after_read = (ap (mirror size) (sub-pos (p + 1) 0 (p + 1) (omega arith)), mirror-lt size _ (omega arith))

  pub next-read : Read size (mirror size (pos p +ℤ pos 1)) (pos p +ℤ pos 1)
  next-read = (refl, mirror-lt size _ (omega arith))
