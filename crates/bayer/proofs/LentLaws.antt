-- Rows that are among the readings lent. Assumes nothing.
use Prim.Native.Nat.{ℕ, ◌+◌, ◌-◌, ◌*◌, ◌≤◌, ◌<◌}
use mathlib.Core.Path.{◌≡◌, subst}
use native.Mathlib.Nat.{suc-mul}
use native.Mathlib.Numerals.{add-one}
use native.Mathlib.Omega.{arith}
use lib.Dec.{lit≤}
use lib.IntN.{ℤ, pos, sub_ℕ}
use Rattle.whole.proofs.Pairs.{sub-pos}
use Rattle.bayer.specs.declared.frame.Frame.{Frame}
use Rattle.bayer.specs.Mirror.{mirror}
use Rattle.bayer.specs.Lent.{Lent}
use Rattle.bayer.proofs.MirrorLaws.{mirror-inside}

-- row r is among the n readings that are lent from row `first` on
abbrev pub Inside : (f : Frame) (first n r : ℕ) → Type 0
Inside f first n r = (first ≤ r) × ((r - first) * f.width + f.width ≤ n)

module _ {f : Frame} {first n v : ℕ} (lent : Lent f first n v) where
  read : (r : ℕ) (z : ℤ) → r < 13 → sub_ℕ (v + r) 6 ≡ z → Inside f first n (mirror f.height z)
  read r z h e = subst (λ z. Inside f first n (mirror f.height z)) e (lent.start r h, rw (add-one, suc-mul) at (lent.end r h))

  -- row v itself
  pub row_inside : Inside f first n v
  row_inside = rw (mirror-inside f.height v lent.row) at (read 6 (pos v) (lit≤ tt) (sub-pos (v + 6) 6 v (omega arith)))
