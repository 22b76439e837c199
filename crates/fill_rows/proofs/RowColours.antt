-- The colours of a row, by the parity of the column. Assumes nothing.
use Prim.Native.Nat.{ℕ, ◌+◌, ◌%◌, ◌≤◌}
use mathlib.Core.Path.{◌≡◌, refl, ap, ◌∙◌}
use mathlib.Core.Bool.{Bool, true, false, not, cond}
use native.Mathlib.Omega.{arith}
use borrow.Author.Tests.{eqb-true}
use lib.Dec.{eqb}
use Rattle.bayer.specs.declared.colour.Colour.{Colour}
use Rattle.bayer.specs.declared.colour.Colour.TheVariants.{Red, Green, Blue}
use Rattle.bayer.specs.Colour.{colour_at, same, partner, opposite}
use Rattle.bayer.specs.Parity.{is_odd, starts_green}
use Rattle.bayer.proofs.ColourLaws.{partner-shares}
use Rattle.bayer.proofs.ParityLaws.{row-colour}

-- whether a colour is green, is p, is its opposite
abbrev pub looks : (p c : Colour) → Bool × Bool × Bool
looks p c = (same c Green, same c p, same c (opposite p))

-- in a row of green and p
abbrev pub shared : (green : Bool) → Bool × Bool × Bool
shared green = (green, not green, false)

looks-shared : (p : Colour) (green : Bool) → (p ≡ Green → ⊥) → looks p (cond green Green p) ≡ shared green
looks-shared Green green h = absurd (h refl)
looks-shared Red true h = refl
looks-shared Red false h = refl
looks-shared Blue true h = refl
looks-shared Blue false h = refl

pub row-colours : (l i j : ℕ) → l ≤ 3 → looks (partner l i) (colour_at l i j) ≡ shared (is_odd (j + starts_green l i))
row-colours l i j h = ap (looks (partner l i)) (row-colour l i j h) ∙ looks-shared (partner l i) (is_odd (j + starts_green l i)) (partner-shares l i h).0

pub after-odd : (j o : ℕ) → is_odd (j + o) ≡ true → is_odd (j + 1 + o) ≡ false
after-odd j o e = let q : (j + 1 + o) % 2 ≡ 0 = omega (arith, eqb-true ((j + o) % 2) 1 e) in ap (λ n. eqb n 1) q
