-- The neighbours from which red or blue is filled have that colour. Assumes nothing.
use mathlib.Core.Path.{◌≡◌, refl, sym, ◌∙◌}
use mathlib.Core.List.{List}
use mathlib.Core.Bool.{Bool, true, false, cond}
use Prim.Native.Nat.{ℕ, ◌+◌, ◌%◌, ◌≤◌, ◌<◌}
use native.Mathlib.Nat.{mod-mod}
use native.Mathlib.Omega.{arith}
use lib.IntN.{ℤ, pos, nat_abs, ◌+ℤ◌, ◌-ℤ◌}
use Rattle.whole.proofs.Pairs.{sub-ind}
use Rattle.lists.specs.Every.{Every}
use Rattle.bayer.specs.declared.colour.Colour.{Colour}
use Rattle.bayer.specs.declared.colour.Colour.TheVariants.{Red, Green, Blue}
use Rattle.bayer.specs.declared.frame.Frame.{Frame}
use Rattle.bayer.specs.Colour.{colours, colour_at, same}
use Rattle.bayer.specs.Mirror.{mirror}
use Rattle.bayer.specs.Mosaic.{continued, is_green}
use Rattle.bayer.proofs.MirrorLaws.{mirror-inside, mirror-parity}
use Rattle.bayer.proofs.ColourLaws.{parity-colour, cells, by_layout}
use Rattle.demosaic.specs.Sample.{Pixel, diagonal, in_row, in_column, neighbours}

-- along an axis: what is read just before and just after a position has the other parity
module _ (size p : ℕ) (h : 2 ≤ size) (k : p < size) where
  abbrev Other : ℤ → Type 0
  Other z = mirror size z % 2 ≡ (mirror size (pos p) % 2 + 1) % 2

  other : (z : ℤ) → nat_abs z % 2 ≡ (p % 2 + 1) % 2 → Other z
  other z e = rw (mirror-inside size p k) (mirror-parity size z h ∙ e)

  before : Other (pos p -ℤ pos 1)
  before = sub-ind Other p 1 (λ l. other _ (omega arith)) (λ l. other _ (omega arith))

  after : Other (pos p +ℤ pos 1)
  after = other _ (omega arith)

-- from the colours of a cell and of those right of it, below it and across: the colour of the cells that k is filled from (at a cell of colour k, its own)
abbrev source : (k here right below across : Colour) → Colour
source k here right below across = cond (same here Green) (cond (same right k) right below) (cond (same here k) here across)

abbrev source_at : (k : Colour) (layout i j : ℕ) → Colour
source_at k l i j = source k (colour_at l i j) (colour_at l i (j + 1)) (colour_at l (i + 1) j) (colour_at l (i + 1) (j + 1))

-- one test of all layouts, for red and for blue
test : (k : Colour) → (k ≡ Green → ⊥) → cells (source_at k) ≡ cells (λ l i j. k)
unfolding colours colour_at
test Red n = refl
test Green n = absurd (n refl)
test Blue n = refl

source_is : (k : Colour) → (k ≡ Green → ⊥) → (l i i' j j' : ℕ) → l ≤ 3 → i' % 2 ≡ (i % 2 + 1) % 2 → j' % 2 ≡ (j % 2 + 1) % 2 → source k (colour_at l i j) (colour_at l i j') (colour_at l i' j) (colour_at l i' j') ≡ k
unfolding colour_at
source_is k n l i i' j j' h p q =
    rw (← mod-mod i 2, ← mod-mod j 2, p, q) (by_layout (source_at k) (λ l i j. k) (test k n) l i j h)

abbrev pub Has : Frame → Colour → Pixel → Type 0
Has f k p = colour_at f.layout p.row p.col ≡ k

pub neighbours-have-colour : (f : Frame) → f.layout ≤ 3 → 2 ≤ f.height → 2 ≤ f.width → (first : ℕ) (rows : List ℕ) (k : Colour) → (k ≡ Green → ⊥) → (i j : ℕ) → i < f.height → j < f.width
    → same ((continued f first rows).colour (pos i) (pos j)) k ≡ false → Every (Has f k) (neighbours f (continued f first rows) k (pos i) (pos j))
unfolding neighbours
neighbours-have-colour f hl hH hW first rows k n i j hi hj other = go (is_green (continued f first rows) (pos i) (pos j)) (same (C (pos i) (pos j +ℤ pos 1)) k) refl refl
  where
    C : ℤ → ℤ → Colour
    C = (continued f first rows).colour

    chosen : source k (C (pos i) (pos j)) (C (pos i) (pos j +ℤ pos 1)) (C (pos i +ℤ pos 1) (pos j)) (C (pos i +ℤ pos 1) (pos j +ℤ pos 1)) ≡ k
    chosen = source_is k n f.layout _ _ _ _ hl (after f.height i hH hi) (after f.width j hW hj)

    up : (z : ℤ) → C (pos i -ℤ pos 1) z ≡ C (pos i +ℤ pos 1) z
    up z = parity-colour _ _ _ _ _ (before f.height i hH hi ∙ sym (after f.height i hH hi)) refl

    left : (z : ℤ) → C z (pos j -ℤ pos 1) ≡ C z (pos j +ℤ pos 1)
    left z = parity-colour _ _ _ _ _ refl (before f.width j hW hj ∙ sym (after f.width j hW hj))

    go : (g r : Bool) → is_green (continued f first rows) (pos i) (pos j) ≡ g → same (C (pos i) (pos j +ℤ pos 1)) k ≡ r
        → Every (Has f k) (cond g (cond r (in_row f (pos i) (pos j)) (in_column f (pos i) (pos j))) (diagonal f (pos i) (pos j)))
    go true true g r = let e = rw (g, r) at chosen in (left _ ∙ e, (e, tt))
    go true false g r = let e = rw (g, r) at chosen in (up _ ∙ e, (e, tt))
    go false r g q = let e = rw (g, other) at chosen in (up _ ∙ left _ ∙ e, (up _ ∙ e, (left _ ∙ e, (e, tt))))
