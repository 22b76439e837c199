-- A cell is green by the parity of its row and column together. Assumes nothing.
use mathlib.Core.Path.{◌≡◌, refl, sym, ◌∙◌, ap}
use mathlib.Core.Bool.{Bool, true, false, cond}
use Prim.Native.Nat.{ℕ, zero, suc, ◌+◌, ◌%◌, ◌≤◌, ◌<◌}
use native.Mathlib.Nat.{mod-mod}
use native.Mathlib.Omega.{arith}
use lib.Dec.{eqb}
use lib.IntN.{nat_abs, sub_ℕ}
use Rattle.whole.proofs.Pairs.{subₚ, abs-by}
use Rattle.bayer.specs.declared.colour.Colour.{Colour}
use Rattle.bayer.specs.declared.colour.Colour.TheVariants.{Green}
use Rattle.bayer.specs.Colour.{colours, colour_at, same, partner}
use Rattle.bayer.specs.Mirror.{mirror}
use Rattle.bayer.specs.Parity.{is_odd, starts_green}
use Rattle.bayer.proofs.ColourLaws.{parity-colour, mirror-colour, cells, by_layout}

-- whether the first cell of a layout is green
abbrev corner : (layout : ℕ) → ℕ
corner l = starts_green l 0

abbrev is : (l i j : ℕ) → Bool
is l i j = same (colour_at l i j) Green

abbrev shall : (l i j : ℕ) → Bool
shall l i j = is_odd (i + j + corner l)

-- one test of all layouts
test : cells is ≡ cells shall
unfolding colours colour_at
test = refl

pub odd-by : (a b : ℕ) → a % 2 ≡ b % 2 → is_odd a ≡ is_odd b
odd-by a b e = ap (λ n. eqb n 1) e

odd-bit : (n : ℕ) → n < 2 → n ≡ cond (eqb n 1) 1 0
odd-bit zero h = refl
odd-bit (suc zero) h = refl
odd-bit (suc (suc n)) h = absurd (let z : ⊥ = omega arith in z)

cell-green : (l i j : ℕ) → l ≤ 3 → same (colour_at l i j) Green ≡ is_odd (i + j + corner l)
cell-green l i j h =
    ap (λ c. same c Green) (parity-colour l i j (i % 2) (j % 2) (sym (mod-mod i 2)) (sym (mod-mod j 2)))
    ∙ by_layout is shall test l i j h
    ∙ odd-by (i % 2 + j % 2 + corner l) (i + j + corner l) (omega arith)

-- the parity of the position n − b
position-parity : (n b : ℕ) → nat_abs (sub_ℕ n b) % 2 ≡ (n + b) % 2
position-parity n b = rw (abs-by (subₚ n b)) (omega arith)

plus-parity : (a b x y : ℕ) → a % 2 ≡ b % 2 → x % 2 ≡ y % 2 → (a + x) % 2 ≡ (b + y) % 2
plus-parity a b x y e f = omega arith

-- q and v + g have one parity, where g is that of v + q
turned-parity : (v q : ℕ) → q % 2 ≡ (v + (v + 0 + q) % 2) % 2
turned-parity v q = omega arith

-- column 0 of row v
starts_is : (l v : ℕ) → l ≤ 3 → starts_green l v ≡ (v + 0 + corner l) % 2
starts_is l v h = ap (λ t. cond t 1 0) (cell-green l v 0 h) ∙ sym (odd-bit ((v + 0 + corner l) % 2) (omega arith))

-- and of row v + i
pub starts-next : (l v i : ℕ) → l ≤ 3 → starts_green l (v + i) ≡ (starts_green l v + i) % 2
starts-next l v i h = rw (starts_is l (v + i) h, starts_is l v h) (sum v i (corner l))
  where
    sum : (v i c : ℕ) → (v + i + 0 + c) % 2 ≡ ((v + 0 + c) % 2 + i) % 2
    sum v i c = omega arith

-- the cell at row n − b and column k − c
pub place-green : (l H W v n b k c o : ℕ) → l ≤ 3 → 2 ≤ H → 2 ≤ W → o % 2 ≡ (v + starts_green l v + n + b + k + c) % 2
    → is_odd o ≡ same (colour_at l (mirror H (sub_ℕ n b)) (mirror W (sub_ℕ k c))) Green
place-green l H W v n b k c o h hH hW p =
    sym (ap (λ x. same x Green) (mirror-colour l H W (sub_ℕ n b) (sub_ℕ k c) hH hW)
    ∙ cell-green l (nat_abs (sub_ℕ n b)) (nat_abs (sub_ℕ k c)) h
    ∙ odd-by (nat_abs (sub_ℕ n b) + nat_abs (sub_ℕ k c) + corner l) o (cells ∙ sym p))
  where
    corners : corner l % 2 ≡ (v + starts_green l v) % 2
    corners = rw (starts_is l v h) (turned-parity v (corner l))

    regroup : (a b c d e f : ℕ) → a + b + (c + d) + (e + f) ≡ e + f + a + b + c + d
    regroup a b c d e f = omega arith

    cells : (nat_abs (sub_ℕ n b) + nat_abs (sub_ℕ k c) + corner l) % 2 ≡ (v + starts_green l v + n + b + k + c) % 2
    cells =
        plus-parity (nat_abs (sub_ℕ n b) + nat_abs (sub_ℕ k c)) (n + b + (k + c)) (corner l) (v + starts_green l v)
        (plus-parity (nat_abs (sub_ℕ n b)) (n + b) (nat_abs (sub_ℕ k c)) (k + c) (position-parity n b) (position-parity k c)) corners
        ∙ ap (λ x. x % 2) (regroup n b k c v (starts_green l v))

pub starts-below : (l v : ℕ) → starts_green l v ≤ 1
starts-below l v = bit (same (colour_at l v 0) Green)
  where
    bit : (t : Bool) → cond t 1 0 ≤ 1
    bit true = omega arith
    bit false = omega arith

-- ---- the colours of row i, by the parity of the column

abbrev of_row : (l i j : ℕ) → Colour
of_row l i j = cond (is_odd (j % 2 + starts_green l i)) Green (partner l i)

-- one test of all layouts
of-rows : cells colour_at ≡ cells of_row
unfolding colours colour_at partner
of-rows = refl

by_row : (l i j : ℕ) → l ≤ 3 → colour_at l i j ≡ of_row l i j
unfolding colour_at partner
by_row l i j h = rw (← mod-mod i 2, ← mod-mod j 2) (by_layout colour_at of_row of-rows l i j h)

pub row-colour : (l i j : ℕ) → l ≤ 3 → colour_at l i j ≡ cond (is_odd (j + starts_green l i)) Green (partner l i)
row-colour l i j h = by_row l i j h ∙ ap (λ n. cond (eqb n 1) Green (partner l i)) (reduced j (starts_green l i))
  where
    reduced : (j o : ℕ) → (j % 2 + o) % 2 ≡ (j + o) % 2
    reduced j o = omega arith
