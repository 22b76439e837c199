-- Green by logistic blend, and exact green, of a row depend on the two rows above it to the two rows below it only. Assumes nothing.
use mathlib.Core.Path.{◌≡◌}
use mathlib.Core.Bool.{cond}
use Prim.Native.Nat.{ℕ, ◌+◌, ◌*◌, ◌≤◌}
use native.Mathlib.Omega.{arith}
use lib.Dec.{lit≤}
use lib.IntN.{ℤ, pos, ◌+ℤ◌, ◌-ℤ◌}
use Rattle.whole.specs.Fraction.{natural}
use Rattle.bayer.specs.declared.colour.Colour.{Colour}
use Rattle.bayer.specs.Mosaic.{Mosaic, is_green}
use Rattle.bayer.proofs.Near.{Near, wider, plus, minus}
use Rattle.blend.specs.Exponential.{Exponential}
use Rattle.blend.specs.Blend.{axis, blend}
use Rattle.blend.specs.Exact.{exact_blend}
use Rattle.blend.specs.BlendAt.{row, column, blend_at, exact_blend_at}

module _ (colour : ℤ → ℤ → Colour) (m n : ℤ → ℤ → ℕ) (i : ℤ) where
  abbrev x : Mosaic
  x = record { reading = m; colour = colour }

  abbrev y : Mosaic
  y = record { reading = n; colour = colour }

  -- two mosaics that agree on the rows at most d + 2 away from row i have the same greens on the rows at most d away
  module _ (d : ℕ) (agree : (r : ℤ) → Near (d + 2) i r → m r ≡ n r) (r : ℤ) (h : Near d i r) (j : ℤ) where
    here : m r ≡ n r
    here = agree r (wider (d + 2) r h (omega arith))

    above : (k : ℕ) → k ≤ 2 → m (r -ℤ pos k) ≡ n (r -ℤ pos k)
    above k l = agree (r -ℤ pos k) (minus (d + 2) k r h (omega arith))

    below : (k : ℕ) → k ≤ 2 → m (r +ℤ pos k) ≡ n (r +ℤ pos k)
    below k l = agree (r +ℤ pos k) (plus (d + 2) k r h (omega arith))

    row_same : row x r j ≡ row y r j
    row_same = λ t. axis (here t j) (here t (j -ℤ pos 1)) (here t (j +ℤ pos 1)) (here t (j -ℤ pos 2)) (here t (j +ℤ pos 2))

    column-same : column x r j ≡ column y r j
    column-same = λ t. axis (here t j) (above 1 (lit≤ tt) t j) (below 1 (lit≤ tt) t j) (above 2 (lit≤ tt) t j) (below 2 (lit≤ tt) t j)

    pub blend_at-local : blend_at x r j ≡ blend_at y r j
    unfolding blend_at
    blend_at-local = λ t. cond (is_green x r j) (16 * here t j) (blend (row_same t) (column-same t))

    pub exact_blend_at-local : (e : Exponential) → exact_blend_at e x r j ≡ exact_blend_at e y r j
    unfolding exact_blend_at
    exact_blend_at-local e = λ t. cond (is_green x r j) (natural (16 * here t j)) (exact_blend e (row_same t) (column-same t))

  -- as GBTF's green needs them: 7 rows for the rows at most one away
  module _ (agree : (r : ℤ) → Near 7 i r → m r ≡ n r) where
    pub blend_at-same : (r : ℤ) → Near 1 i r → (j : ℤ) → blend_at x r j ≡ blend_at y r j
    blend_at-same r h j = blend_at-local 5 agree r (wider 5 r h (lit≤ tt)) j

    pub exact_blend_at-same : (e : Exponential) (r : ℤ) → Near 1 i r → (j : ℤ) → exact_blend_at e x r j ≡ exact_blend_at e y r j
    exact_blend_at-same e r h j = exact_blend_at-local 5 agree r (wider 5 r h (lit≤ tt)) j e
