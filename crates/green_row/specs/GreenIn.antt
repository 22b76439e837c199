-- Green at each column of a row, from buffers. Assumes nothing.
use Rattle.std.specs.Prelude.{ℕ, ◌+◌, ◌*◌, ◌/◌, cond, List, [], ◌∷◌, ℤ, pos, ◌+ℤ◌, length, get_or}
use Rattle.whole.specs.Clamp.{clamp}
use Rattle.bayer.specs.Parity.{is_odd}
use Rattle.gbtf.specs.declared.direction.Direction.{Direction}
use Rattle.gbtf.specs.Direction.{total}
use Rattle.gbtf.specs.Fusion.{fused}
use Rattle.green_row.specs.Directions.{direction_in}

-- what fusion adds, by the directions D 0 to D 3
unfoldable pub fused_by : (K T : ℕ) (D : ℕ → Direction) → ℤ
fused_by K T D = fused K T (D 0) (D 1 ∷ D 2 ∷ D 3 ∷ [])

-- green at column j of a row of readings x, of which column j is green where j + odd is odd, from what fusion adds at the others
abbrev pub green_by : (odd : ℕ) (x : List ℕ) (added : ℕ → ℤ) (j : ℕ) → ℕ
green_by odd x added j = cond (is_odd (j + odd)) (16 * get_or x j 0) (clamp (pos (16 * get_or x j 0) +ℤ added j))

-- where that is by the differences, the gradients and the direction sums along the column
unfoldable pub green_in : (K : ℕ) (ws : List ℕ) (s odd : ℕ) (x : List ℕ) (dh dv : List ℤ) (gh tv : List ℕ) (j : ℕ) → ℕ
green_in K ws s odd x dh dv gh tv j = green_by odd x (λ i. fused_by K (total ws) (direction_in ws s ((length x + 1) / 2) dh dv gh tv i)) j
