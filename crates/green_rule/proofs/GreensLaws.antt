-- What holds of the greens of a frame, however they are worked out: the observed ones, their range, their distance from the exact greens, and what they depend on. Assumes nothing.
use mathlib.Core.Path.{◌≡◌}
use mathlib.Core.Bool.{true}
use mathlib.Core.List.{List}
use Prim.Native.Nat.{ℕ, ◌*◌, ◌-◌, ◌≤◌}
use lib.Dec.{lit≤}
use lib.IntN.{ℤ}
use Rattle.whole.specs.Fraction.{natural, Within}
use Rattle.whole.proofs.FractionLaws.{within_wider}
use Rattle.lists.specs.Bound.{AllAtMost}
use Rattle.lists.proofs.BoundLaws.{row-at-most}
use Rattle.bayer.specs.declared.frame.Frame.{Frame}
use Rattle.bayer.specs.Mirror.{mirror}
use Rattle.bayer.specs.Mosaic.{continued, is_green}
use Rattle.bayer.proofs.Near.{Near}
use Rattle.gbtf.specs.Weights.{scale, weights_of, total-above0}
use Rattle.gbtf.specs.GreenAt.{green_at}
use Rattle.gbtf.proofs.GreenBound.{green_at-sharp}
use Rattle.gbtf.proofs.GreenRange.{green_at-range}
use Rattle.gbtf.proofs.GreenLocal.{green_at-same, exact_green_at-same}
use Rattle.green_rule.specs.Greens.{greens, exact_greens, green_thousandths}

-- at a green pixel green is 16 times the reading
pub greens-observed : (f : Frame) (first : ℕ) (rows : List ℕ) (i j : ℤ) → is_green (continued f first rows) i j ≡ true → greens f first rows i j ≡ 16 * (continued f first rows).reading i j
unfolding greens green_at
greens-observed f first rows i j e = rw e

-- where the readings are at most 4095
module _ (f : Frame) (first : ℕ) (rows : List ℕ) (range : AllAtMost 4095 rows) where
  pub reading-range : (i j : ℤ) → (continued f first rows).reading i j ≤ 4095
  reading-range i j = row-at-most f.width (mirror f.height i - first) rows range (mirror f.width j)

  pub greens-range : (i j : ℤ) → greens f first rows i j ≤ 65520
  unfolding greens
  greens-range = green_at-range (continued f first rows) reading-range (weights_of f.smoothing) scale

  pub greens-near : (i j : ℤ) → Within (natural (greens f first rows i j)) (exact_greens f first rows i j) green_thousandths 1000
  unfolding greens exact_greens
  greens-near i j = within_wider green_thousandths 1000 (lit≤ tt) (lit≤ tt) (green_at-sharp (continued f first rows) reading-range (weights_of f.smoothing) (total-above0 f.smoothing) scale (lit≤ tt) i j)

-- rows from `first` on in xs, and from `other` on in ys, that continue to the same readings at most 7 rows away from row i give the same greens at most one row away
module _ (f : Frame) (first other : ℕ) (xs ys : List ℕ) (i : ℤ) (agree : (r : ℤ) → Near 7 i r → (continued f first xs).reading r ≡ (continued f other ys).reading r) (r : ℤ) (h : Near 1 i r) (j : ℤ) where
  pub greens-local : greens f first xs r j ≡ greens f other ys r j
  unfolding greens
  greens-local = green_at-same _ _ _ i agree (weights_of f.smoothing) r h j scale

  pub exact_greens-local : exact_greens f first xs r j ≡ exact_greens f other ys r j
  unfolding exact_greens
  exact_greens-local = exact_green_at-same _ _ _ i agree (weights_of f.smoothing) r h j (total-above0 f.smoothing)
