-- The printed error for any weights of the five differences, of which a strip call offers two. Assumes nothing.
use mathlib.Core.Path.{◌≡◌, refl}
use mathlib.Core.List.{List}
use Prim.Native.Nat.{ℕ, ◌+◌, ◌≤◌, ◌<◌}
use lib.Dec.{lit≤}
use lib.IntN.{ℤ, pos}
use Rattle.whole.specs.Fraction.{natural, Within}
use Rattle.bayer.specs.declared.colour.Colour.{Colour}
use Rattle.bayer.specs.declared.frame.Frame.{Frame}
use Rattle.bayer.specs.Mosaic.{Mosaic, continued}
use Rattle.gbtf.specs.Direction.{total}
use Rattle.gbtf.specs.Weights.{scale, weights_of, total-above0}
use Rattle.gbtf.specs.GreenAt.{green_at, exact_green_at}
use Rattle.gbtf.proofs.GreenBound.{green_at-sharp}
use Rattle.green_rule.specs.Greens.{greens, exact_greens}
use Rattle.demosaic.specs.Sample.{sample_from, sample}
use Rattle.demosaic.specs.Exact.{exact_from, exact_sample, printed_error}
use Rattle.demosaic.proofs.SampleError.{sample_from-within}

-- A.5: whole weights ws, none below 0, of any fixed total T above 0, where fusion adds the floor of (8N + TS) / (2TS) (`fusion`) and the exact form has 4/T (`exact_green`). The figures are A.4's
pub weights-error : (ws : List ℕ) (h : 0 < total ws) (f : Frame) (m : Mosaic) → ((i j : ℤ) → m.reading i j ≤ 4095)
    → (k : Colour) (i j : ℤ) → Within (natural (sample_from f m (λ i j. green_at ws m i j scale) k i j)) (exact_from f m (λ i j. exact_green_at ws m i j h) k i j) (printed_error k) 100
weights-error ws h f m range =
    sample_from-within f m (λ i j. green_at ws m i j scale) (λ i j. exact_green_at ws m i j h) (scale + 786240) scale (green_at-sharp m range ws h scale (lit≤ tt)) printed_error (lit≤ tt) (lit≤ tt) (lit≤ tt) (lit≤ tt)

-- the weights of a frame's smoothing are such
module _ (f : Frame) (first : ℕ) (rows : List ℕ) (k : Colour) (i j : ℕ) where
  abbrev m : Mosaic
  m = continued f first rows

  pub sample-weighted : sample f first rows k i j ≡ sample_from f m (λ i j. green_at (weights_of f.smoothing) m i j scale) k (pos i) (pos j)
  unfolding sample greens
  sample-weighted = refl

  pub exact-weighted : exact_sample f first rows k i j ≡ exact_from f m (λ i j. exact_green_at (weights_of f.smoothing) m i j (total-above0 f.smoothing)) k (pos i) (pos j)
  unfolding exact_sample exact_greens
  exact-weighted = refl
