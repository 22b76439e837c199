-- The weights of a smoothing that is not 0. Assumes nothing.
use Prim.Native.Nat.{ℕ, zero, suc}
use mathlib.Core.Path.{◌≡◌, refl}
use Rattle.gbtf.specs.Weights.{tapered_weights, weights_of}

pub tapered-unless-0 : (smoothing : ℕ) → (smoothing ≡ 0 → ⊥) → weights_of smoothing ≡ tapered_weights
tapered-unless-0 zero h = absurd (h refl)
tapered-unless-0 (suc _) h = refl
