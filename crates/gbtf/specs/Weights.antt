-- Document 02's share scale (A.4), and the weights of the five differences by the frame description's smoothing (A.5). Assumes nothing.
use Rattle.std.specs.Prelude.{ℕ, zero, suc, ◌<◌, List, [], ◌∷◌}
use Rattle.std.proofs.Common.{lit≤}
use Rattle.gbtf.specs.Direction.{total}

abbrev pub scale : ℕ
scale = 16777216

-- smoothing 0 (document 02's choice 0): even, as in document 01
abbrev pub even_weights : List ℕ
even_weights = 1 ∷ 1 ∷ 1 ∷ 1 ∷ 1 ∷ []

-- smoothing 1 (choice 1): in hundredths, from the pixel outward (source 000, equation 31)
abbrev pub tapered_weights : List ℕ
tapered_weights = 26 ∷ 24 ∷ 21 ∷ 17 ∷ 12 ∷ []

-- a smoothing above 1 is refused by strip calls; that it has weights too makes this total
abbrev pub weights_of : (smoothing : ℕ) → List ℕ
weights_of zero = even_weights
weights_of (suc _) = tapered_weights

-- T is above 0
pub total-above0 : (smoothing : ℕ) → 0 < total (weights_of smoothing)
total-above0 zero = lit≤ tt
total-above0 (suc _) = lit≤ tt
