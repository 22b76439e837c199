-- Shares and fusion (source 004, equations 9, 10 and 12): green at a red or blue pixel, from its directions. K is the share scale (2^24), T the total of the weights (5 or 100).
-- Over a first direction d and any list l of others, of which document 01 has three. Assumes nothing.
use Rattle.std.specs.Prelude.{ℕ, ◌+◌, ◌*◌, ◌/◌, min, List, [], ◌∷◌, ℤ, pos, ◌+ℤ◌, ◌*ℤ◌}
use Rattle.whole.specs.Floor.{floor_div}
use Rattle.whole.specs.Clamp.{clamp}
use Rattle.gbtf.specs.declared.direction.Direction.{Direction}
use Rattle.gbtf.specs.Direction.{guarded_sum}

-- m: the smallest guarded sum
abbrev pub smallest_sum : Direction → List Direction → ℕ
smallest_sum d [] = guarded_sum d
smallest_sum d (e ∷ l) = min (guarded_sum d) (smallest_sum e l)

-- document 01's share q of a direction: the floor of K m² / t². The weight of equation 10 is 1 / t²
abbrev pub share : (K m t : ℕ) → ℕ
share K m t = K * (m * m) / (t * t)

-- S: the sum of the shares q
abbrev pub shares : (K m : ℕ) → List Direction → ℕ
shares K m [] = 0
shares K m (d ∷ l) = share K m (guarded_sum d) + shares K m l

-- N: the sum of q × A
abbrev pub shared_differences : (K m : ℕ) → List Direction → ℤ
shared_differences K m [] = pos 0
shared_differences K m (d ∷ l) = pos (share K m (guarded_sum d)) *ℤ d.five +ℤ shared_differences K m l

-- what fusion adds: the floor of (8N + TS) / (2TS). The mean of equation 9, in units, is 4N / (TS)
unfoldable pub fusion : (N : ℤ) (S T : ℕ) → ℤ
fusion N S T = floor_div (pos 8 *ℤ N +ℤ pos (T * S)) (2 * (T * S))

-- of the directions
abbrev pub fused : (K T : ℕ) → Direction → List Direction → ℤ
fused K T d l = let m = smallest_sum d l in fusion (shared_differences K m (d ∷ l)) (shares K m (d ∷ l)) T

-- green in units before it is clamped, c the reading (equation 12)
abbrev pub unclamped_green : (K T c : ℕ) → Direction → List Direction → ℤ
unclamped_green K T c d l = pos (16 * c) +ℤ fused K T d l

-- clamped: document 01 says "stopped"
unfoldable pub green : (K T c : ℕ) → Direction → List Direction → ℕ
green K T c d l = clamp (unclamped_green K T c d l)
