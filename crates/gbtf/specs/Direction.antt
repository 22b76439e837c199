-- What green takes from one direction: its direction sum, guarded (source 004, equation 10), and its five-sum (equation 9). Assumes nothing.
use Rattle.std.specs.Prelude.{ℕ, ◌+◌, max, List, [], ℤ, pos, ◌+ℤ◌, ◌*ℤ◌, get_or}
use Rattle.bayer.specs.Parity.{is_odd}
use Rattle.gbtf.specs.declared.direction.Direction.{Direction}
use Rattle.gbtf.specs.Difference.{turned}

-- document 01's direction sum: the nine gradients of a window, which stand as three rows of three (equation 10)
abbrev pub sum3 : (ℕ → ℕ) → ℕ
sum3 f = f 0 + f 1 + f 2

abbrev pub direction_sum : List (List ℕ) → ℕ
direction_sum w = sum3 (λ i. sum3 (λ j. get_or (get_or w i []) j 0))

-- a sum, guarded: max(s, 4). Source 000 guards the square by max(square, 1); four quarter steps are 1
abbrev pub guarded : ℕ → ℕ
guarded s = max s 4

-- document 01's five-sum A: the five differences from the pixel outward, by their weights: five ones in 01 (equation 9), and those of smoothing 1 in 02 (A.5)
abbrev pub five_sum : (weights : List ℕ) (D : ℕ → ℤ) → ℤ
five_sum ws D =
    pos (get_or ws 0 0) *ℤ D 0 +ℤ pos (get_or ws 1 0) *ℤ D 1 +ℤ pos (get_or ws 2 0) *ℤ D 2 +ℤ pos (get_or ws 3 0) *ℤ D 3 +ℤ pos (get_or ws 4 0) *ℤ D 4

-- differences from a red or blue pixel outward, each worked out as at a red or blue centre: every second one is at a green centre
abbrev pub alternating : (D : ℕ → ℤ) → ℕ → ℤ
alternating D k = turned (is_odd k) (D k)

-- the weights' total T
abbrev pub total : (weights : List ℕ) → ℕ
total ws = get_or ws 0 0 + get_or ws 1 0 + get_or ws 2 0 + get_or ws 3 0 + get_or ws 4 0

-- a direction, of five-sum A and direction sum s
abbrev pub direction : (A : ℤ) (s : ℕ) → Direction
direction A s = record { five = A; sum = s }

-- document 01's t
abbrev pub guarded_sum : Direction → ℕ
guarded_sum d = guarded d.sum
