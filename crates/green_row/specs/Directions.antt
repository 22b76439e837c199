-- The four directions of column j of a row, from buffers of differences and gradients whose rows are s places wide. Assumes nothing.
use Rattle.std.specs.Prelude.{ℕ, zero, suc, ◌+◌, ◌-◌, ◌*◌, ◌/◌, List, [], ◌∷◌, ℤ, pos, get_or}
use Rattle.gbtf.specs.declared.direction.Direction.{Direction}
use Rattle.gbtf.specs.Direction.{direction_sum, alternating, five_sum, direction}

-- the window from place q on
abbrev pub three_in : (g : List ℕ) → ℕ → List ℕ
three_in g q = get_or g q 0 ∷ get_or g (q + 1) 0 ∷ get_or g (q + 2) 0 ∷ []

abbrev pub window_in : (s : ℕ) (g : List ℕ) → ℕ → List (List ℕ)
window_in s g q = three_in g q ∷ three_in g (q + s) ∷ three_in g (q + 2 * s) ∷ []

-- five differences from place p on, step apart, after it or before it
abbrev pub after : (step : ℕ) (d : List ℤ) (p : ℕ) → ℕ → ℤ
after step d p k = get_or d (p + k * step) (pos 0)

abbrev pub before : (step : ℕ) (d : List ℤ) (p : ℕ) → ℕ → ℤ
before step d p k = get_or d (p - k * step) (pos 0)

-- place p of five lists
abbrev pub across : (a b c d e : List ℤ) (p : ℕ) → ℕ → ℤ
across a b c d e p k = get_or (get_or a p (pos 0) ∷ get_or b p (pos 0) ∷ get_or c p (pos 0) ∷ get_or d p (pos 0) ∷ get_or e p (pos 0) ∷ []) k (pos 0)

-- The buffers are drawn in green_blocks/specs/Block. Direction 0 is east, 1 west, 2 north, and every one from 3 on south. dh and gh hold the differences and gradients along the row, of the row before, the row and the row after;
-- dv holds the differences along the column of the four rows before to the four rows after. Place j + 7 of a row of dh and dv is column j. gh starts two places later: its place j + 5 is column j.
-- tv holds three rows of h direction sums, of gradients along the column: of windows about pixels of the row before, of the row, and of the row after.
-- In the first and the last of them place i is that of the row's red or blue pixel i, whose column is 2 i or 2 i + 1

-- direction k's five-sum at column j, of a red or blue pixel
abbrev pub five_in : (ws : List ℕ) (s : ℕ) (dh dv : List ℤ) (k j : ℕ) → ℤ
five_in ws s dh dv zero j = five_sum ws (alternating (after 1 dh (s + (j + 7))))
five_in ws s dh dv (suc zero) j = five_sum ws (alternating (before 1 dh (s + (j + 7))))
five_in ws s dh dv (suc (suc zero)) j = five_sum ws (alternating (before s dv (4 * s + (j + 7))))
five_in ws s dh dv (suc (suc (suc k))) j = five_sum ws (alternating (after s dv (4 * s + (j + 7))))

-- its direction sum
abbrev pub sum_in : (s h : ℕ) (gh tv : List ℕ) (k j : ℕ) → ℕ
sum_in s h gh tv zero j = direction_sum (window_in s gh (j + 5))
sum_in s h gh tv (suc zero) j = direction_sum (window_in s gh (j + 3))
sum_in s h gh tv (suc (suc zero)) j = get_or tv (j / 2) 0
sum_in s h gh tv (suc (suc (suc k))) j = get_or tv (2 * h + j / 2) 0

abbrev pub direction_in : (ws : List ℕ) (s h : ℕ) (dh dv : List ℤ) (gh tv : List ℕ) (j k : ℕ) → Direction
direction_in ws s h dh dv gh tv j k = direction (five_in ws s dh dv k j) (sum_in s h gh tv k j)

-- the weights that give the same five-sum if its five differences are taken the other way round
abbrev pub reversed : (ws : List ℕ) → List ℕ
reversed ws = get_or ws 4 0 ∷ get_or ws 3 0 ∷ get_or ws 2 0 ∷ get_or ws 1 0 ∷ get_or ws 0 0 ∷ []

-- direction k of pixel i of n, where f holds their five-sums, first all of direction 0, then of 1, 2 and 3; t holds the direction sums along the row, place i that of west and place i + 1 that of east; and tv as above
abbrev pub direction_from : (n h : ℕ) (t tv : List ℕ) (f : List ℤ) (i k : ℕ) → Direction
direction_from n h t tv f i zero = direction (get_or f i (pos 0)) (get_or t (i + 1) 0)
direction_from n h t tv f i (suc zero) = direction (get_or f (n + i) (pos 0)) (get_or t i 0)
direction_from n h t tv f i (suc (suc zero)) = direction (get_or f (2 * n + i) (pos 0)) (get_or tv i 0)
direction_from n h t tv f i (suc (suc (suc k))) = direction (get_or f (3 * n + i) (pos 0)) (get_or tv (2 * h + i) 0)
