-- Red and blue of a row, from rows of readings and of greens: what the lists of HalfFill are shown to give. Assumes nothing.
use Rattle.std.specs.Prelude.{ℕ, ◌+◌, ◌*◌, cond, List, [], ◌∷◌, ℤ, get_or}
use Rattle.std.proofs.Math.IntN.{sub_ℕ}
use Rattle.bayer.specs.Mirror.{mirror}
use Rattle.bayer.specs.Parity.{is_odd}
use Rattle.demosaic.specs.Fill.{colour_difference, sum_of, fill}

-- the columns that are read left and right of column j, in a row w wide
abbrev pub left_of : (w j : ℕ) → ℕ
left_of w j = mirror w (sub_ℕ j 1)

abbrev pub right_of : (w j : ℕ) → ℕ
right_of w j = mirror w (sub_ℕ (j + 1) 0)

-- green minus 16 × reading, at column p of readings x and greens g
abbrev pub colour_difference_at : (x g : List ℕ) → ℕ → ℤ
colour_difference_at x g p = colour_difference (get_or g p 0) (get_or x p 0)

-- the plane of the colour that shares the row with green, which is at the columns j where j + odd is odd
unfoldable pub own_in : (w odd : ℕ) (x g : List ℕ) (j : ℕ) → ℕ
own_in w odd x g j =
    cond (is_odd (j + odd)) (fill 2 (get_or g j 0) (sum_of (colour_difference_at x g (left_of w j) ∷ colour_difference_at x g (right_of w j) ∷ []))) (16 * get_or x j 0)

-- the plane of the colour that does not, from the rows above, xa and ga, and below, xb and gb
unfoldable pub other_in : (w odd : ℕ) (g xa ga xb gb : List ℕ) (j : ℕ) → ℕ
other_in w odd g xa ga xb gb j =
    cond (is_odd (j + odd)) (fill 2 (get_or g j 0) (sum_of (colour_difference_at xa ga j ∷ colour_difference_at xb gb j ∷ [])))
    (fill 4 (get_or g j 0) (sum_of (colour_difference_at xa ga (left_of w j) ∷ colour_difference_at xa ga (right_of w j) ∷ colour_difference_at xb gb (left_of w j) ∷ colour_difference_at xb gb (right_of w j) ∷ [])))
