-- The statistics of a plane. Assumes nothing.
use Rattle.std.specs.Prelude.{ℕ, ◌+◌, min, max, List, [], ◌∷◌}

-- v, joined by f with one entry after the other
unfoldable pub fold : (f : ℕ → ℕ → ℕ) (v : ℕ) → List ℕ → ℕ
fold f v [] = v
fold f v (x ∷ l) = fold f (f v x) l

-- the first entry, joined with the others. (A plane with no sample, which no frame has: 0)
unfoldable pub folded : (f : ℕ → ℕ → ℕ) → List ℕ → ℕ
folded f [] = 0
folded f (x ∷ l) = fold f x l

-- of a plane: smallest, largest, sum
abbrev pub smallest : List ℕ → ℕ
smallest = folded min

abbrev pub largest : List ℕ → ℕ
largest = folded max

abbrev pub sum : List ℕ → ℕ
sum = fold ◌+◌ 0
