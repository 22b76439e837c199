-- Parts of a list, and its rows. Assumes nothing.
use Rattle.std.specs.Prelude.{ℕ, ◌+◌, ◌*◌, List, ◌++◌, length, take, drop}

-- k entries of l, from entry a on
abbrev pub part : {A : Type 0} → (a k : ℕ) (l : List A) → List A
part a k l = take k (drop a l)

-- l with `new` in place of as many entries, from entry a on
abbrev pub put : {A : Type 0} → (a : ℕ) (new l : List A) → List A
put a new l = take a l ++ (new ++ drop (a + length new) l)

-- row i of a plane or a mosaic that is w wide: w entries from the (i w)th on
unfoldable pub row_of : (w i : ℕ) → List ℕ → List ℕ
row_of w i plane = part (i * w) w plane
