-- Bounds on the entries of a list. Assumes nothing.
use Rattle.std.specs.Prelude.{ℕ, ◌≤◌, Bool, List, ltb, ℤ, pos, nat_abs, get_or}
use Rattle.lists.specs.Any.{any}

-- every one is at most m, also in magnitude
abbrev pub AllAtMost : (m : ℕ) → List ℕ → Type 0
AllAtMost m l = (k : ℕ) → get_or l k 0 ≤ m

abbrev pub AllWithin : (m : ℕ) → List ℤ → Type 0
AllWithin m l = (k : ℕ) → nat_abs (get_or l k (pos 0)) ≤ m

-- some one is above m
abbrev pub any_above : (m : ℕ) → List ℕ → Bool
any_above m l = any (ltb m) l
