-- What a list of calls does to three whole planes of W × H samples. Nothing here knows a rule: `Holds k i j s` says what the sample s of plane k at row i and column j shall be. Assumes nothing.
use Rattle.std.specs.Prelude.{◌≡◌, ◌⊎◌, List, [], ◌∷◌, ℕ, ◌+◌, ◌*◌, ◌≤◌, ◌<◌, length, get_or}
use Rattle.lists.specs.Part.{part, put}
use Rattle.bayer.specs.declared.colour.Colour.{Colour}
use Rattle.bayer.specs.Planes.{Planes}

-- a call of the list: accepted, for n rows from row a; or refused, and lent any part of each plane
pub data Call : Type 0 where
  accepted : (a n : ℕ) → Call
  refused : (from size : Colour → ℕ) → Call

-- n rows of W samples of plane k, from row a on, are what they shall be
pub record Rows (W : ℕ) (Holds : Colour → (i j s : ℕ) → Type 0) (k : Colour) (a n : ℕ) (new : List ℕ) : Type 0 where
  pub size : length new ≡ n * W
  pub each : (i j : ℕ) → i < n → j < W → Holds k (a + i) j (get_or new (i * W + j) 0)

module _ (W H : ℕ) (Holds : Colour → (i j s : ℕ) → Type 0) where
  -- a call finds the planes p and leaves q: accepted, it puts such rows in their place; refused, it leaves what it was lent
  abbrev pub Step : Call → (p q : Planes) → Type 0
  Step (accepted a n) p q = (a + n ≤ H) × ((k : Colour) → (new : List ℕ) × Rows W Holds k a n new × (q k ≡ put (a * W) new (p k)))
  Step (refused from size) p q = (k : Colour) → (from k + size k ≤ length (p k)) × (q k ≡ put (from k) (part (from k) (size k) (p k)) (p k))

  -- a list of calls finds p and leaves q: each call finds what the one before it left
  abbrev pub Runs : List Call → (p q : Planes) → Type 0
  Runs [] p q = (k : Colour) → q k ≡ p k
  Runs (c ∷ l) p q = (m : Planes) × Step c p m × Runs l m q

-- an accepted call covers row i
abbrev pub Covers : Call → (i : ℕ) → Type 0
Covers (accepted a n) i = (a ≤ i) × (i < a + n)
Covers (refused from size) i = ⊥

abbrev pub Covered : List Call → (i : ℕ) → Type 0
Covered [] i = ⊥
Covered (c ∷ l) i = Covers c i ⊎ Covered l i

-- after the list: every plane has its length, every covered row holds what it shall, and every other row is as it was
pub record After (W H : ℕ) (Holds : Colour → (i j s : ℕ) → Type 0) (l : List Call) (p q : Planes) : Type 0 where
  pub lengths : (k : Colour) → length (q k) ≡ W * H
  pub covered : (k : Colour) (i j : ℕ) → Covered l i → j < W → Holds k i j (get_or (q k) (i * W + j) 0)
  pub others : (k : Colour) (i j : ℕ) → ¬ Covered l i → j < W → get_or (q k) (i * W + j) 0 ≡ get_or (p k) (i * W + j) 0
