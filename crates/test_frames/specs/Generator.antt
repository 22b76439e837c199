-- The generator of test frames: its states, and the readings that they give. Assumes nothing.
use Rattle.std.specs.Prelude.{ℕ, zero, suc, ◌+◌, ◌*◌, ◌/◌, ◌%◌, List}
use Rattle.lists.specs.Table.{table}

-- a x + c, modulo 2^32
unfoldable pub affine : (a c x : ℕ) → ℕ
affine a c x = (a * x + c) % 4294967296

abbrev pub multiplier : ℕ
multiplier = 1664525

abbrev pub increment : ℕ
increment = 1013904223

-- the next state; a state is a 32-bit number
abbrev pub next : (state : ℕ) → ℕ
next state = affine multiplier increment state

-- f, r times over
unfoldable pub iterate : (f : ℕ → ℕ) (r x : ℕ) → ℕ
iterate f zero x = x
iterate f (suc r) x = f (iterate f r x)

-- the state after r single steps
abbrev pub state_after : (state r : ℕ) → ℕ
state_after state r = iterate next r state

-- a reading is the new state divided by 2^20, rounded down
abbrev pub reading : (new : ℕ) → ℕ
reading new = new / 1048576

-- the readings of the n states that come after a state
unfoldable pub readings_after : (state n : ℕ) → List ℕ
readings_after state n = table (λ t. reading (state_after state (t + 1))) n
