-- A text that is put into a lent buffer. Assumes nothing.
use Rattle.std.specs.Prelude.{ℕ, ◌+◌, ◌≤◌, ◌<◌, ◌≡◌, List, length}
use Rattle.lists.specs.Part.{put}

-- from byte `at` on, up to byte `end`; the other bytes are as they were
pub record Written (text : List ℕ) (at : ℕ) (before after : List ℕ) (end : ℕ) : Type 0 where
  pub until : end ≡ at + length text
  pub bytes : after ≡ put at text before

-- at the start of a buffer of 105 bytes at least; a shorter one is left alone, and the answer is 0
pub record Answered (text before after : List ℕ) (end : ℕ) : Type 0 where
  pub written : 105 ≤ length before → Written text 0 before after end × (end ≤ 105)
  pub short : length before < 105 → (end ≡ 0) × (after ≡ before)
