-- Numbers of several bytes, and a frame description among bytes. Assumes nothing.
use Rattle.std.specs.Prelude.{ℕ, zero, suc, ◌+◌, ◌*◌, List, get_or}
use Rattle.bayer.specs.declared.frame.Frame.{Frame}
use Rattle.bayer.specs.Frame.{smoothed}

-- a number of n bytes from byte `at` on, big-endian
unfoldable pub big_endian : (bytes : List ℕ) (at n : ℕ) → ℕ
big_endian bytes at zero = 0
big_endian bytes at (suc n) = big_endian bytes at n * 256 + get_or bytes (at + n) 0

-- from byte `at` on: W and H, two bytes each; one layout byte. The programs name smoothing 0, the even weights that they have always had (A.5)
abbrev pub frame_at : (bytes : List ℕ) (at : ℕ) → Frame
frame_at bytes at = smoothed (big_endian bytes at 2) (big_endian bytes (at + 2) 2) (get_or bytes (at + 4) 0) 0
