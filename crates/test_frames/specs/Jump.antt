-- A jump of r steps, by doublings. Assumes nothing.
use Rattle.std.specs.Prelude.{ℕ, zero, suc, ◌/◌, ◌%◌, cond, eqb}
use Rattle.test_frames.specs.Generator.{affine, multiplier, increment}

-- x, moved on by a x + c where r is odd
abbrev pub odd_move : (r a c x : ℕ) → ℕ
odd_move r a c x = cond (eqb (r % 2) 1) (affine a c x) x

-- r moves by a x + c, for r below 2^doublings: at each doubling one move where r is odd, and then half as many moves, each of them two.
-- Two moves are one of the same kind: a (a x + c) + c is a a x + (a c + c)
unfoldable pub moved : (doublings a c r x : ℕ) → ℕ
moved zero a c r x = x
moved (suc k) a c r x = moved k (affine a 0 a) (affine a c c) (r / 2) (odd_move r a c x)

-- a jump of r steps, for a 64-bit r
abbrev pub jumped : (state r : ℕ) → ℕ
jumped state r = moved 64 multiplier increment r state
