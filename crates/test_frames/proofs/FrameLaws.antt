-- The readings of a test frame: their range, and its rows. Assumes nothing.
use Prim.Native.Nat.{ℕ, ◌+◌, ◌*◌, ◌^◌, ◌≤◌, ◌<◌}
use mathlib.Core.Path.{◌≡◌, sym, ap, ◌∙◌}
use native.Mathlib.Nat.{mul_comm, mul-le-mul}
use native.Mathlib.Omega.{arith}
use Rattle.lists.specs.Part.{part, row_of}
use Rattle.lists.specs.Bound.{AllAtMost}
use Rattle.lists.proofs.TableLaws.{table-part, table_same, table-all}
use Rattle.test_frames.specs.Generator.{affine, next, state_after, reading, readings_after}
use Rattle.test_frames.specs.TestFrame.{test_frame}
use Rattle.test_frames.specs.Jump.{jumped}
use Rattle.test_frames.proofs.IterateLaws.{iterate-next, iterate-add}
use Rattle.test_frames.proofs.JumpLaws.{jump-is}

next-state : (state : ℕ) → next state < 4294967296
unfolding affine
next-state state = omega arith

-- every reading is at most 4095
pub readings-range : (state n : ℕ) → AllAtMost 4095 (readings_after state n)
unfolding readings_after
readings-range state n = table-all (λ v. v ≤ 4095) _ n (omega arith) (λ t h. omega (arith, iterate-next next t state, next-state (state_after state t)))

-- n of m readings, from the a-th on
readings-part : (state m a n : ℕ) → a + n ≤ m → part a n (readings_after state m) ≡ readings_after (state_after state a) n
unfolding readings_after
readings-part state m a n h = table-part _ m a n h ∙ table_same _ _ n (λ k l. ap reading (later k))
  where
    later : (k : ℕ) → state_after state (a + k + 1) ≡ state_after (state_after state a) (k + 1)
    later k = let e : a + k + 1 ≡ a + (k + 1) = omega arith in ap (state_after state) e ∙ iterate-add next a (k + 1) state

-- a row by the walk from the state before it
pub row_is : (seed W H row : ℕ) → row < H → row_of W row (test_frame seed W H) ≡ readings_after (state_after seed (row * W)) W
unfolding row_of
row_is seed W H row h =
    let below : (row + 1) * W ≤ H * W = mul-le-mul {n₂ = H} {m₂ = W} (omega arith) (omega arith) in
    readings-part seed (W * H) (row * W) W (omega (arith, below, mul_comm W H))

-- A ROW MADE DIRECTLY, by a jump of row × W steps, is that row of the walk's frame
pub row-of-frame : (seed W H row : ℕ) → row < H → row * W < 2 ^ 64 → readings_after (jumped seed (row * W)) W ≡ row_of W row (test_frame seed W H)
row-of-frame seed W H row h fits = ap (λ s. readings_after s W) (jump-is seed (row * W) fits) ∙ sym (row_is seed W H row h)
