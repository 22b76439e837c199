-- The range of green: where readings are at most 4095, green is at most 65520. Assumes nothing.
use mathlib.Core.List.{List}
use Prim.Native.Nat.{ℕ, ◌≤◌}
use native.Mathlib.Omega.{arith}
use lib.IntN.{ℤ}
use Rattle.whole.proofs.Tests.{cond_both}
use Rattle.whole.proofs.FloorLaws.{clamp-le}
use Rattle.bayer.specs.Mosaic.{Mosaic, is_green}
use Rattle.gbtf.specs.declared.direction.Direction.{Direction}
use Rattle.gbtf.specs.Fusion.{unclamped_green, green}
use Rattle.gbtf.specs.GreenAt.{green_at}

green-range : (K T c : ℕ) (d : Direction) (l : List Direction) → green K T c d l ≤ 65520
unfolding green
green-range K T c d l = clamp-le (unclamped_green K T c d l)

pub green_at-range : (m : Mosaic) → ((i j : ℤ) → m.reading i j ≤ 4095) → (ws : List ℕ) (K : ℕ) (i j : ℤ) → green_at ws m i j K ≤ 65520
unfolding green_at
green_at-range m range ws K i j = cond_both (λ x. x ≤ 65520) (is_green m i j) _ _ (omega (arith, range i j)) (green-range _ _ _ _ _)
