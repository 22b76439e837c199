-- THE ERROR OF GREEN (A.8): over a continued mosaic whose readings are at most 4095, green by logistic blend is within 125 hundredths of exact green; and it is at most 65520. Assumes nothing.
use mathlib.Core.Path.{refl}
use Prim.Native.Nat.{◌*◌, ◌≤◌}
use native.Mathlib.Omega.{arith}
use lib.Dec.{lit≤, lit<}
use lib.IntN.{ℤ}
use Rattle.whole.specs.Fraction.{natural, Within}
use Rattle.whole.proofs.Tests.{cond_both}
use Rattle.whole.proofs.FloorLaws.{clamp-le}
use Rattle.whole.proofs.FractionLaws.{within_same, within_wider, within-cond}
use Rattle.bayer.specs.Mosaic.{Mosaic, is_green}
use Rattle.blend.specs.Exponential.{Exponential}
use Rattle.blend.specs.Blend.{unclamped_blend, blend}
use Rattle.blend.specs.BlendAt.{row, column, blend_at, exact_blend_at}
use Rattle.blend.proofs.Bounds.{estimates-near}
use Rattle.blend.proofs.PixelError.{blend-within}

module _ (m : Mosaic) (range : (i j : ℤ) → m.reading i j ≤ 4095) where
  -- 1/2 + 24570/32768
  pub blend_at-within : (e : Exponential) (i j : ℤ) → Within (natural (blend_at m i j)) (exact_blend_at e m i j) 40954 32768
  unfolding blend_at exact_blend_at
  blend_at-within e i j =
      within-cond (is_green m i j)
      (within_wider {b = 1} 40954 32768 (lit< tt) (lit≤ tt) (within_same {x = natural (16 * m.reading i j)} {y = natural (16 * m.reading i j)} 1 refl))
      (blend-within e 24570 (row m i j) (column m i j) (estimates-near _ _ _ _ _ _ _ _ _ (range _ _) (range _ _) (range _ _) (range _ _) (range _ _) (range _ _) (range _ _) (range _ _)))

  pub green-error : (e : Exponential) (i j : ℤ) → Within (natural (blend_at m i j)) (exact_blend_at e m i j) 125 100
  green-error e i j = within_wider 125 100 (lit< tt) (lit≤ tt) (blend_at-within e i j)

  pub blend_at-range : (i j : ℤ) → blend_at m i j ≤ 65520
  unfolding blend_at blend
  blend_at-range i j = cond_both (λ n. n ≤ 65520) (is_green m i j) (16 * m.reading i j) (blend (row m i j) (column m i j)) (omega (arith, range i j)) (clamp-le (unclamped_blend (row m i j) (column m i j)))
