-- The neighbours that a colour is filled from: two in the row, two in the column, or four. What holds of each of the three lists holds of them. Assumes nothing.
use mathlib.Core.List.{List}
use lib.IntN.{ℤ, pos, ◌+ℤ◌}
use Rattle.whole.proofs.Tests.{cond_both}
use Rattle.bayer.specs.declared.colour.Colour.{Colour}
use Rattle.bayer.specs.declared.frame.Frame.{Frame}
use Rattle.bayer.specs.Colour.{same}
use Rattle.bayer.specs.Mosaic.{Mosaic, is_green}
use Rattle.demosaic.specs.Sample.{Pixel, diagonal, in_row, in_column, neighbours}

pub neighbours-cases : (P : List Pixel → Type 0) (f : Frame) (m : Mosaic) (k : Colour) (i j : ℤ) → P (in_row f i j) → P (in_column f i j) → P (diagonal f i j) → P (neighbours f m k i j)
unfolding neighbours
neighbours-cases P f m k i j r c d = cond_both P (is_green m i j) _ _ (cond_both P (same (m.colour i (j +ℤ pos 1)) k) _ _ r c) d
