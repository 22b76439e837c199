-- Rows of a plane, by their samples. Assumes nothing.
use mathlib.Core.Path.{◌≡◌, ◌∙◌}
use mathlib.Core.List.{List}
use Prim.Native.Nat.{ℕ, ◌+◌, ◌*◌, ◌≤◌, ◌<◌}
use native.Mathlib.Omega.{arith}
use lib.ListN.{length, get_or}
use Rattle.lists.specs.Table.{table}
use Rattle.lists.specs.Bound.{AllAtMost}
use Rattle.lists.proofs.TableLaws.{length-table, get_or-table}
use Rattle.lists.proofs.JoinedLaws.{length-joined, get_or-joined}
use Rattle.lists.proofs.BoundLaws.{all-parts}
use Rattle.bayer.specs.declared.colour.Colour.{Colour}
use Rattle.bayer.specs.declared.frame.Frame.{Frame}
use Rattle.demosaic.specs.Sample.{sample, plane_rows}
use Rattle.demosaic.proofs.SampleRange.{sample-range}

module _ (f : Frame) (first : ℕ) (rows : List ℕ) (a n : ℕ) (k : Colour) where
  row-length : (i : ℕ) → length (table (λ j. sample f first rows k (a + i) j) f.width) ≡ f.width
  row-length i = length-table _ f.width

  pub plane-length : length (plane_rows f first rows a n k) ≡ n * f.width
  unfolding plane_rows
  plane-length = length-joined _ f.width row-length n

  pub plane-at : (i j : ℕ) → i < n → j < f.width → get_or (plane_rows f first rows a n k) (i * f.width + j) 0 ≡ sample f first rows k (a + i) j
  unfolding plane_rows
  plane-at i j h g = get_or-joined _ f.width row-length n i j 0 h g ∙ get_or-table _ f.width j 0 g

  pub plane-range : AllAtMost 4095 rows → AllAtMost 65520 (plane_rows f first rows a n k)
  unfolding plane_rows
  plane-range range = all-parts (λ x. x ≤ 65520) 0 (omega arith) (λ i j. sample f first rows k (a + i) j) f.width n (λ i j _ _. sample-range f first rows range k (a + i) j)
