-- Bounds on what stands in the buffers. Assumes nothing.
use Prim.Native.Nat.{ℕ, suc, ◌+◌, ◌-◌, ◌*◌, ◌≤◌}
use mathlib.Core.Bool.{false}
use mathlib.Core.List.{List}
use mathlib.Core.Path.{◌≡◌, ◌∙◌, ap, ap₂}
use native.Mathlib.Decide.{dec_le}
use native.Mathlib.Nat.{le_trans, le_of_eq}
use native.Mathlib.Omega.{arith}
use lib.IntN.{ℤ, pos, nat_abs, sub_ℕ}
use lib.ListN.{get_or, get_or-eq_default}
use Rattle.whole.proofs.Pairs.{anyₚ, natₚ, ◌-ₚ◌, eq-by}
use Rattle.lists.specs.Part.{row_of}
use Rattle.lists.specs.Table.{table, joined}
use Rattle.lists.specs.Bound.{AllAtMost, AllWithin}
use Rattle.lists.proofs.BoundLaws.{all-parts, row-at-most}
use Rattle.lists.proofs.TableLaws.{table-all, length-table, get_or-table}
use Rattle.bayer.specs.declared.frame.Frame.{Frame}
use Rattle.bayer.specs.Mirror.{mirror}
use Rattle.gbtf.specs.Bounds.{most_difference, most_gradient, most_sum}
use Rattle.gbtf.specs.Difference.{difference, plain_gradient}
use Rattle.gbtf.specs.Direction.{direction_sum}
use Rattle.gbtf.proofs.PixelBounds.{difference-within, differences-apart, direction-sum-within}
use Rattle.green_row.specs.Directions.{window_in}
use Rattle.green_row.specs.AlongAxis.{difference_in, gradient_in, Apart}
use Rattle.green_row.specs.Extended.{column, extended_row}

-- ---- rows of readings
pub extended-at-most : (f : Frame) (first : ℕ) (rows : List ℕ) (v s n : ℕ) {m : ℕ} → AllAtMost m rows → AllAtMost m (joined (extended_row f first rows v s) n)
extended-at-most f first rows v s n {m} h =
    all-parts (λ x. x ≤ m) 0 (omega arith) (λ r. column (row_of f.width (mirror f.height (sub_ℕ (v + r) 6) - first) rows)) s n
    (λ r c _ _. row-at-most f.width (mirror f.height (sub_ℕ (v + r) 6) - first) rows h _)

-- ---- differences and gradients
module _ (step : ℕ) (x : List ℕ) (n : ℕ) (h : AllAtMost 4095 x) where
  pub differences-within : AllWithin most_difference (table (difference_in step x) n)
  differences-within =
      table-all (λ d. nat_abs d ≤ most_difference) (difference_in step x) n (omega arith)
      (λ k _. difference-within false (record { centre = h _; left = h _; right = h _; second = h _; other = h _ }))

  -- past the end of the list stands 0, from which a difference is no further than from another
  pub differences-apart-in : Apart step (table (difference_in step x) n)
  differences-apart-in k =
      elim (dec_le (suc (k + 2 * step)) n) [
        | yes l ↦ le_trans (le_of_eq (ap₂ plain_gradient (get_or-table _ n k (pos 0) (omega arith)) (get_or-table _ n (k + 2 * step) (pos 0) l ∙ on))) (differences-apart (h _) (h _) (h _) (h _) (h _) (h _) (h _))
        | no l ↦
            let d : List ℤ = table (difference_in step x) n in
            le_trans (le_of_eq (ap (plain_gradient (get_or d k (pos 0))) (get_or-eq_default d (pos 0) {n = k + 2 * step} (rw (length-table (difference_in step x) n) (omega arith))) ∙ less-0 (get_or d k (pos 0))))
            (differences-within k)
      ]
    where
      -- two places on, of the same readings
      on : difference_in step x (k + 2 * step) ≡ difference false (get_or x (k + 4 * step) 0) (get_or x (k + 3 * step) 0) (get_or x (k + 5 * step) 0) (get_or x (k + 2 * step) 0) (get_or x (k + 6 * step) 0)
      on =
          let a : k + 2 * step + 2 * step ≡ k + 4 * step = omega arith in
          let b : k + 2 * step + step ≡ k + 3 * step = omega arith in
          let c : k + 2 * step + 3 * step ≡ k + 5 * step = omega arith in
          let d : k + 2 * step + 4 * step ≡ k + 6 * step = omega arith in
          rw (a, b, c, d)

      less-0 : (z : ℤ) → plain_gradient z (pos 0) ≡ nat_abs z
      less-0 z = ap nat_abs (eq-by (anyₚ z -ₚ natₚ 0) (anyₚ z) (omega arith))

pub gradients-at-most : (step : ℕ) (d : List ℤ) (n : ℕ) → Apart step d → AllAtMost most_gradient (table (gradient_in step d) n)
gradients-at-most step d n h = table-all (λ g. g ≤ most_gradient) (gradient_in step d) n (omega arith) (λ k _. omega (arith, h k, h (k + step), h (k + 2 * step)))

-- ---- the sum of a window of gradients
pub window-at-most : (g : List ℕ) (s q : ℕ) → AllAtMost most_gradient g → direction_sum (window_in s g q) ≤ most_sum
window-at-most g s q k = direction-sum-within (k _) (k _) (k _) (k _) (k _) (k _) (k _) (k _) (k _)
