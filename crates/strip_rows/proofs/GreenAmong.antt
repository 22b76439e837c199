-- The rows of green above, in and below a strip. Assumes nothing.
use Prim.Native.Nat.{ℕ, ◌+◌, ◌-◌, ◌*◌, ◌≤◌, ◌<◌}
use mathlib.Core.Path.{◌≡◌, ap, ◌∙◌}
use mathlib.Core.List.{List}
use native.Mathlib.Decide.{dec_le}
use native.Mathlib.Omega.{arith}
use borrow.Author.Tests.{lt-ltb, le-ltb}
use lib.ListN.{length}
use Rattle.lists.specs.Part.{row_of}
use Rattle.lists.proofs.TableLaws.{length-table}
use Rattle.lists.proofs.JoinedLaws.{length-joined, row-joined}
use Rattle.bayer.specs.declared.frame.Frame.{Frame}
use Rattle.green_rule.specs.Greens.{green_row}
use Rattle.strip_rows.specs.StripRows.{Readable, GreensOf, among_greens}

-- row v of the greens, by its place
module _ (w a n : ℕ) (green above below : List ℕ) (v : ℕ) where
  pub among_first : v < a → among_greens w a n green above below v ≡ above
  among_first h = rw (lt-ltb v a h)

  pub among-inner : a ≤ v → v < a + n → among_greens w a n green above below v ≡ row_of w (v - a) green
  among-inner h k = rw (le-ltb v a h, lt-ltb v (a + n) k)

  pub among-last : a ≤ v → a + n ≤ v → among_greens w a n green above below v ≡ below
  among-last h k = rw (le-ltb v a h, le-ltb v (a + n) k)

module _ {f : Frame} {first : ℕ} {rows : List ℕ} {a n : ℕ} (z : Readable f first rows a n) {green above below : List ℕ} (greens : GreensOf f first rows a n green above below) where
  pub green-length : length green ≡ n * f.width
  green-length = ap length greens.own ∙ length-joined _ f.width (λ i. length-table _ f.width) n

  -- row v of them is row v of green
  pub among : (v : ℕ) → v < f.height → a ≤ v + 1 → v ≤ a + n → among_greens f.width a n green above below v ≡ green_row f first rows v
  among v hv low most =
      elim (dec_le a v) [
        | yes l ↦
            elim (dec_le (a + n) v) [
              | yes m ↦ among-last f.width a n green above below v l m ∙ greens.below-is v (omega arith) hv
              | no m ↦
                  let e : a + (v - a) ≡ v = omega arith in
                  among-inner f.width a n green above below v l (omega arith)
                  ∙ rw greens.own (row-joined (λ i. green_row f first rows (a + i)) f.width (λ i. length-table _ f.width) n (v - a) (omega arith))
                  ∙ ap (green_row f first rows) e
            ]
        | no l ↦ among_first f.width a n green above below v (omega arith) ∙ greens.above-is v (omega arith) hv
      ]
