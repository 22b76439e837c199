-- What `fuse_in` is handed for row v, and that green of the continued mosaic is worked out from it. Assumes nothing.
use Prim.Native.Nat.{ℕ, ◌+◌, ◌-◌, ◌*◌, ◌/◌, ◌<◌}
use mathlib.Core.List.{List}
use mathlib.Core.Path.{◌≡◌, sym, ap, ap₂, ◌∙◌}
use native.Mathlib.Omega.{arith}
use lib.IntN.{ℤ, pos, sub_ℕ}
use lib.ListN.{get_or}
use Rattle.lists.specs.Part.{row_of, part}
use Rattle.lists.specs.Table.{table, joined}
use Rattle.lists.proofs.TableLaws.{table_same}
use Rattle.lists.proofs.PartLaws.{get_or_part, row-length}
use Rattle.bayer.specs.declared.frame.Frame.{Frame}
use Rattle.bayer.specs.Mosaic.{continued, is_green}
use Rattle.bayer.specs.Parity.{is_odd, starts_green}
use Rattle.bayer.proofs.LentLaws.{row_inside}
use Rattle.bayer.proofs.ParityLaws.{starts-below}
use Rattle.bayer.proofs.MirrorLaws.{mirror-inside}
use Rattle.gbtf.specs.Difference.{turned}
use Rattle.gbtf.specs.Direction.{direction_sum}
use Rattle.gbtf.specs.GreenAt.{green_at}
use Rattle.green_row.specs.AlongAxis.{difference_in, gradient_in}
use Rattle.green_row.specs.Directions.{window_in}
use Rattle.green_row.specs.GreenIn.{green_in}
use Rattle.green_row.specs.Extended.{extended_row}
use Rattle.green_row.proofs.RowLaws.{at_place, RowPlaces, reading-at, green-at, DH-at, GH-at, DV-at, GV-at}
use Rattle.green_row.proofs.RowGreen.{RowHolds, green-is}

-- for row v, of which column 0 is green or not by o: the readings x, the differences dh and dv, the gradients gh and gv, and the direction sums tv along the column
pub record RowBuffers (f : Frame) (first : ℕ) (rows : List ℕ) (v s o : ℕ) (x : List ℕ) (dh dv : List ℤ) (gh gv tv : List ℕ) : Type 0 where
  pub places : RowPlaces f first rows v s
  pub starts : o ≡ starts_green f.layout v
  pub x-is : x ≡ joined (extended_row f first rows v s) 13
  pub dh-is : dh ≡ table (difference_in 1 (part (5 * s - 2) (3 * s + 4) x)) (3 * s)
  pub dv-is : dv ≡ table (difference_in s x) (9 * s)
  pub gh-is : gh ≡ table (gradient_in 1 dh) (3 * s - 4)
  pub gv-is : gv ≡ table (gradient_in s dv) (5 * s)
  pub tv-at : (q k : ℕ) → q < 2 → k < (f.width + 1) / 2 → get_or tv (2 * q * ((f.width + 1) / 2) + k) 0 ≡ direction_sum (window_in s gv (2 * q * s + (2 * k + o + 6)))

module _ {f : Frame} {first : ℕ} {rows : List ℕ} {v s o : ℕ} {x : List ℕ} {dh dv : List ℤ} {gh gv tv : List ℕ} (z : RowBuffers f first rows v s o x dh dv gh gv tv) where
  abbrev p : RowPlaces f first rows v s
  p = z.places

  x-at : (r c : ℕ) → r < 13 → c < s → get_or x (r * s + c) 0 ≡ (continued f first rows).reading (sub_ℕ (v + r) 6) (sub_ℕ c 7)
  x-at r c h k = ap (λ l. get_or l (r * s + c) 0) z.x-is ∙ reading-at p r c h k

  abbrev hx : List ℕ
  hx = part (5 * s - 2) (3 * s + 4) x

  hx-at : (k : ℕ) → k < 3 * s + 4 → get_or hx k 0 ≡ get_or x (5 * s - 2 + k) 0
  hx-at k l = get_or_part (5 * s - 2) (3 * s + 4) x k 0 l

  -- the row's own readings, as the frame has them
  abbrev own : List ℕ
  own = row_of f.width (v - first) rows

  holds : RowHolds (continued f first rows) v f.width s o own dh dv gh gv tv
  holds =
      record {
        wide = p.wide;
        bit = let g = starts-below f.layout v in omega (arith, z.starts, g);
        own-length = row-length f.width (v - first) rows (omega (arith, (row_inside p.lent).1));
        own_at = λ j h. ap₂ (λ a b. get_or (row_of f.width (a - first) rows) b 0) (sym (mirror-inside f.height v p.lent.row)) (sym (mirror-inside f.width j h));
        green-at = λ j h. green-at p 6 (j + 7) (j + o) (rw z.starts (omega arith)) ∙ ap₂ (is_green (continued f first rows)) (at_place v 6) (at_place j 7);
        dh-at = λ r c k h l e. ap (λ d. turned (is_odd k) (get_or d (r * s + (c + 2)) (pos 0))) z.dh-is ∙ DH-at p x hx x-at hx-at r c k h l (rw z.starts at e);
        dv-at = λ r c k h l e. ap (λ d. turned (is_odd k) (get_or d (r * s + c) (pos 0))) z.dv-is ∙ DV-at p x x-at r c k h l (rw z.starts at e);
        gh-at = rw (z.gh-is, z.dh-is) (GH-at p x hx x-at hx-at);
        gv-at = rw (z.gv-is, z.dv-is) (GV-at p x x-at);
        tv-at = z.tv-at;
      }

  pub row-fused : (K : ℕ) (ws : List ℕ) → table (green_in K ws s o own dh dv gh tv) f.width ≡ table (λ j. green_at ws (continued f first rows) (pos v) (pos j) K) f.width
  row-fused K ws = table_same _ _ f.width (λ j h. green-is holds ws j h K)
