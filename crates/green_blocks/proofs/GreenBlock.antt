-- A block of rows: what `fuse_rows` is handed for it, between which bounds, and that row i of it is handed what it would be alone, so that green is worked out from that. Assumes nothing.
use Prim.Native.Nat.{ℕ, ◌+◌, ◌-◌, ◌*◌, ◌/◌, ◌%◌, ◌≤◌, ◌<◌}
use mathlib.Core.Bool.{false}
use mathlib.Core.List.{List, [], ◌∷◌, ◌++◌}
use mathlib.Core.Path.{◌≡◌, refl, sym, ap, ap₂, ◌∙◌}
use native.Mathlib.Nat.{le_of_eq, add-zero, zero-mul, one-mul, add-mul, mul-le-mul_right}
use native.Mathlib.Omega.{arith}
use lib.Dec.{lit≤}
use lib.IntN.{ℤ, pos, sub_ℕ}
use lib.ListN.{length, get_or, take, drop}
use lib.Seq.{drop-drop}
use Rattle.lists.specs.Part.{row_of, part}
use Rattle.lists.specs.Table.{table, joined}
use Rattle.lists.specs.Bound.{AllAtMost, AllWithin}
use Rattle.lists.proofs.TableLaws.{length-table, table_same, table-part}
use Rattle.lists.proofs.JoinedLaws.{joined_same, joined-rows, length-joined, parts, get_or-parts, part-within}
use Rattle.lists.proofs.PartLaws.{first_part, rest_part, other-part, get_or_part}
use Rattle.lists.proofs.BoundLaws.{all-part, all-parts}
use Rattle.bayer.specs.declared.frame.Frame.{Frame}
use Rattle.bayer.specs.Mirror.{mirror}
use Rattle.bayer.specs.Mosaic.{continued}
use Rattle.bayer.specs.Parity.{starts_green}
use Rattle.bayer.specs.Lent.{Lent}
use Rattle.bayer.proofs.LentLaws.{row_inside}
use Rattle.bayer.proofs.ParityLaws.{starts-next}
use Rattle.gbtf.specs.Bounds.{most_difference, most_sum}
use Rattle.gbtf.specs.Difference.{difference, plain_gradient}
use Rattle.gbtf.specs.Direction.{direction_sum}
use Rattle.gbtf.specs.GreenAt.{green_at}
use Rattle.green_row.specs.Buffers.{InRange}
use Rattle.green_row.specs.AlongAxis.{difference_in, plain_gradient_in, gradient_in, Apart}
use Rattle.green_row.specs.Directions.{three_in, window_in}
use Rattle.green_row.specs.GreenIn.{green_in}
use Rattle.green_row.specs.Extended.{column, extended_row}
use Rattle.green_row.proofs.BufferBounds.{extended-at-most, differences-within, differences-apart-in, gradients-at-most, window-at-most}
use Rattle.green_row.proofs.GreenRow.{RowBuffers, row-fused}
use Rattle.green_blocks.specs.Block.{AroundBlock, column_sums, green_row_in}

-- the same readings give the same difference, at place k of x and place j of y
difference-same : (step : ℕ) (x y : List ℕ) (k j : ℕ) → ((e : ℕ) → e ≤ 4 → get_or x (k + e * step) 0 ≡ get_or y (j + e * step) 0) → difference_in step x k ≡ difference_in step y j
difference-same step x y k j read = λ t. difference false (read 2 (lit≤ tt) t) (near t) (read 3 (lit≤ tt) t) (here t) (read 4 (lit≤ tt) t)
  where
    near : get_or x (k + step) 0 ≡ get_or y (j + step) 0
    near = simp one-mul at (read 1 (lit≤ tt))

    here : get_or x k 0 ≡ get_or y j 0
    here = simp (zero-mul, add-zero) at (read 0 (lit≤ tt))

-- a window of a part
window-part : (s : ℕ) (g : List ℕ) (a n p : ℕ) → p + 2 * s + 2 < n → window_in s g (a + p) ≡ window_in s (part a n g) p
window-part s g a n p h = λ t. row p (a + p) (omega arith) refl t ∷ row (p + s) (a + p + s) (omega arith) (omega arith) t ∷ row (p + 2 * s) (a + p + 2 * s) (omega arith) (omega arith) t ∷ []
  where
    at : (k q : ℕ) → k < n → q ≡ a + k → get_or g q 0 ≡ get_or (part a n g) k 0
    at k q l e = ap (λ i. get_or g i 0) e ∙ sym (get_or_part a n g k 0 l)

    row : (k q : ℕ) → k + 2 < n → q ≡ a + k → three_in g q ≡ three_in (part a n g) k
    row k q l e = λ t. at k q (omega arith) e t ∷ at (k + 1) (q + 1) (omega arith) (omega arith) t ∷ at (k + 2) (q + 2) l (omega arith) t ∷ []

-- the differences along the rows and along the columns, of readings x around a block whose rows have m places in all
abbrev row_differences : (s m : ℕ) (x : List ℕ) → List ℤ
row_differences s m x = table (difference_in 1 (part (5 * s - 2) (m + 2 * s + 4) x)) (m + 2 * s)

abbrev column_differences : (s m : ℕ) (x : List ℕ) → List ℤ
column_differences s m x = table (difference_in s x) (m + 8 * s)

part_small : (a k : ℕ) (l : List ℕ) → AllAtMost 4095 l → AllAtMost 4095 (part a k l)
part_small a k l h = all-part (λ n. n ≤ 4095) 0 (omega arith) a k l h

-- between which bounds they lie
module _ (s m : ℕ) (x : List ℕ) (small : AllAtMost 4095 x) where
  abbrev hx-small : AllAtMost 4095 (part (5 * s - 2) (m + 2 * s + 4) x)
  hx-small = part_small (5 * s - 2) (m + 2 * s + 4) x small

  rows_apart : Apart 1 (row_differences s m x)
  rows_apart = differences-apart-in 1 (part (5 * s - 2) (m + 2 * s + 4) x) (m + 2 * s) hx-small

  columns-apart : Apart s (column_differences s m x)
  columns-apart = differences-apart-in s x (m + 8 * s) small

  pub both-apart : {d : List ℤ} → d ≡ row_differences s m x ++ column_differences s m x → (Apart 1 (part 0 (m + 2 * s) d)) × (Apart s (part (m + 2 * s) (m + 8 * s) d))
  both-apart e =
      rw (
        first_part (m + 2 * s) (m + 2 * s) (row_differences s m x) (column_differences s m x) e (length-table _ _) refl,
        rest_part (m + 2 * s) (m + 8 * s) (row_differences s m x) (column_differences s m x) e (length-table _ _) (le_of_eq (length-table _ _)),
      )
      (rows_apart, columns-apart)

-- row v + i of a frame, among the readings from row v on
pub own_row : (w first v i : ℕ) (rows : List ℕ) → first ≤ v → row_of w i (drop ((v - first) * w) rows) ≡ row_of w (v + i - first) rows
unfolding row_of
own_row w first v i rows h =
    let a : v + i - first ≡ v - first + i = omega arith in
    rw (a, add-mul) (ap (take w) (drop-drop (i * w) ((v - first) * w) rows))

-- ---- a block of b rows from row v on: the readings x, the differences d and the gradients g
pub record BlockBuffers (f : Frame) (first : ℕ) (rows : List ℕ) (v b s : ℕ) (x : List ℕ) (d : List ℤ) (g : List ℕ) : Type 0 where
  pub lent : (i : ℕ) → i < b → Lent f first (length rows) (v + i)
  pub some : 0 < b
  pub few : b ≤ 8
  pub wide : s ≡ f.width + 14
  pub x-is : x ≡ joined (extended_row f first rows v s) (b + 12)
  pub d-is : d ≡ row_differences s (b * s) x ++ column_differences s (b * s) x
  pub g-is : g ≡ table (gradient_in 1 (part 0 (b * s + 2 * s) d)) (b * s + 2 * s - 4) ++ table (gradient_in s (part (b * s + 2 * s) (b * s + 8 * s) d)) (b * s + 4 * s)

module _ {f : Frame} {first : ℕ} {rows : List ℕ} {v b s : ℕ} {x : List ℕ} {d : List ℤ} {g : List ℕ} (z : BlockBuffers f first rows v b s x d g) where
  -- column 0 of its first row is green or not by o
  abbrev o : ℕ
  o = starts_green f.layout v

  abbrev m : ℕ
  m = b * s

  abbrev h : ℕ
  h = (f.width + 1) / 2

  abbrev hx : List ℕ
  hx = part (5 * s - 2) (m + 2 * s + 4) x

  abbrev dh : List ℤ
  dh = row_differences s m x

  abbrev dv : List ℤ
  dv = column_differences s m x

  abbrev gh : List ℕ
  gh = table (gradient_in 1 dh) (m + 2 * s - 4)

  abbrev gv : List ℕ
  gv = table (gradient_in s dv) (m + 4 * s)

  -- ---- the parts that `fuse_rows` is handed are these
  dh-part : take (m + 2 * s - 0) d ≡ dh
  dh-part = first_part (m + 2 * s) (m + 2 * s - 0) dh dv z.d-is (length-table _ _) (omega arith)

  dv-part : take (length d - (m + 2 * s)) (drop (m + 2 * s) d) ≡ dv
  dv-part = other-part (m + 2 * s) dh dv z.d-is (length-table _ _)

  dv-whole : part (m + 2 * s) (m + 8 * s) d ≡ dv
  dv-whole = rest_part (m + 2 * s) (m + 8 * s) dh dv z.d-is (length-table _ _) (le_of_eq (length-table _ _))

  two-gradients : g ≡ gh ++ gv
  two-gradients =
      z.g-is
      ∙ ap₂ (λ a c. table (gradient_in 1 a) (m + 2 * s - 4) ++ table (gradient_in s c) (m + 4 * s)) (first_part (m + 2 * s) (m + 2 * s) dh dv z.d-is (length-table _ _) refl) dv-whole

  gh-part : take (m + 2 * s - 4 - 0) g ≡ gh
  gh-part = first_part (m + 2 * s - 4) (m + 2 * s - 4 - 0) gh gv two-gradients (length-table _ _) (omega arith)

  gv-part : take (length g - (m + 2 * s - 4)) (drop (m + 2 * s - 4) g) ≡ gv
  gv-part = other-part (m + 2 * s - 4) gh gv two-gradients (length-table _ _)

  pub gv-length : length (take (length g - (m + 2 * s - 4)) (drop (m + 2 * s - 4) g)) ≡ m + 4 * s
  gv-length = ap length gv-part ∙ length-table _ _

  -- place k of row i of the direction sums
  abbrev rule : ℕ → ℕ → ℕ
  rule i k = direction_sum (window_in s gv (i * s + 6 + (o + i) % 2 + 2 * k))

  -- what is handed of the direction sums
  abbrev Columns : List ℕ → Type 0
  Columns tv = tv ≡ joined (column_sums f.width s o (take (length g - (m + 2 * s - 4)) (drop (m + 2 * s - 4) g))) (b + 2)

  columns : {tv : List ℕ} → Columns tv → tv ≡ joined (parts rule h) (b + 2)
  columns e = e ∙ ap (λ l. joined (column_sums f.width s o l) (b + 2)) gv-part

  -- ---- row i
  module _ {tv : List ℕ} (tv-is : Columns tv) (i : ℕ) (hi : i < b) where
    abbrev o' : ℕ
    o' = (o + i) % 2

    abbrev x' : List ℕ
    x' = part (i * s) (13 * s) x

    below : i * s + s ≤ m
    below = part-within s hi

    x'-at : (k : ℕ) → k < 13 * s → get_or x' k 0 ≡ get_or x (i * s + k) 0
    x'-at k h = get_or_part (i * s) (13 * s) x k 0 h

    -- the place of difference e from place j on
    hx-at : (j e : ℕ) → j < 3 * s → e ≤ 4 → get_or hx (i * s + j + e * 1) 0 ≡ get_or (part (5 * s - 2) (3 * s + 4) x') (j + e * 1) 0
    hx-at j e h l =
        let a : 5 * s - 2 + (i * s + j + e * 1) ≡ i * s + (5 * s - 2 + (j + e * 1)) = omega (arith, z.wide) in
        get_or_part (5 * s - 2) (m + 2 * s + 4) x (i * s + j + e * 1) 0 (omega (arith, below)) ∙ ap (λ n. get_or x n 0) a
        ∙ sym (get_or_part (5 * s - 2) (3 * s + 4) x' (j + e * 1) 0 (omega arith) ∙ x'-at (5 * s - 2 + (j + e * 1)) (omega (arith, z.wide)))

    x-at : (j e : ℕ) → j < 9 * s → e ≤ 4 → get_or x (i * s + j + e * s) 0 ≡ get_or x' (j + e * s) 0
    x-at j e h l =
        let a : i * s + j + e * s ≡ i * s + (j + e * s) = omega arith in
        ap (λ n. get_or x n 0) a ∙ sym (x'-at (j + e * s) (omega (arith, mul-le-mul_right s l)))

    -- a gradient is worked out from differences of this row's part
    gradient-part : (step n : ℕ) (l : List ℤ) (j : ℕ) → j + 4 * step < n → gradient_in step l (i * s + j) ≡ gradient_in step (part (i * s) n l) j
    gradient-part step n l j h = λ t. plain j (i * s + j) refl (omega arith) t + plain (j + step) (i * s + j + step) (omega arith) (omega arith) t + plain (j + 2 * step) (i * s + j + 2 * step) (omega arith) (omega arith) t
      where
        at : (k a : ℕ) → a ≡ i * s + k → k < n → get_or l a (pos 0) ≡ get_or (part (i * s) n l) k (pos 0)
        at k a e g = ap (λ a. get_or l a (pos 0)) e ∙ sym (get_or_part (i * s) n l k (pos 0) g)

        plain : (k a : ℕ) → a ≡ i * s + k → k + 2 * step < n → plain_gradient_in step l a ≡ plain_gradient_in step (part (i * s) n l) k
        plain k a e g = ap₂ plain_gradient (at k a e (omega arith)) (at (k + 2 * step) (a + 2 * step) (omega arith) g)

    gv'-at : (q k : ℕ) → q < 2 → k < h → get_or (part (i * h) (3 * h) tv) (2 * q * h + k) 0 ≡ direction_sum (window_in s (part (i * s) (5 * s) gv) (2 * q * s + (2 * k + o' + 6)))
    gv'-at q k l n =
        let a : i * h + (2 * q * h + k) ≡ (i + 2 * q) * h + k = omega arith in
        let c : (i + 2 * q) * s + 6 + (o + (i + 2 * q)) % 2 + 2 * k ≡ i * s + (2 * q * s + (2 * k + o' + 6)) = omega arith in
        get_or_part (i * h) (3 * h) tv (2 * q * h + k) 0 (omega (arith, mul-le-mul_right h l)) ∙ ap₂ (λ t p. get_or t p 0) (columns tv-is) a
        ∙ get_or-parts rule h (b + 2) (i + 2 * q) k 0 (omega arith) n
        ∙ ap direction_sum (ap (window_in s gv) c ∙ window-part s gv (i * s) (5 * s) (2 * q * s + (2 * k + o' + 6)) (omega (arith, z.wide, mul-le-mul_right s l)))

    buffers : RowBuffers f first rows (v + i) s o' x' (part (i * s) (3 * s) dh) (part (i * s) (9 * s) dv) (part (i * s) (3 * s - 4) gh) (part (i * s) (5 * s) gv) (part (i * h) (3 * h) tv)
    buffers = record {
      places = record { lent = z.lent i hi; wide = le_of_eq (sym z.wide) };
      starts = sym (starts-next f.layout v i (z.lent i hi).frame.known);
      x-is =
          ap (part (i * s) (13 * s)) z.x-is ∙ joined-rows (extended_row f first rows v s) s (λ r. length-table _ s) (b + 12) i 13 (omega arith)
          ∙ joined_same _ _ 13 (λ r _. (let a : v + (i + r) ≡ v + i + r = omega arith in ap (λ n. table (column (row_of f.width (mirror f.height (sub_ℕ n 6) - first) rows)) s) a));
      dh-is =
          table-part (difference_in 1 hx) (m + 2 * s) (i * s) (3 * s) (omega (arith, below))
          ∙ table_same _ _ (3 * s) (λ j h. difference-same 1 hx (part (5 * s - 2) (3 * s + 4) x') (i * s + j) j (λ e l. hx-at j e h l));
      dv-is =
          table-part (difference_in s x) (m + 8 * s) (i * s) (9 * s) (omega (arith, below))
          ∙ table_same _ _ (9 * s) (λ j h. difference-same s x x' (i * s + j) j (λ e l. x-at j e h l));
      gh-is =
          table-part (gradient_in 1 dh) (m + 2 * s - 4) (i * s) (3 * s - 4) (omega (arith, below, z.wide))
          ∙ table_same _ _ (3 * s - 4) (λ j h. gradient-part 1 (3 * s) dh j (omega arith));
      gv-is =
          table-part (gradient_in s dv) (m + 4 * s) (i * s) (5 * s) (omega (arith, below))
          ∙ table_same _ _ (5 * s) (λ j h. gradient-part s (9 * s) dv j (omega arith));
      tv-at = gv'-at;
    }

  -- ---- green of the block's rows
  abbrev at : ℕ
  at = (v - first) * f.width

  abbrev own : List ℕ
  own = drop at rows

  pub block-fused : {tv : List ℕ} → Columns tv → (K : ℕ) (ws : List ℕ) {out : List ℕ}
      → out ≡ joined (green_row_in K ws f.width o own (take (m + 2 * s - 0) d) (take (length d - (m + 2 * s)) (drop (m + 2 * s) d)) (take (m + 2 * s - 4 - 0) g) tv) b
      → out ≡ joined (λ i. table (λ j. green_at ws (continued f first rows) (pos (v + i)) (pos j) K) f.width) b
  block-fused {tv} tv-is K ws e =
      e
      ∙ rw (dh-part, dv-part, gh-part)
      (joined_same _ _ b (λ i k. ap (λ p. row_by p i (row_of f.width i own)) (sym z.wide) ∙ ap (row_by s i) (own_row f.width first v i rows (rw add-zero at (row_inside (z.lent 0 z.some)).0)) ∙ row-fused (buffers tv-is i k) K ws))
    where
      row_by : (s i : ℕ) → List ℕ → List ℕ
      row_by s i l = table (green_in K ws s ((o + i) % 2) l (part (i * s) (3 * s) dh) (part (i * s) (9 * s) dv) (part (i * s) (3 * s - 4) gh) (part (i * h) (3 * h) tv)) f.width

  -- ---- what `fuse_rows` requires
  module _ (small : AllAtMost 4095 rows) where
    x-small : AllAtMost 4095 x
    x-small = rw z.x-is (extended-at-most f first rows v s (b + 12) small)

    dh-within : AllWithin most_difference dh
    dh-within = differences-within 1 hx (m + 2 * s) (part_small (5 * s - 2) (m + 2 * s + 4) x x-small)

    dv-within : AllWithin most_difference dv
    dv-within = differences-within s x (m + 8 * s) x-small

    tv-small : {tv : List ℕ} → Columns tv → AllAtMost most_sum tv
    tv-small e = rw (columns e) (all-parts (λ t. t ≤ most_sum) 0 (omega arith) rule h (b + 2) (λ i k _ _. window-at-most gv s (i * s + 6 + (o + i) % 2 + 2 * k) (gradients-at-most s dv (m + 4 * s) (columns-apart s m x x-small))))

    pub in-range : {tv : List ℕ} → Columns tv → InRange (take (m + 2 * s - 0) d) (take (length d - (m + 2 * s)) (drop (m + 2 * s) d)) (take (m + 2 * s - 4 - 0) g) tv
    in-range e = record {
      dh-within = rw dh-part dh-within;
      dv-within = rw dv-part dv-within;
      gh-within = rw gh-part (gradients-at-most 1 dh (m + 2 * s - 4) (rows_apart s m x x-small));
      tv-within = tv-small e;
    }

  pub lengths : {tv : List ℕ} → Columns tv
      → AroundBlock f.width b s (length (take (m + 2 * s - 0) d)) (length (take (length d - (m + 2 * s)) (drop (m + 2 * s) d))) (length (take (m + 2 * s - 4 - 0) g)) (length tv)
  lengths e = record {
    stride = z.wide;
    dh-long = ap length dh-part ∙ length-table _ _;
    dv-long = ap length dv-part ∙ length-table _ _;
    gh-long = ap length gh-part ∙ length-table _ _;
    tv-long = ap length (columns e) ∙ length-joined (parts rule h) h (λ k. length-table _ h) (b + 2);
  }
