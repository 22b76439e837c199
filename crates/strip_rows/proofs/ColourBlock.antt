-- Red and blue of a block of rows: the rows that are read, the colour differences that are made of them, and the rows that these make. Assumes nothing.
use Prim.Native.Nat.{ℕ, ◌+◌, ◌-◌, ◌*◌, ◌≤◌, ◌<◌, min}
use mathlib.Core.Path.{◌≡◌, refl, ap, ◌∙◌}
use mathlib.Core.Bool.{false}
use mathlib.Core.List.{List}
use native.Mathlib.Decide.{dec_le}
use native.Mathlib.Nat.{add-zero, one-mul, add-sub_cancel_left}
use native.Mathlib.Omega.{arith}
use lib.IntN.{ℤ, pos, nat_abs, sub_ℕ, ◌-ℤ◌}
use lib.ListN.{length, take, drop}
use Rattle.whole.proofs.Pairs.{subₚ, natₚ, ◌-ₚ◌, eq-by}
use Rattle.lists.specs.Part.{part, row_of}
use Rattle.lists.specs.Table.{joined}
use Rattle.lists.specs.Bound.{AllAtMost, AllWithin}
use Rattle.lists.proofs.TableLaws.{length-table, table-all}
use Rattle.lists.proofs.PartLaws.{part_length, row-length}
use Rattle.lists.proofs.BoundLaws.{row-at-most, all-part, all-parts}
use Rattle.lists.proofs.JoinedLaws.{part-within, length-joined, joined-one, joined_same, joined-rows}
use Rattle.bayer.specs.declared.colour.Colour.{Colour}
use Rattle.bayer.specs.declared.colour.Colour.TheVariants.{Green}
use Rattle.bayer.specs.declared.frame.Frame.{Frame}
use Rattle.bayer.specs.Colour.{same}
use Rattle.bayer.specs.Mirror.{mirror}
use Rattle.bayer.specs.Parity.{starts_green}
use Rattle.bayer.proofs.LentLaws.{row_inside}
use Rattle.bayer.proofs.MirrorLaws.{mirror-lt, mirror-inside, mirror-from, mirror-near, near_before}
use Rattle.bayer.proofs.Near.{Near}
use Rattle.green_rule.specs.Greens.{green_row}
use Rattle.green_rule.proofs.GreensLaws.{greens-range}
use Rattle.fill_rows.specs.HalfFill.{places, Differences, edged}
use Rattle.fill_rows.proofs.EdgeLaws.{edged-length, small-difference}
use Rattle.strip_rows.specs.StripRows.{colour_row, Readable, GreensOf, among_greens, Block, colour_edged, row_differences, block_differences}
use Rattle.strip_rows.proofs.GreenAmong.{among}
use Rattle.strip_rows.proofs.ColourRow.{coloured}

-- k entries from entry a on, as they are handed on
abbrev cut : {A : Type 0} → (a k : ℕ) (l : List A) → List A
cut a k l = take (a + k - a) (drop a l)

cut-is : {A : Type 0} (a k : ℕ) (l : List A) → cut a k l ≡ part a k l
cut-is a k l = ap (λ n. take n (drop a l)) (add-sub_cancel_left a k)

-- row v + i of colour k
abbrev pub rows : (f : Frame) (first : ℕ) (piece : List ℕ) (k : Colour) (v i : ℕ) → List ℕ
rows f first piece k v i = colour_row f first piece k (v + i)

pub rows-long : (f : Frame) (first : ℕ) (piece : List ℕ) (k : Colour) (v i : ℕ) → length (rows f first piece k v i) ≡ f.width
rows-long f first piece k v i = length-table _ f.width

-- those from row v + i on
pub rows-from : (f : Frame) (first : ℕ) (piece : List ℕ) (k : Colour) (v i b : ℕ) → joined (rows f first piece k (v + i)) b ≡ joined (λ j. rows f first piece k v (i + j)) b
rows-from f first piece k v i b = joined_same _ _ b (λ j _. (let e : v + i + j ≡ v + (i + j) = omega arith in ap (colour_row f first piece k) e))

-- list i of those that are joined, each of s places
list_at : (f : ℕ → List ℤ) (s : ℕ) → ((j : ℕ) → length (f j) ≡ s) → (n i p : ℕ) → i < n → p ≡ i * s → part p s (joined f n) ≡ f i
list_at f s long n i p h e = rw e ((rw one-mul at (joined-rows f s long n i 1 (omega arith))) ∙ joined-one (λ k. f (i + k)) ∙ ap f (add-zero i))

module _ (f : Frame) (first : ℕ) (rows : List ℕ) (v : ℕ) where
  pub list_length : (i : ℕ) → length (block_differences f first rows v i) ≡ places f.width
  list_length i = edged-length f.width _ _ _

  green-small : (y : ℕ) → AllAtMost 4095 rows → AllAtMost 65535 (green_row f first rows y)
  green-small y range = table-all (λ g. g ≤ 65535) _ f.width (omega arith) (λ c _. omega (arith, greens-range f first rows range (pos y) (pos c)))

  pub differences-within : AllAtMost 4095 rows → (n : ℕ) → AllWithin 1048560 (joined (block_differences f first rows v) n)
  unfolding edged
  differences-within range n =
      all-parts (λ z. nat_abs z ≤ 1048560) (pos 0) (omega arith) _ (places f.width) n
      (λ i j _ _.
      let y = mirror f.height (sub_ℕ (v + i) 1) in
      small-difference (row_of f.width (y - first) rows) (green_row f first rows y) (λ k. omega (arith, row-at-most f.width (y - first) rows range k)) (green-small y range) _)

-- row y may be read where rows a to a + n − 1 are worked out: it is one of those or beside them
pub record Read (f : Frame) (a n y : ℕ) : Type 0 where
  pub inside : y < f.height
  pub from : a ≤ y + 1
  pub to : y ≤ a + n

module _ {f : Frame} {first : ℕ} {rows : List ℕ} {a n y : ℕ} (z : Readable f first rows a n) (read : Read f a n y) where
  -- it lies in the piece
  pub row-lent : (first ≤ y) × ((y - first + 1) * f.width ≤ length rows)
  row-lent = let h = row_inside (z.lent y read.inside read.from read.to) in (h.0, omega (arith, h.1))

  row-wide : length (row_of f.width (y - first) rows) ≡ f.width
  row-wide = row-length f.width (y - first) rows row-lent.1

  module _ {green above below : List ℕ} (gs : GreensOf f first rows a n green above below) {x g : List ℕ} (x-is : x ≡ row_of f.width (y - first) rows) (g-is : g ≡ among_greens f.width a n green above below y) where
    pub greens-are : g ≡ green_row f first rows y
    greens-are = g-is ∙ among z gs y read.inside read.from read.to

    pub readings-long : length x ≡ f.width
    readings-long = rw x-is row-wide

    -- what it is as a `Row`
    pub row-fits : (2 ≤ length x) × (length g ≡ length x)
    row-fits = rw (x-is, greens-are, row-wide, length-table) (z.frame.wide, refl)

    pub row-small : AllAtMost 4095 x
    row-small = rw x-is (row-at-most f.width (y - first) rows z.range)

    pub edged-done : {o : ℕ} {l : List ℤ} → o ≡ starts_green f.layout y → l ≡ edged (length x) o x g → l ≡ row_differences f first rows y
    edged-done s t = t ∙ rw (s, x-is, greens-are, row-wide) refl

module _ {f : Frame} {first : ℕ} {rows : List ℕ} {a n : ℕ} (z : Readable f first rows a n) {v b : ℕ} (block : Block a n v b) where
  -- the row that is read for row v + i − 1 is one of those or beside them
  module _ (i : ℕ) (h : i < b + 2) {y : ℕ} (e : y ≡ mirror f.height (sub_ℕ (v + i) 1)) where
    beside : (j : ℕ) → v ≤ j → j < v + b → Near 1 (pos j) (pos (mirror f.height (sub_ℕ (v + i) 1))) → (a ≤ y + 1) × (y ≤ a + n)
    beside j l m near = omega (arith, block.from, block.inside)

    reads : (a ≤ y + 1) × (y ≤ a + n)
    reads =
        elim (dec_le 1 i) [
          | yes l ↦
              let j : ℕ = v + min (i - 1) (b - 1) in
              let m : j < v + b = omega (arith, block.some) in
              beside j (omega arith) m
              (rw (mirror-from f.height (v + i) 1 (omega arith))
              (mirror-near f.height j (omega (arith, block.inside, z.inside)) (pos (v + i - 1)) 1 (record { above = omega (arith, block.some); below = omega (arith, block.some) })))
          | no l ↦
              let i0 : sub_ℕ (v + i) 1 ≡ pos v -ℤ pos 1 = eq-by (subₚ (v + i) 1) (natₚ v -ₚ natₚ 1) (omega arith) in
              beside v (omega arith) (omega (arith, block.some)) (rw i0 (near_before f.height v (omega (arith, block.some, block.inside, z.inside))))
        ]

    lies : y < f.height
    lies = rw e (mirror-lt f.height _ (omega (arith, z.frame.high)))

    pub row-read : Read f a n y
    row-read = record { inside = lies; from = reads.0; to = reads.1 }

  -- and so are the block's own
  pub own-read : (i : ℕ) → i < b → Read f a n (v + i)
  own-read i h = record { inside = omega (arith, block.inside, z.inside); from = omega (arith, block.from); to = omega (arith, block.inside) }

  -- ---- the block's lists of colour differences
  module _ {e : List ℤ} (e-is : e ≡ joined (block_differences f first rows v) (b + 2)) where
    abbrev step : ℕ
    step = places f.width

    pub lists-long : length e ≡ (b + 2) * step
    lists-long = ap length e-is ∙ length-joined (block_differences f first rows v) step (list_length f first rows v) (b + 2)

    -- the three of row i
    pub lists-end : (i : ℕ) → i < b → i * step + step + step + step ≤ length e
    lists-end i h = let t : i * step + step + step + step ≡ (i + 2) * step + step = omega arith in rw (t, lists-long) (part-within step (omega arith))

    -- any part of that length is such a list
    pub list-fits : (p : ℕ) → p + step ≤ length e → Differences f.width (cut p step e)
    list-fits p h = record {
      long = part_length p step e h;
      range = all-part (λ z. nat_abs z ≤ 1048560) (pos 0) (omega arith) p (p + step - p) e (rw e-is (differences-within f first rows v z.range (b + 2)));
    }

    -- list i of them
    list : (i p : ℕ) → i < b + 2 → p ≡ i * step → cut p step e ≡ block_differences f first rows v i
    list i p h t = cut-is p step e ∙ rw e-is (list_at (block_differences f first rows v) step (list_length f first rows v) (b + 2) i p h t)

    module _ (i : ℕ) (h : i < b) where
      above-list : cut (i * step) step e ≡ row_differences f first rows (mirror f.height (sub_ℕ (v + i) 1))
      above-list = list i (i * step) (omega arith) refl

      own-list : cut (i * step + step) step e ≡ row_differences f first rows (v + i)
      own-list =
          let t : i * step + step ≡ (i + 1) * step = omega arith in
          let u : v + (i + 1) - 1 ≡ v + i = omega arith in
          list (i + 1) _ (omega arith) t
          ∙ ap (row_differences f first rows) (mirror-from f.height (v + (i + 1)) 1 (omega arith) ∙ mirror-inside f.height (v + (i + 1) - 1) (omega (arith, block.inside, z.inside)) ∙ u)

      below-list : cut (i * step + step + step) step e ≡ row_differences f first rows (mirror f.height (sub_ℕ (v + i + 2) 1))
      below-list =
          let t : i * step + step + step ≡ (i + 2) * step = omega arith in
          let u : v + (i + 2) ≡ v + i + 2 = omega arith in
          list (i + 2) _ (omega arith) t ∙ ap (λ r. row_differences f first rows (mirror f.height (sub_ℕ r 1))) u

      -- row i of the block
      pub row-coloured : (k : Colour) {x g l : List ℕ} → same k Green ≡ false → x ≡ row_of f.width (v + i - first) rows → g ≡ green_row f first rows (v + i)
          → l ≡ colour_edged f k (v + i) x g (cut (i * step) step e) (cut (i * step + step) step e) (cut (i * step + step + step) step e)
          → l ≡ colour_row f first rows k (v + i)
      row-coloured k c x g l =
          l ∙ rw (x, g, above-list, own-list, below-list) (coloured f z.frame first rows (v + i) (omega (arith, block.inside, z.inside)) k c)
