-- What the rows of red and blue hold is what the definitions say of row v. Assumes nothing.
use Prim.Native.Nat.{ℕ, ◌+◌, ◌*◌, ◌-◌, ◌≤◌, ◌<◌}
use mathlib.Core.Path.{◌≡◌, refl, sym, ap, ap₂, ◌∙◌}
use mathlib.Core.Bool.{Bool, true, false, not, cond}
use mathlib.Core.List.{List, [], ◌∷◌}
use lib.IntN.{ℤ, pos, ◌+ℤ◌, ◌-ℤ◌}
use lib.ListN.{length, get_or}
use Rattle.lists.specs.Part.{row_of}
use Rattle.lists.specs.Table.{table}
use Rattle.lists.proofs.TableLaws.{get_or-table, table_same}
use Rattle.bayer.specs.declared.colour.Colour.{Colour}
use Rattle.bayer.specs.declared.frame.Frame.{Frame}
use Rattle.bayer.specs.Colour.{same, partner, opposite}
use Rattle.bayer.specs.Mirror.{mirror}
use Rattle.bayer.specs.Mosaic.{Mosaic, continued, is_green}
use Rattle.bayer.specs.Parity.{is_odd, starts_green}
use Rattle.bayer.proofs.MirrorLaws.{mirror-inside}
use Rattle.bayer.proofs.ColourLaws.{mirror-colour}
use Rattle.demosaic.specs.Fill.{colour_difference, sum_of, fill}
use Rattle.demosaic.specs.Sample.{Pixel, in_row, in_column, diagonal, neighbours, colour_differences, other_from}
use Rattle.fill_rows.specs.FillRow.{left_of, right_of, colour_difference_at, own_in, other_in}
use Rattle.fill_rows.proofs.SideLaws.{Read, at_read, before-read, after_read, next-read}
use Rattle.fill_rows.proofs.RowColours.{looks, shared, row-colours, after-odd}

-- the definition of colour k's sample, by whether the pixel is green, has the colour, and the next in its row has it
module _ (f : Frame) (m : Mosaic) (G : (i j : ℤ) → ℕ) (i j : ℤ) where
  abbrev filled : List Pixel → ℕ
  filled l = fill (length l) (G i j) (sum_of (colour_differences f m G l))

  abbrev sampled : (green here next : Bool) → ℕ
  sampled green here next = cond here (16 * m.reading i j) (filled (cond green (cond next (in_row f i j) (in_column f i j)) (diagonal f i j)))

  by-colours : (k : Colour) {green here next : Bool} → is_green m i j ≡ green → same (m.colour i j) k ≡ here → same (m.colour i (j +ℤ pos 1)) k ≡ next
      → sampled green here next ≡ other_from f m G k i j
  unfolding other_from neighbours
  by-colours k p q r = rw (p, q, r)

module _ (f : Frame) (first : ℕ) (rows : List ℕ) (G : (i j : ℤ) → ℕ) (v : ℕ) (known : f.layout ≤ 3) (wide : 2 ≤ f.width) (high : 2 ≤ f.height) (hv : v < f.height) where
  abbrev m : Mosaic
  m = continued f first rows

  abbrev row : ℕ → List ℕ
  row r = row_of f.width (r - first) rows

  abbrev greens : ℕ → List ℕ
  greens r = table (λ j. G (pos r) (pos j)) f.width

  abbrev odd : ℕ
  odd = starts_green f.layout v

  abbrev own : Colour
  own = partner f.layout v

  abbrev above : ℕ
  above = mirror f.height (pos v -ℤ pos 1)

  abbrev below : ℕ
  below = mirror f.height (pos v +ℤ pos 1)

  read_at : (r c : ℕ) → r < f.height → c < f.width → get_or (row r) c 0 ≡ m.reading (pos r) (pos c)
  read_at r c h k = ap₂ (λ a b. get_or (row_of f.width (a - first) rows) b 0) (sym (mirror-inside f.height r h)) (sym (mirror-inside f.width c k))

  green-at : (r c : ℕ) → c < f.width → get_or (greens r) c 0 ≡ G (pos r) (pos c)
  green-at r c h = get_or-table (λ j. G (pos r) (pos j)) f.width c 0 h

  abbrev difference_of : (r c : ℕ) → ℤ
  difference_of r c = colour_difference (G (pos r) (pos c)) (m.reading (pos r) (pos c))

  -- at the pixel that is read for row i and column j
  colour-difference-at : {r c : ℕ} (i j : ℤ) → Read f.height r i → Read f.width c j → colour_difference_at (row r) (greens r) c ≡ difference_of (mirror f.height i) (mirror f.width j)
  colour-difference-at {r} {c} i j p q = ap₂ colour_difference (green-at r c q.1) (read_at r c p.1 q.1) ∙ ap₂ difference_of p.0 q.0

  colours-at : (j : ℕ) → looks own (m.colour (pos v) (pos j)) ≡ shared (is_odd (j + odd))
  colours-at j = ap (looks own) (mirror-colour f.layout f.height f.width (pos v) (pos j) high wide) ∙ row-colours f.layout v j known

  module _ (j : ℕ) (hj : j < f.width) where
    -- the colours at this pixel, and next to it
    here : {green : Bool} → is_odd (j + odd) ≡ green → looks own (m.colour (pos v) (pos j)) ≡ shared green
    here e = colours-at j ∙ ap shared e

    next : looks own (m.colour (pos v) (pos j +ℤ pos 1)) ≡ shared (is_odd (j + 1 + odd))
    next = colours-at (j + 1)

    -- the differences at the pixels that are read for row i, left and right of this one, and at its own column
    module _ {r : ℕ} (i : ℤ) (p : Read f.height r i) where
      left : colour_difference_at (row r) (greens r) (left_of f.width j) ≡ difference_of (mirror f.height i) (mirror f.width (pos j -ℤ pos 1))
      left = colour-difference-at i (pos j -ℤ pos 1) p (before-read f.width j hj)

      level : colour_difference_at (row r) (greens r) j ≡ difference_of (mirror f.height i) (mirror f.width (pos j))
      level = colour-difference-at i (pos j) p (at_read f.width j hj)

      right : colour_difference_at (row r) (greens r) (right_of f.width j) ≡ difference_of (mirror f.height i) (mirror f.width (pos j +ℤ pos 1))
      right = colour-difference-at i (pos j +ℤ pos 1) p (after_read f.width j hj)

    abbrev row-above : Read f.height above (pos v -ℤ pos 1)
    row-above = before-read f.height v hv

    abbrev row_here : Read f.height v (pos v)
    row_here = at_read f.height v hv

    abbrev row_below : Read f.height below (pos v +ℤ pos 1)
    row_below = next-read f.height v hv

    pub own_is : own_in f.width odd (row v) (greens v) j ≡ other_from f m G own (pos v) (pos j)
    unfolding own_in
    own_is = go (is_odd (j + odd)) refl
      where
        go : (green : Bool) → is_odd (j + odd) ≡ green → own_in f.width odd (row v) (greens v) j ≡ other_from f m G own (pos v) (pos j)
        go true e =
            rw e (λ t. fill 2 (green-at v j hj t) (sum_of (left (pos v) row_here t ∷ right (pos v) row_here t ∷ [])))
            ∙ by-colours f m G (pos v) (pos j) own (ap (λ x. x.0) (here e)) (ap (λ x. x.1) (here e)) (ap (λ x. x.1) next ∙ ap not (after-odd j odd e))
        go false e = rw e (ap (λ n. 16 * n) (read_at v j hv hj)) ∙ by-colours f m G (pos v) (pos j) own (ap (λ x. x.0) (here e)) (ap (λ x. x.1) (here e)) refl

    pub other-is : other_in f.width odd (greens v) (row above) (greens above) (row below) (greens below) j ≡ other_from f m G (opposite own) (pos v) (pos j)
    unfolding other_in
    other-is = go (is_odd (j + odd)) refl
      where
        go : (green : Bool) → is_odd (j + odd) ≡ green → other_in f.width odd (greens v) (row above) (greens above) (row below) (greens below) j ≡ other_from f m G (opposite own) (pos v) (pos j)
        go true e =
            rw e (λ t. fill 2 (green-at v j hj t) (sum_of (level (pos v -ℤ pos 1) row-above t ∷ level (pos v +ℤ pos 1) row_below t ∷ [])))
            ∙ by-colours f m G (pos v) (pos j) (opposite own) (ap (λ x. x.0) (here e)) (ap (λ x. x.2) (here e)) (ap (λ x. x.2) next)
        go false e =
            rw e
            (λ t. fill 4 (green-at v j hj t)
            (sum_of (left (pos v -ℤ pos 1) row-above t ∷ right (pos v -ℤ pos 1) row-above t ∷ left (pos v +ℤ pos 1) row_below t ∷ right (pos v +ℤ pos 1) row_below t ∷ [])))
            ∙ by-colours f m G (pos v) (pos j) (opposite own) (ap (λ x. x.0) (here e)) (ap (λ x. x.2) (here e)) (ap (λ x. x.2) next)

  pub own-row-is : table (own_in f.width odd (row v) (greens v)) f.width ≡ table (λ j. other_from f m G own (pos v) (pos j)) f.width
  own-row-is = table_same _ _ f.width own_is

  pub other-row-is : table (other_in f.width odd (greens v) (row above) (greens above) (row below) (greens below)) f.width ≡ table (λ j. other_from f m G (opposite own) (pos v) (pos j)) f.width
  other-row-is = table_same _ _ f.width other-is
