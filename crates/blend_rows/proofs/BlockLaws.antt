-- What the buffers of a block hold is the continued mosaic's, so that the rows worked out from them are its greens. Assumes nothing.
use Prim.Native.Nat.{ℕ, zero, suc, ◌+◌, ◌-◌, ◌*◌, ◌%◌, ◌≤◌, ◌<◌}
use mathlib.Core.Bool.{cond}
use mathlib.Core.List.{List}
use mathlib.Core.Path.{◌≡◌, refl, sym, ap, ap₂, ◌∙◌}
use native.Mathlib.Omega.{arith}
use native.Mathlib.Nat.{add-sub_cancel_left}
use lib.Dec.{eqb, lit≤}
use lib.IntN.{ℤ, pos, sub_ℕ, ◌+ℤ◌, ◌-ℤ◌}
use lib.ListN.{length, get_or, take, drop}
use Rattle.whole.proofs.Pairs.{natₚ, subₚ, ◌+ₚ◌, ◌-ₚ◌, eq-by}
use Rattle.lists.specs.Part.{part}
use Rattle.lists.specs.Table.{table, joined}
use Rattle.lists.specs.Bound.{AllAtMost}
use Rattle.whole.proofs.Tests.{cond_both}
use Rattle.lists.proofs.TableLaws.{length-table, table_same}
use Rattle.lists.proofs.JoinedLaws.{joined_same, get_or-parts, part-within}
use Rattle.lists.proofs.PartLaws.{get_or_part}
use Rattle.lists.proofs.BoundLaws.{all-parts, row-at-most}
use Rattle.bayer.specs.declared.frame.Frame.{Frame}
use Rattle.bayer.specs.Mirror.{mirror}
use Rattle.bayer.specs.Mosaic.{Mosaic, continued, is_green}
use Rattle.bayer.specs.Parity.{is_odd, starts_green}
use Rattle.bayer.specs.Lent.{Lent}
use Rattle.bayer.proofs.ParityLaws.{place-green, starts-next}
use Rattle.half_rows.specs.HalfRow.{pixels, places}
use Rattle.half_rows.proofs.HalfLaws.{from_halves}
use Rattle.blend.specs.Blend.{axis, blend}
use Rattle.blend.specs.BlendAt.{row, column, blend_at}
use Rattle.blend_rows.specs.BlendIn.{half_row, row_axis_in, column_axis_in, blend_row_in, row_from, block_row}

-- ---- a row at row u of the mosaic, w wide, from five half rows of its red and blue columns and one of the others

module _ (m : Mosaic) (u w side : ℕ) (bit : side < 2) (own beside : List ℕ)
    (own_at : (r k : ℕ) → r < 5 → k < places w → get_or own (r * places w + k) 0 ≡ m.reading (sub_ℕ (u + r) 2) (sub_ℕ (2 * k + side) 2))
    (beside_at : (k : ℕ) → k < places w → get_or beside k 0 ≡ m.reading (sub_ℕ (u + 2) 2) (sub_ℕ (2 * k + (1 - side)) 2)) where
  abbrev h : ℕ
  h = places w

  here : sub_ℕ (u + 2) 2 ≡ pos u
  here = eq-by (subₚ (u + 2) 2) (natₚ u) (omega arith)

  own_is : (r c n : ℕ) {x y : ℤ} → n ≡ r * h + c → r < 5 → c < h → sub_ℕ (u + r) 2 ≡ x → sub_ℕ (2 * c + side) 2 ≡ y → get_or own n 0 ≡ m.reading x y
  own_is r c n e l k p q = ap (λ i. get_or own i 0) e ∙ own_at r c l k ∙ ap₂ m.reading p q

  beside-is : (c : ℕ) {y : ℤ} → c < h → sub_ℕ (2 * c + (1 - side)) 2 ≡ y → get_or beside c 0 ≡ m.reading (pos u) y
  beside-is c k q = beside_at c k ∙ ap₂ m.reading here q

  -- pixel k, at column j
  module _ (k : ℕ) (l : k < pixels w side) where
    abbrev j : ℕ
    j = 2 * k + side

    at : sub_ℕ (2 * (k + 1) + side) 2 ≡ pos j
    at = eq-by (subₚ (2 * (k + 1) + side) 2) (natₚ (2 * k + side)) (omega arith)

    centre : get_or own (2 * h + 1 + k) 0 ≡ m.reading (pos u) (pos j)
    centre = own_is 2 (k + 1) (2 * h + 1 + k) (omega arith) (lit≤ tt) (omega arith) here at

    along : row_axis_in h side own beside k ≡ row m (pos u) (pos j)
    unfolding row_axis_in
    along = λ t. axis (centre t) (left t) (right t) (first t) (last t)
      where
        left : get_or beside (side + k) 0 ≡ m.reading (pos u) (pos j -ℤ pos 1)
        left = beside-is (side + k) (omega arith) (eq-by (subₚ (2 * (side + k) + (1 - side)) 2) (natₚ (2 * k + side) -ₚ natₚ 1) (omega arith))

        right : get_or beside (side + 1 + k) 0 ≡ m.reading (pos u) (pos j +ℤ pos 1)
        right = beside-is (side + 1 + k) (omega arith) (eq-by (subₚ (2 * (side + 1 + k) + (1 - side)) 2) (natₚ (2 * k + side) +ₚ natₚ 1) (omega arith))

        first : get_or own (2 * h + k) 0 ≡ m.reading (pos u) (pos j -ℤ pos 2)
        first = own_is 2 k (2 * h + k) refl (lit≤ tt) (omega arith) here (eq-by (subₚ (2 * k + side) 2) (natₚ (2 * k + side) -ₚ natₚ 2) (omega arith))

        last : get_or own (2 * h + 2 + k) 0 ≡ m.reading (pos u) (pos j +ℤ pos 2)
        last = own_is 2 (k + 2) (2 * h + 2 + k) (omega arith) (lit≤ tt) (omega arith) here (eq-by (subₚ (2 * (k + 2) + side) 2) (natₚ (2 * k + side) +ₚ natₚ 2) (omega arith))

    across : column_axis_in h own k ≡ column m (pos u) (pos j)
    unfolding column_axis_in
    across = λ t. axis (centre t) (above t) (below t) (first t) (last t)
      where
        above : get_or own (h + 1 + k) 0 ≡ m.reading (pos u -ℤ pos 1) (pos j)
        above = own_is 1 (k + 1) (h + 1 + k) (omega arith) (lit≤ tt) (omega arith) (eq-by (subₚ (u + 1) 2) (natₚ u -ₚ natₚ 1) (omega arith)) at

        below : get_or own (3 * h + 1 + k) 0 ≡ m.reading (pos u +ℤ pos 1) (pos j)
        below = own_is 3 (k + 1) (3 * h + 1 + k) (omega arith) (lit≤ tt) (omega arith) (eq-by (subₚ (u + 3) 2) (natₚ u +ₚ natₚ 1) (omega arith)) at

        first : get_or own (1 + k) 0 ≡ m.reading (pos u -ℤ pos 2) (pos j)
        first = own_is 0 (k + 1) (1 + k) (omega arith) (lit≤ tt) (omega arith) (eq-by (subₚ (u + 0) 2) (natₚ u -ₚ natₚ 2) (omega arith)) at

        last : get_or own (4 * h + 1 + k) 0 ≡ m.reading (pos u +ℤ pos 2) (pos j)
        last = own_is 4 (k + 1) (4 * h + 1 + k) (omega arith) (lit≤ tt) (omega arith) (eq-by (subₚ (u + 4) 2) (natₚ u +ₚ natₚ 2) (omega arith)) at

  pub row-blended : ((j : ℕ) → is_odd (j + side) ≡ is_green m (pos u) (pos j)) → blend_row_in w h side own beside ≡ table (λ j. blend_at m (pos u) (pos j)) w
  unfolding blend_at
  row-blended green =
      from_halves (λ j. blend (row m (pos u) (pos j)) (column m (pos u) (pos j))) (λ j. 16 * m.reading (pos u) (pos j)) side w bit refl refl refl refl refl refl
      (λ k l. ap₂ blend (along k l) (across k l))
      (λ k l. ap (λ i. 16 * i) (beside-is (1 + k) (omega arith) (eq-by (subₚ (2 * (1 + k) + (1 - side)) 2) (natₚ (2 * k + (1 - side))) (omega arith))))
      ∙ table_same _ _ w (λ j _. ap (λ b. cond b (16 * m.reading (pos u) (pos j)) (blend (row m (pos u) (pos j)) (column m (pos u) (pos j)))) (green j))

-- ---- a block of b rows from row v on

module _ (f : Frame) (first : ℕ) (rows : List ℕ) (v b : ℕ) where
  abbrev m : Mosaic
  m = continued f first rows

  abbrev H : ℕ
  H = places f.width

  abbrev Held : (side : ℕ) → List ℕ → Type 0
  Held side l = l ≡ joined (half_row m v side f.width) (b + 4)

  pub half-small : AllAtMost 4095 rows → (side : ℕ) {l : List ℕ} → Held side l → AllAtMost 4095 l
  half-small small side e =
      rw e
      (all-parts (λ x. x ≤ 4095) 0 (omega arith) (λ r k. m.reading (sub_ℕ (v + r) 2) (sub_ℕ (2 * k + side) 2)) H (b + 4)
      (λ r k _ _. row-at-most f.width (mirror f.height (sub_ℕ (v + r) 2) - first) rows small _))

  -- the five half rows of row i
  five-at : (side : ℕ) {l : List ℕ} → Held side l → (i : ℕ) → i < b → (r k : ℕ) → r < 5 → k < H → get_or (part (i * H) (5 * H) l) (r * H + k) 0 ≡ m.reading (sub_ℕ (v + i + r) 2) (sub_ℕ (2 * k + side) 2)
  five-at side {l} e i hi r k hr hk =
      let a : i * H + (r * H + k) ≡ (i + r) * H + k = omega arith in
      let c : v + (i + r) ≡ v + i + r = omega arith in
      get_or_part (i * H) (5 * H) l (r * H + k) 0 (omega (arith, part-within H hr)) ∙ ap₂ (λ l n. get_or l n 0) e a
      ∙ get_or-parts (λ r k. m.reading (sub_ℕ (v + r) 2) (sub_ℕ (2 * k + side) 2)) H (b + 4) (i + r) k 0 (omega arith) hk
      ∙ ap (λ n. m.reading (sub_ℕ n 2) (sub_ℕ (2 * k + side) 2)) c

  -- of which one is its own
  own_at : (side : ℕ) {l : List ℕ} → Held side l → (i : ℕ) → i < b → (k : ℕ) → k < H → get_or (part (2 * H) H (part (i * H) (5 * H) l)) k 0 ≡ m.reading (sub_ℕ (v + i + 2) 2) (sub_ℕ (2 * k + side) 2)
  own_at side {l} e i hi k hk = get_or_part (2 * H) H (part (i * H) (5 * H) l) k 0 hk ∙ five-at side e i hi 2 k (lit≤ tt) hk

  module _ {e o : List ℕ} (e-is : Held 0 e) (o_is : Held 1 o) (lent : (i : ℕ) → i < b → Lent f first (length rows) (v + i)) where
    row_is : (i : ℕ) → i < b → (side : ℕ) → side < 2 → ((j : ℕ) → is_odd (j + side) ≡ is_green m (pos (v + i)) (pos j))
        → row_from f.width H side (part (i * H) (5 * H) e) (part (i * H) (5 * H) o) ≡ table (λ j. blend_at m (pos (v + i)) (pos j)) f.width
    row_is i hi zero bit green = row-blended m (v + i) f.width 0 bit (part (i * H) (5 * H) e) (part (2 * H) H (part (i * H) (5 * H) o)) (five-at 0 e-is i hi) (own_at 1 o_is i hi) green
    row_is i hi (suc zero) bit green = row-blended m (v + i) f.width 1 bit (part (i * H) (5 * H) o) (part (2 * H) H (part (i * H) (5 * H) e)) (five-at 1 o_is i hi) (own_at 0 e-is i hi) green
    row_is i hi (suc (suc n)) bit green = absurd (let z : ⊥ = omega arith in z)

    -- which pixels are green
    green-at : (i : ℕ) → i < b → (j : ℕ) → is_odd (j + (starts_green f.layout v + i) % 2) ≡ is_green m (pos (v + i)) (pos j)
    green-at i hi j =
        let z = (lent i hi).frame in
        let g = starts-next f.layout v i z.known in
        ap (λ n. is_odd (j + n)) (sym g)
        ∙ place-green f.layout f.height f.width (v + i) (v + i) 0 j 0 (j + starts_green f.layout (v + i)) z.known z.high z.wide (twice (v + i) j (starts_green f.layout (v + i)))
        ∙ ap₂ (λ x y. is_green m x y) (eq-by (subₚ (v + i) 0) (natₚ (v + i)) (omega arith)) (eq-by (subₚ j 0) (natₚ j) (omega arith))
      where
        twice : (u j g : ℕ) → (j + g) % 2 ≡ (u + g + u + 0 + j + 0) % 2
        twice u j g = omega arith

    pub block-blended : {odd : ℕ} → odd ≡ starts_green f.layout v → joined (block_row f.width odd e o) b ≡ joined (λ i. table (λ j. blend_at m (pos (v + i)) (pos j)) f.width) b
    block-blended s = rw s (joined_same _ _ b (λ i hi. row_is i hi ((starts_green f.layout v + i) % 2) (omega arith) (green-at i hi)))

-- ---- the rows of a block, each from the parts that it is handed

pub row-length : (w odd : ℕ) (e o : List ℕ) (i : ℕ) → length (block_row w odd e o i) ≡ w
row-length w odd e o i = let h = places w in from w h ((odd + i) % 2) (part (i * h) (5 * h) e) (part (i * h) (5 * h) o)
  where
    from : (w h side : ℕ) (e o : List ℕ) → length (row_from w h side e o) ≡ w
    from w h side e o = cond_both (λ l. length l ≡ w) (eqb side 0) (blend_row_in w h side e (part (2 * h) h o)) (blend_row_in w h side o (part (2 * h) h e)) (length-table _ w) (length-table _ w)

pub row_same : (w odd : ℕ) (e o : List ℕ) (i : ℕ) {n : ℕ} → n ≡ w → let h = places w in
    row_from n h ((odd + i) % 2) (take (i * h + 5 * h - i * h) (drop (i * h) e)) (take (i * h + 5 * h - i * h) (drop (i * h) o)) ≡ block_row w odd e o i
row_same w odd e o i k = let h = places w in rw (k, add-sub_cancel_left (i * h) (5 * h))
