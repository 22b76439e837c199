-- What the buffers of row v hold is the continued mosaic's: readings, differences and gradients. Assumes nothing.
use mathlib.Core.Path.{◌≡◌, sym, ◌∙◌, ap, ap₂}
use mathlib.Core.Bool.{Bool}
use mathlib.Core.List.{List}
use Prim.Native.Nat.{ℕ, ◌+◌, ◌*◌, ◌-◌, ◌%◌, ◌≤◌, ◌<◌}
use native.Mathlib.Nat.{mul-le-mul_right}
use native.Mathlib.Omega.{arith}
use lib.Dec.{lit≤}
use lib.IntN.{ℤ, pos, sub_ℕ, ◌+ℤ◌, ◌-ℤ◌}
use lib.ListN.{length, get_or, length-drop}
use lib.Seq.{length-take-le}
use Rattle.whole.proofs.Pairs.{natₚ, subₚ, ◌+ₚ◌, ◌-ₚ◌, eq-by}
use Rattle.lists.specs.Part.{row_of}
use Rattle.lists.specs.Table.{table, joined}
use Rattle.lists.proofs.TableLaws.{length-table, get_or-table}
use Rattle.lists.proofs.JoinedLaws.{get_or-joined}
use Rattle.bayer.specs.declared.frame.Frame.{Frame}
use Rattle.bayer.specs.Mirror.{mirror}
use Rattle.bayer.specs.Mosaic.{Mosaic, continued, is_green}
use Rattle.bayer.specs.Parity.{is_odd, starts_green}
use Rattle.bayer.specs.Lent.{Lent}
use Rattle.bayer.proofs.ParityLaws.{odd-by, place-green}
use Rattle.gbtf.specs.Difference.{difference, plain_gradient, turned}
use Rattle.gbtf.proofs.Signs.{difference-turned, plain-turned}
use Rattle.gbtf.specs.GreenAt.{difference_along, plain_gradient_along, gradient_along, DH, DV, GH, GV}
use Rattle.green_row.specs.AlongAxis.{difference_in, plain_gradient_in, gradient_in}
use Rattle.green_row.specs.Extended.{extended_row}

-- ---- positions: place n is position n − b

pub ahead : (n b e : ℕ) → sub_ℕ n b +ℤ pos e ≡ sub_ℕ (n + e) b
ahead n b e = eq-by (subₚ n b +ₚ natₚ e) (subₚ (n + e) b) (omega arith)

behind : (n b e : ℕ) → sub_ℕ (n + e) b -ℤ pos e ≡ sub_ℕ n b
behind n b e = eq-by (subₚ (n + e) b -ₚ natₚ e) (subₚ n b) (omega arith)

pub at_place : (n b : ℕ) → sub_ℕ (n + b) b ≡ pos n
at_place n b = eq-by (subₚ (n + b) b) (natₚ n) (omega arith)

-- ---- along a line, in a row or in a column: position p + 2 − b stands at place k + 2 step

module _ (step : ℕ) (x : List ℕ) (k : ℕ) (G : ℤ → Bool) (L : ℤ → ℕ) (p b : ℕ) where
  -- and is green or not by g
  difference-along : (g : Bool) → ((e : ℕ) → e ≤ 4 → get_or x (k + e * step) 0 ≡ L (sub_ℕ (p + e) b)) → g ≡ G (sub_ℕ (p + 2) b)
      → turned g (difference_in step x k) ≡ difference_along G L (sub_ℕ (p + 2) b)
  difference-along g read green = difference-turned g _ _ _ _ _ ∙ (λ t. difference (green t) (centre t) (left t) (right t) (first t) (last t))
    where
      centre : get_or x (k + 2 * step) 0 ≡ L (sub_ℕ (p + 2) b)
      centre = read 2 (lit≤ tt)

      left : get_or x (k + step) 0 ≡ L (sub_ℕ (p + 2) b -ℤ pos 1)
      left = let a : k + step ≡ k + 1 * step = omega arith in let c : p + 1 + 1 ≡ p + 2 = omega arith in
          ap (λ n. get_or x n 0) a ∙ read 1 (lit≤ tt) ∙ ap L (sym (behind (p + 1) b 1) ∙ ap (λ n. sub_ℕ n b -ℤ pos 1) c)

      right : get_or x (k + 3 * step) 0 ≡ L (sub_ℕ (p + 2) b +ℤ pos 1)
      right = let c : p + 3 ≡ p + 2 + 1 = omega arith in read 3 (lit≤ tt) ∙ ap L (ap (λ n. sub_ℕ n b) c ∙ sym (ahead (p + 2) b 1))

      first : get_or x k 0 ≡ L (sub_ℕ (p + 2) b -ℤ pos 2)
      first = let a : k ≡ k + 0 * step = omega arith in let c : p + 0 ≡ p = omega arith in
          ap (λ n. get_or x n 0) a ∙ read 0 (lit≤ tt) ∙ ap L (ap (λ n. sub_ℕ n b) c ∙ sym (behind p b 2))

      last : get_or x (k + 4 * step) 0 ≡ L (sub_ℕ (p + 2) b +ℤ pos 2)
      last = let c : p + 4 ≡ p + 2 + 2 = omega arith in read 4 (lit≤ tt) ∙ ap L (ap (λ n. sub_ℕ n b) c ∙ sym (ahead (p + 2) b 2))

plain_along : (g : Bool) (step : ℕ) (d : List ℤ) (k : ℕ) (D : ℤ → ℤ) (p b : ℕ) → turned g (get_or d k (pos 0)) ≡ D (sub_ℕ p b) → turned g (get_or d (k + 2 * step) (pos 0)) ≡ D (sub_ℕ (p + 2) b)
    → plain_gradient_in step d k ≡ plain_gradient_along D (sub_ℕ (p + 1) b)
plain_along g step d k D p b e f =
    let c : p + 2 ≡ p + 1 + 1 = omega arith in
    sym (plain-turned g (get_or d k (pos 0)) (get_or d (k + 2 * step) (pos 0))) ∙ ap₂ plain_gradient (e ∙ ap D (sym (behind p b 1))) (f ∙ ap D (ap (λ n. sub_ℕ n b) c ∙ sym (ahead (p + 1) b 1)))

-- every second place is green: place k where o is odd
gradient-along : (o step : ℕ) (d : List ℤ) (k : ℕ) (D : ℤ → ℤ) (p b : ℕ) → ((e : ℕ) → e ≤ 4 → turned (is_odd (o + e)) (get_or d (k + e * step) (pos 0)) ≡ D (sub_ℕ (p + e) b))
    → gradient_in step d k ≡ gradient_along D (sub_ℕ (p + 2) b)
gradient-along o step d k D p b read = λ t. before t + here t + after t
  where
    -- place k + n step on, which is position p + n − b
    plain : (n : ℕ) → n ≤ 2 → plain_gradient_in step d (k + n * step) ≡ plain_gradient_along D (sub_ℕ (p + n + 1) b)
    plain n h =
        let a : k + n * step + 2 * step ≡ k + (n + 2) * step = omega arith in
        let c : p + (n + 2) ≡ p + n + 2 = omega arith in
        plain_along (is_odd (o + n)) step d (k + n * step) D (p + n) b (read n (omega arith))
        (ap₂ (λ g i. turned g (get_or d i (pos 0))) (odd-by (o + n) (o + (n + 2)) (omega arith)) a ∙ read (n + 2) (omega arith) ∙ ap (λ i. D (sub_ℕ i b)) c)

    before : plain_gradient_in step d k ≡ plain_gradient_along D (sub_ℕ (p + 2) b -ℤ pos 1)
    before = let a : k ≡ k + 0 * step = omega arith in let c : p + 2 ≡ p + 0 + 1 + 1 = omega arith in
        ap (plain_gradient_in step d) a ∙ plain 0 (lit≤ tt) ∙ ap (plain_gradient_along D) (sym (behind (p + 0 + 1) b 1) ∙ ap (λ i. sub_ℕ i b -ℤ pos 1) (sym c))

    here : plain_gradient_in step d (k + step) ≡ plain_gradient_along D (sub_ℕ (p + 2) b)
    here = let a : k + step ≡ k + 1 * step = omega arith in let c : p + 1 + 1 ≡ p + 2 = omega arith in
        ap (plain_gradient_in step d) a ∙ plain 1 (lit≤ tt) ∙ ap (λ i. plain_gradient_along D (sub_ℕ i b)) c

    after : plain_gradient_in step d (k + 2 * step) ≡ plain_gradient_along D (sub_ℕ (p + 2) b +ℤ pos 1)
    after = plain 2 (lit≤ tt) ∙ ap (plain_gradient_along D) (sym (ahead (p + 2) b 1))

-- ---- the buffers of row v: a frame's readings, rows s places wide

pub record RowPlaces (f : Frame) (first : ℕ) (rows : List ℕ) (v s : ℕ) : Type 0 where
  pub lent : Lent f first (length rows) v
  pub wide : f.width + 14 ≤ s

module _ {f : Frame} {first : ℕ} {rows : List ℕ} {v s : ℕ} (z : RowPlaces f first rows v s) where
  abbrev m : Mosaic
  m = continued f first rows

  abbrev g : ℕ
  g = starts_green f.layout v

  -- place (r, c) is row v − 6 + r and column c − 7
  abbrev Row : ℕ → ℤ
  Row r = sub_ℕ (v + r) 6

  abbrev Col : ℕ → ℤ
  Col c = sub_ℕ c 7

  row-length : (r : ℕ) → r < 13 → length (row_of f.width (mirror f.height (Row r) - first) rows) ≡ f.width
  unfolding row_of
  row-length r h = length-take-le f.width _ (simp length-drop (omega (arith, z.lent.end r h)))

  pub reading-at : (r c : ℕ) → r < 13 → c < s → get_or (joined (extended_row f first rows v s) 13) (r * s + c) 0 ≡ m.reading (Row r) (Col c)
  reading-at r c h k =
      get_or-joined (extended_row f first rows v s) s (λ i. length-table _ s) 13 r c 0 h k ∙ get_or-table _ s c 0 k
      ∙ ap (λ n. get_or (row_of f.width (mirror f.height (Row r) - first) rows) (mirror n (Col c)) 0) (row-length r h)

  -- column 0 and this row's places decide which are green
  pub green-at : (r c o : ℕ) → o % 2 ≡ (r + c + 1 + g) % 2 → is_odd o ≡ is_green m (Row r) (Col c)
  green-at r c o e =
      place-green f.layout f.height f.width v (v + r) 6 c 7 o z.lent.frame.known z.lent.frame.high z.lent.frame.wide (e ∙ twice r c g v)
    where
      twice : (r c g v : ℕ) → (r + c + 1 + g) % 2 ≡ (v + g + (v + r) + 6 + c + 7) % 2
      twice r c g v = omega arith

  -- hx: from two places before row v − 1 to two places after row v + 1; dh: their differences along the row
  module _ (x hx : List ℕ) (x-at : (r c : ℕ) → r < 13 → c < s → get_or x (r * s + c) 0 ≡ m.reading (Row r) (Col c)) (hx-at : (k : ℕ) → k < 3 * s + 4 → get_or hx k 0 ≡ get_or x (5 * s - 2 + k) 0) where
    abbrev dh : List ℤ
    dh = table (difference_in 1 hx) (3 * s)

    pub DH-at : (r c o : ℕ) → r < 3 → c + 4 < s → o % 2 ≡ (r + c + g) % 2 → turned (is_odd o) (get_or dh (r * s + (c + 2)) (pos 0)) ≡ DH m (Row (5 + r)) (Col (c + 2))
    unfolding DH
    DH-at r c o h k p =
        ap (turned (is_odd o)) (get_or-table (difference_in 1 hx) (3 * s) (r * s + (c + 2)) (pos 0) (omega (arith, mul-le-mul_right s h)))
        ∙ difference-along 1 hx (r * s + (c + 2)) (λ z. is_green m (Row (5 + r)) z) (λ z. m.reading (Row (5 + r)) z) c 7 (is_odd o) read (green-at (5 + r) (c + 2) o (p ∙ parity r c g))
      where
        read : (e : ℕ) → e ≤ 4 → get_or hx (r * s + (c + 2) + e * 1) 0 ≡ m.reading (Row (5 + r)) (Col (c + e))
        read e l =
            let a : 5 * s - 2 + (r * s + (c + 2) + e * 1) ≡ (5 + r) * s + (c + e) = omega arith in
            hx-at (r * s + (c + 2) + e * 1) (omega (arith, mul-le-mul_right s h)) ∙ ap (λ n. get_or x n 0) a ∙ x-at (5 + r) (c + e) (omega arith) (omega arith)

        parity : (r c g : ℕ) → (r + c + g) % 2 ≡ (5 + r + (c + 2) + 1 + g) % 2
        parity r c g = omega arith

    abbrev gh : List ℕ
    gh = table (gradient_in 1 dh) (3 * s - 4)

    pub GH-at : (r c : ℕ) → r < 3 → c + 8 < s → get_or gh (r * s + (c + 2)) 0 ≡ GH m (Row (5 + r)) (Col (c + 4))
    unfolding GH
    GH-at r c h k =
        let b : c + 2 + 2 ≡ c + 4 = omega arith in
        get_or-table (gradient_in 1 dh) (3 * s - 4) (r * s + (c + 2)) 0 (omega (arith, mul-le-mul_right s h))
        ∙ gradient-along (r + c + g) 1 dh (r * s + (c + 2)) (λ z. DH m (Row (5 + r)) z) (c + 2) 7 read
        ∙ ap (λ n. gradient_along (λ z. DH m (Row (5 + r)) z) (Col n)) b
      where
        read : (e : ℕ) → e ≤ 4 → turned (is_odd (r + c + g + e)) (get_or dh (r * s + (c + 2) + e * 1) (pos 0)) ≡ DH m (Row (5 + r)) (Col (c + 2 + e))
        read e l =
            let a : r * s + (c + 2) + e * 1 ≡ r * s + (c + e + 2) = omega arith in
            let d : c + e + 2 ≡ c + 2 + e = omega arith in
            ap (λ n. turned (is_odd (r + c + g + e)) (get_or dh n (pos 0))) a ∙ DH-at r (c + e) (r + c + g + e) h (omega arith) (omega arith) ∙ ap (λ n. DH m (Row (5 + r)) (Col n)) d

  -- dv: the differences along the column of rows v − 4 to v + 4
  module _ (x : List ℕ) (x-at : (r c : ℕ) → r < 13 → c < s → get_or x (r * s + c) 0 ≡ m.reading (Row r) (Col c)) where
    abbrev dv : List ℤ
    dv = table (difference_in s x) (9 * s)

    pub DV-at : (r c o : ℕ) → r < 9 → c < s → o % 2 ≡ (r + c + 1 + g) % 2 → turned (is_odd o) (get_or dv (r * s + c) (pos 0)) ≡ DV m (Row (r + 2)) (Col c)
    unfolding DV
    DV-at r c o h k p =
        ap (turned (is_odd o)) (get_or-table (difference_in s x) (9 * s) (r * s + c) (pos 0) (omega (arith, mul-le-mul_right s h)))
        ∙ difference-along s x (r * s + c) (λ z. is_green m z (Col c)) (λ z. m.reading z (Col c)) (v + r) 6 (is_odd o) read
        (green-at (r + 2) c o (p ∙ parity r c g) ∙ ap (λ n. is_green m (sub_ℕ n 6) (Col c)) place)
        ∙ ap (λ n. difference_along (λ z. is_green m z (Col c)) (λ z. m.reading z (Col c)) (sub_ℕ n 6)) (sym place)
      where
        place : v + (r + 2) ≡ v + r + 2
        place = omega arith

        read : (e : ℕ) → e ≤ 4 → get_or x (r * s + c + e * s) 0 ≡ m.reading (sub_ℕ (v + r + e) 6) (Col c)
        read e l =
            let a : r * s + c + e * s ≡ (r + e) * s + c = omega arith in
            let b : v + (r + e) ≡ v + r + e = omega arith in
            ap (λ n. get_or x n 0) a ∙ x-at (r + e) c (omega arith) k ∙ ap (λ n. m.reading (sub_ℕ n 6) (Col c)) b

        parity : (r c g : ℕ) → (r + c + 1 + g) % 2 ≡ (r + 2 + c + 1 + g) % 2
        parity r c g = omega arith

    abbrev gv : List ℕ
    gv = table (gradient_in s dv) (5 * s)

    pub GV-at : (r c : ℕ) → r < 5 → c < s → get_or gv (r * s + c) 0 ≡ GV m (Row (r + 4)) (Col c)
    unfolding GV
    GV-at r c h k =
        let b : v + (r + 2) + 2 ≡ v + (r + 4) = omega arith in
        get_or-table (gradient_in s dv) (5 * s) (r * s + c) 0 (omega (arith, mul-le-mul_right s h))
        ∙ gradient-along (r + c + 1 + g) s dv (r * s + c) (λ z. DV m z (Col c)) (v + (r + 2)) 6 read
        ∙ ap (λ n. gradient_along (λ z. DV m z (Col c)) (sub_ℕ n 6)) b
      where
        read : (e : ℕ) → e ≤ 4 → turned (is_odd (r + c + 1 + g + e)) (get_or dv (r * s + c + e * s) (pos 0)) ≡ DV m (sub_ℕ (v + (r + 2) + e) 6) (Col c)
        read e i =
            let a : r * s + c + e * s ≡ (r + e) * s + c = omega arith in
            let d : v + (r + e + 2) ≡ v + (r + 2) + e = omega arith in
            ap (λ n. turned (is_odd (r + c + 1 + g + e)) (get_or dv n (pos 0))) a ∙ DV-at (r + e) c (r + c + 1 + g + e) (omega arith) k (omega arith) ∙ ap (λ n. DV m (sub_ℕ n 6) (Col c)) d
