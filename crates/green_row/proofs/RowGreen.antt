-- Green of row v of a mosaic, from buffers that hold its readings, differences, gradients and direction sums. Assumes nothing.
use mathlib.Core.Path.{◌≡◌, refl, sym, ◌∙◌, ap, ap₂}
use mathlib.Core.Bool.{cond}
use mathlib.Core.List.{List, [], ◌∷◌}
use Prim.Native.Nat.{ℕ, ◌+◌, ◌*◌, ◌-◌, ◌/◌, ◌%◌, ◌≤◌, ◌<◌}
use native.Mathlib.Omega.{arith}
use lib.Dec.{lit≤}
use lib.IntN.{ℤ, pos, sub_ℕ, ◌+ℤ◌, ◌-ℤ◌}
use lib.ListN.{length, get_or}
use Rattle.whole.specs.Clamp.{clamp}
use Rattle.whole.proofs.Pairs.{natₚ, subₚ, ◌+ₚ◌, ◌-ₚ◌, eq-by}
use Rattle.bayer.specs.Mosaic.{Mosaic, is_green}
use Rattle.bayer.specs.Parity.{is_odd}
use Rattle.gbtf.specs.Direction.{direction_sum, total, direction}
use Rattle.gbtf.specs.Difference.{turned}
use Rattle.gbtf.specs.Fusion.{fused, green}
use Rattle.gbtf.specs.GreenAt.{DH, DV, GH, GV, three_from, window, east, west, north, south, green_at}
use Rattle.gbtf.proofs.GreenLocal.{five-sum-same}
use Rattle.half_rows.proofs.HalfLaws.{choice-same}
use Rattle.green_row.specs.Directions.{three_in, window_in, direction_in}
use Rattle.green_row.specs.GreenIn.{fused_by, green_in}
use Rattle.green_row.proofs.RowLaws.{ahead, at_place}

-- ---- windows of gradients

-- three gradients from place q on, in a row whose places are n − c
three-at : (g : List ℕ) (G : ℤ → ℕ) (q n c : ℕ) → ((e : ℕ) → e < 3 → get_or g (q + e) 0 ≡ G (sub_ℕ (n + e) c)) → three_in g q ≡ three_from G (sub_ℕ n c)
three-at g G q n c read = λ t. first t ∷ second t ∷ third t ∷ []
  where
    first : get_or g q 0 ≡ G (sub_ℕ n c)
    first = let a : q ≡ q + 0 = omega arith in let b : n + 0 ≡ n = omega arith in ap (λ x. get_or g x 0) a ∙ read 0 (lit≤ tt) ∙ ap (λ x. G (sub_ℕ x c)) b

    second : get_or g (q + 1) 0 ≡ G (sub_ℕ n c +ℤ pos 1)
    second = read 1 (lit≤ tt) ∙ ap G (sym (ahead n c 1))

    third : get_or g (q + 2) 0 ≡ G (sub_ℕ n c +ℤ pos 2)
    third = read 2 (lit≤ tt) ∙ ap G (sym (ahead n c 2))

-- nine gradients from place q of rows s places wide are the window whose corner is at row p − b and column n − c
window-at : (s : ℕ) (g : List ℕ) (G : ℤ → ℤ → ℕ) (q p b n c : ℕ) → ((r e : ℕ) → r < 3 → e < 3 → get_or g (q + r * s + e) 0 ≡ G (sub_ℕ (p + r) b) (sub_ℕ (n + e) c))
    → window_in s g q ≡ window G (sub_ℕ p b) (sub_ℕ n c)
window-at s g G q p b n c read = λ t. top t ∷ middle t ∷ low t ∷ []
  where
    top : three_in g q ≡ three_from (G (sub_ℕ p b)) (sub_ℕ n c)
    top =
        let a : p + 0 ≡ p = omega arith in
        three-at g (G (sub_ℕ p b)) q n c (λ e h. (let d : q + e ≡ q + 0 * s + e = omega arith in ap (λ x. get_or g x 0) d) ∙ read 0 e (lit≤ tt) h ∙ ap (λ x. G (sub_ℕ x b) (sub_ℕ (n + e) c)) a)

    middle : three_in g (q + s) ≡ three_from (G (sub_ℕ p b +ℤ pos 1)) (sub_ℕ n c)
    middle = three-at g (G (sub_ℕ p b +ℤ pos 1)) (q + s) n c (λ e h. (let d : q + s + e ≡ q + 1 * s + e = omega arith in ap (λ x. get_or g x 0) d) ∙ read 1 e (lit≤ tt) h ∙ ap (λ z. G z (sub_ℕ (n + e) c)) (sym (ahead p b 1)))

    low : three_in g (q + 2 * s) ≡ three_from (G (sub_ℕ p b +ℤ pos 2)) (sub_ℕ n c)
    low = three-at g (G (sub_ℕ p b +ℤ pos 2)) (q + 2 * s) n c (λ e h. read 2 e (lit≤ tt) h ∙ ap (λ z. G z (sub_ℕ (n + e) c)) (sym (ahead p b 2)))

-- ---- what the buffers hold: own the w readings of row v, and the others the differences, gradients and direction sums around it, at the places that are given here

pub record RowHolds (m : Mosaic) (v w s o : ℕ) (own : List ℕ) (dh dv : List ℤ) (gh gv tv : List ℕ) : Type 0 where
  pub wide : w + 14 ≤ s
  pub bit : o < 2
  pub own-length : length own ≡ w
  pub own_at : (j : ℕ) → j < w → get_or own j 0 ≡ m.reading (pos v) (pos j)
  pub green-at : (j : ℕ) → j < w → is_odd (j + o) ≡ is_green m (pos v) (pos j)
  pub dh-at : (r c p : ℕ) → r < 3 → c + 4 < s → p % 2 ≡ (r + c + o) % 2 → turned (is_odd p) (get_or dh (r * s + (c + 2)) (pos 0)) ≡ DH m (sub_ℕ (v + (5 + r)) 6) (sub_ℕ (c + 2) 7)
  pub dv-at : (r c p : ℕ) → r < 9 → c < s → p % 2 ≡ (r + c + 1 + o) % 2 → turned (is_odd p) (get_or dv (r * s + c) (pos 0)) ≡ DV m (sub_ℕ (v + (r + 2)) 6) (sub_ℕ c 7)
  pub gh-at : (r c : ℕ) → r < 3 → c + 8 < s → get_or gh (r * s + (c + 2)) 0 ≡ GH m (sub_ℕ (v + (5 + r)) 6) (sub_ℕ (c + 4) 7)
  pub gv-at : (r c : ℕ) → r < 5 → c < s → get_or gv (r * s + c) 0 ≡ GV m (sub_ℕ (v + (r + 4)) 6) (sub_ℕ c 7)
  pub tv-at : (q k : ℕ) → q < 2 → k < (w + 1) / 2 → get_or tv (2 * q * ((w + 1) / 2) + k) 0 ≡ direction_sum (window_in s gv (2 * q * s + (2 * k + o + 6)))

-- column j, of a red or blue pixel
module _ {m : Mosaic} {v w s o : ℕ} {own : List ℕ} {dh dv : List ℤ} {gh gv tv : List ℕ} (z : RowHolds m v w s o own dh dv gh gv tv) (ws : List ℕ) (j : ℕ) (hj : j < w) (red : (j + o) % 2 ≡ 0) where
  abbrev h : ℕ
  h = (w + 1) / 2

  -- row v, and columns from j on and back
  here : sub_ℕ (v + 6) 6 ≡ pos v
  here = at_place v 6

  onward : (k : ℕ) → sub_ℕ (j + 5 + k + 2) 7 ≡ pos j +ℤ pos k
  onward k = eq-by (subₚ (j + 5 + k + 2) 7) (natₚ j +ₚ natₚ k) (omega arith)

  back : (k : ℕ) → k ≤ 4 → sub_ℕ (j + 5 - k + 2) 7 ≡ pos j -ℤ pos k
  back k h = eq-by (subₚ (j + 5 - k + 2) 7) (natₚ j -ₚ natₚ k) (omega arith)

  gh-window : (q c : ℕ) → q ≡ c + 2 → c + 10 < s → window_in s gh q ≡ window (GH m) (pos v -ℤ pos 1) (sub_ℕ (c + 4) 7)
  gh-window q c a h =
      window-at s gh (GH m) q (v + 5) 6 (c + 4) 7
      (λ r e k l. (let i : q + r * s + e ≡ r * s + (c + e + 2) = omega arith in ap (λ n. get_or gh n 0) i) ∙ z.gh-at r (c + e) k (omega arith)
      ∙ ap₂ (λ y z. GH m (sub_ℕ y 6) (sub_ℕ z 7)) (let b : v + (5 + r) ≡ v + 5 + r = omega arith in b) (let d : c + e + 4 ≡ c + 4 + e = omega arith in d))
      ∙ ap (λ z. window (GH m) z (sub_ℕ (c + 4) 7)) (eq-by (subₚ (v + 5) 6) (natₚ v -ₚ natₚ 1) (omega arith))

  gv-window : (q p : ℕ) → (i : ℕ) → q ≡ i * s + (j + 6) → i ≤ 2 → p ≡ v + (i + 4) → window_in s gv q ≡ window (GV m) (sub_ℕ p 6) (pos j -ℤ pos 1)
  gv-window q p i a h b =
      window-at s gv (GV m) q p 6 (j + 6) 7
      (λ r e k l. (let d : q + r * s + e ≡ (i + r) * s + (j + 6 + e) = omega arith in ap (λ n. get_or gv n 0) d) ∙ z.gv-at (i + r) (j + 6 + e) (omega arith) (omega arith)
      ∙ ap (λ y. GV m (sub_ℕ y 6) (sub_ℕ (j + 6 + e) 7)) (let d : v + (i + r + 4) ≡ p + r = omega arith in d))
      ∙ ap (λ z. window (GV m) (sub_ℕ p 6) z) (eq-by (subₚ (j + 6) 7) (natₚ j -ₚ natₚ 1) (omega arith))

  -- one of the direction sums along the column, 2 q rows of tv down
  tv-sum : (q p : ℕ) → q < 2 → p ≡ v + (2 * q + 4) → get_or tv (2 * q * h + j / 2) 0 ≡ direction_sum (window (GV m) (sub_ℕ p 6) (pos j -ℤ pos 1))
  tv-sum q p l e =
      z.tv-at q (j / 2) l (omega arith)
      ∙ ap direction_sum (gv-window (2 * q * s + (2 * (j / 2) + o + 6)) p (2 * q) (omega (arith, place)) (omega arith) e)
    where
      place : 2 * (j / 2) + o ≡ j
      place = omega (arith, z.bit)

  east-is : direction_in ws s h dh dv gh tv j 0 ≡ east ws m (pos v) (pos j)
  east-is = ap₂ direction
      (five-sum-same ws _ _ (λ k l. (let a : s + (j + 7) + k * 1 ≡ 1 * s + (j + 5 + k + 2) = omega arith in ap (λ n. turned (is_odd k) (get_or dh n (pos 0))) a)
      ∙ z.dh-at 1 (j + 5 + k) k (lit≤ tt) (omega arith) (omega arith) ∙ ap₂ (DH m) here (onward k)))
      (ap direction_sum (gh-window (j + 5) (j + 3) (omega arith) (omega arith) ∙ ap (window (GH m) (pos v -ℤ pos 1)) (eq-by (subₚ (j + 3 + 4) 7) (natₚ j) (omega arith))))

  west-is : direction_in ws s h dh dv gh tv j 1 ≡ west ws m (pos v) (pos j)
  west-is = ap₂ direction
      (five-sum-same ws _ _ (λ k l. (let a : s + (j + 7) - k * 1 ≡ 1 * s + (j + 5 - k + 2) = omega arith in ap (λ n. turned (is_odd k) (get_or dh n (pos 0))) a)
      ∙ z.dh-at 1 (j + 5 - k) k (lit≤ tt) (omega arith) (omega arith) ∙ ap₂ (DH m) here (back k l)))
      (ap direction_sum (gh-window (j + 3) (j + 1) (omega arith) (omega arith) ∙ ap (window (GH m) (pos v -ℤ pos 1)) (eq-by (subₚ (j + 1 + 4) 7) (natₚ j -ₚ natₚ 2) (omega arith))))

  north-is : direction_in ws s h dh dv gh tv j 2 ≡ north ws m (pos v) (pos j)
  north-is = ap₂ direction
      (five-sum-same ws _ _ (λ k l. (let a : 4 * s + (j + 7) - k * s ≡ (4 - k) * s + (j + 7) = up-rows k l in ap (λ n. turned (is_odd k) (get_or dv n (pos 0))) a) ∙ z.dv-at (4 - k) (j + 7) k (omega arith) (omega arith) (omega arith)
      ∙ ap₂ (DV m) (eq-by (subₚ (v + (4 - k + 2)) 6) (natₚ v -ₚ natₚ k) (omega arith)) (at_place j 7)))
      ((let a : j / 2 ≡ 2 * 0 * h + j / 2 = omega arith in ap (λ n. get_or tv n 0) a) ∙ tv-sum 0 (v + 4) (lit≤ tt) refl
      ∙ ap (λ z. direction_sum (window (GV m) z (pos j -ℤ pos 1))) (eq-by (subₚ (v + 4) 6) (natₚ v -ₚ natₚ 2) (omega arith)))
    where
      up-rows : (k : ℕ) → k ≤ 4 → 4 * s + (j + 7) - k * s ≡ (4 - k) * s + (j + 7)
      up-rows k l = let e : 4 ≡ (4 - k) + k = omega arith in omega (arith, ap (λ n. n * s) e)

  south-is : direction_in ws s h dh dv gh tv j 3 ≡ south ws m (pos v) (pos j)
  south-is = ap₂ direction
      (five-sum-same ws _ _ (λ k l. (let a : 4 * s + (j + 7) + k * s ≡ (4 + k) * s + (j + 7) = omega arith in ap (λ n. turned (is_odd k) (get_or dv n (pos 0))) a) ∙ z.dv-at (4 + k) (j + 7) k (omega arith) (omega arith) (omega arith)
      ∙ ap₂ (DV m) (eq-by (subₚ (v + (4 + k + 2)) 6) (natₚ v +ₚ natₚ k) (omega arith)) (at_place j 7)))
      (tv-sum 1 (v + 6) (lit≤ tt) refl ∙ ap (λ z. direction_sum (window (GV m) z (pos j -ℤ pos 1))) (at_place v 6))

  red-is : (K : ℕ) → clamp (pos (16 * get_or own j 0) +ℤ fused_by K (total ws) (direction_in ws s h dh dv gh tv j))
      ≡ green K (total ws) (m.reading (pos v) (pos j)) (east ws m (pos v) (pos j)) (west ws m (pos v) (pos j) ∷ north ws m (pos v) (pos j) ∷ south ws m (pos v) (pos j) ∷ [])
  unfolding fused_by green
  red-is K = λ t. clamp (pos (16 * z.own_at j hj t) +ℤ fused K (total ws) (east-is t) (west-is t ∷ north-is t ∷ south-is t ∷ []))

-- column j of any colour
pub green-is : {m : Mosaic} {v w s o : ℕ} {own : List ℕ} {dh dv : List ℤ} {gh gv tv : List ℕ} (z : RowHolds m v w s o own dh dv gh gv tv) (ws : List ℕ) (j : ℕ) → j < w → (K : ℕ)
    → green_in K ws s o own dh dv gh tv j ≡ green_at ws m (pos v) (pos j) K
unfolding green_in green_at
green-is {m} {v} {o = o} z ws j hj K =
    rw z.own-length
    (choice-same (j + o) (λ _. ap (λ n. 16 * n) (z.own_at j hj)) (λ red. red-is z ws j hj red K)
    ∙ ap (λ b. cond b (16 * m.reading (pos v) (pos j)) (green K (total ws) (m.reading (pos v) (pos j)) (east ws m (pos v) (pos j)) (west ws m (pos v) (pos j) ∷ north ws m (pos v) (pos j) ∷ south ws m (pos v) (pos j) ∷ [])))
    (z.green-at j hj))
