-- The colour differences of a row with its ends repeated: how the list is made, and what it has beside a column. Assumes nothing.
use Prim.Native.Nat.{ℕ, zero, suc, ◌+◌, ◌-◌, ◌*◌, ◌/◌, ◌%◌, ◌≤◌, ◌<◌, min}
use mathlib.Core.Path.{◌≡◌, sym, ap, ap₂, ◌∙◌}
use mathlib.Core.List.{List, [], ◌∷◌}
use native.Mathlib.Decide.{dec_le, dec_lt}
use native.Mathlib.Omega.{arith}
use lib.IntN.{ℤ, pos, nat_abs}
use lib.ListN.{length, get_or, set, take, drop, length-append, length-take, length-drop, length-set, get_or-append}
use lib.Seq.{get_or-set_same, get_or-set_other, ext_get_or}
use Rattle.whole.proofs.Pairs.{sub-pos, natₚ, ◌-ₚ◌, within_by}
use Rattle.lists.specs.Table.{table}
use Rattle.lists.specs.Bound.{AllAtMost, AllWithin}
use Rattle.lists.proofs.TableLaws.{length-table, get_or-table, table-all, table_same}
use Rattle.lists.proofs.PartLaws.{placed, get_or_part}
use Rattle.bayer.specs.Mirror.{mirror}
use Rattle.bayer.proofs.MirrorLaws.{once-below, once-above}
use Rattle.demosaic.specs.Fill.{colour_difference}
use Rattle.fill_rows.specs.FillRow.{left_of, right_of, colour_difference_at}
use Rattle.half_rows.specs.HalfRow.{pixels}
use Rattle.fill_rows.specs.HalfFill.{places, edged}
use Rattle.fill_rows.proofs.SideLaws.{before-inside, after-inside}
use Rattle.fill_rows.proofs.FilledLaws.{taken, taken_is}

-- ---- how it is made: m entries by a rule, after the first place, then the first place, the one after them and the last

module _ (f : ℕ → ℤ) where
  -- a store of f i at place i: place k has f k if it had, or is place i
  stored : (l : List ℤ) (i k : ℕ) {a : ℤ} → i < length l → a ≡ f i → ((k ≡ i → ⊥) → get_or l k (pos 0) ≡ f k) → get_or (set l i a) k (pos 0) ≡ f k
  stored l i k {a} h e had =
      elim (dec_lt k i) [
        | yes q ↦ other (λ t. (let z : ⊥ = omega arith in z))
        | no q ↦
            elim (dec_lt i k) [
              | yes r ↦ other (λ t. (let z : ⊥ = omega arith in z))
              | no r ↦ let t : k ≡ i = omega arith in rw (t, e) (get_or-set_same l i (f i) (pos 0) h)
            ]
      ]
    where
      other : (k ≡ i → ⊥) → get_or (set l i a) k (pos 0) ≡ f k
      other q = get_or-set_other l i k a (pos 0) q ∙ had q

  module _ (m : ℕ) (d ys : List ℤ) (some : 1 ≤ m) (low : m + 2 ≤ length d) (high : length d ≤ m + 3) (is : ys ≡ table (λ k. f (1 + k)) m) (small : AllWithin 1048560 ys) where
    abbrev l₀ : List ℤ
    l₀ = placed 1 (m + 1) d ys

    abbrev l₁ : List ℤ
    l₁ = set l₀ 0 (taken l₀ 1)

    abbrev l₂ : List ℤ
    l₂ = set l₁ (m + 1) (taken l₁ m)

    long : length l₀ ≡ length d
    long = let e : length ys ≡ m = ap length is ∙ length-table _ m in simp (length-append, length-take, length-drop) (omega arith)

    inner : (k : ℕ) → 1 ≤ k → k ≤ m → get_or l₀ k (pos 0) ≡ f k
    inner k h l = within d low k h l
      where
        within : (d : List ℤ) → m + 2 ≤ length d → (k : ℕ) → 1 ≤ k → k ≤ m → get_or (placed 1 (m + 1) d ys) k (pos 0) ≡ f k
        within [] n k h l = absurd (let z : ⊥ = omega arith in z)
        within (o ∷ d) n zero h l = absurd (let z : ⊥ = omega arith in z)
        within (o ∷ d) n (suc k) h l =
            let e : 1 + k ≡ suc k = omega arith in
            let t : k < length ys = rw (is, length-table) (omega arith) in
            get_or-append ys _ (pos 0) k t ∙ rw is (get_or-table _ m k (pos 0) (omega arith)) ∙ ap f e

    -- one of these entries, where it is read
    read : (l : List ℤ) (k : ℕ) → 1 ≤ k → k ≤ m → get_or l k (pos 0) ≡ f k → taken l k ≡ f k
    read l k h n e =
        let i : 1 + (k - 1) ≡ k = omega arith in
        let is-f : get_or ys (k - 1) (pos 0) ≡ f k = rw is (get_or-table _ m (k - 1) (pos 0) (omega arith)) ∙ ap f i in
        taken_is l k e (rw is-f at (small (k - 1)))

    framed : f 1 ≡ f 0 → f m ≡ f (m + 1) → f m ≡ f (length d - 1) → set l₂ (length d - 1) (taken l₂ m) ≡ table f (length d)
    framed first after last =
        ext_get_or (pos 0) _ _ (simp (length-set, long, length-table))
        (λ k h.
        third k (λ r. second k (λ q. begun k (λ p. inner k (omega arith) (let b : k < length d = simp (length-set, long) at h in omega arith))))
        ∙ sym (get_or-table f (length d) k (pos 0) (simp (length-set, long) at h)))
      where
        begun : (k : ℕ) → ((k ≡ 0 → ⊥) → get_or l₀ k (pos 0) ≡ f k) → get_or l₁ k (pos 0) ≡ f k
        begun k = stored l₀ 0 k (rw long (omega arith)) (read l₀ 1 (omega arith) some (inner 1 (omega arith) some) ∙ first)

        second : (k : ℕ) → ((k ≡ m + 1 → ⊥) → get_or l₁ k (pos 0) ≡ f k) → get_or l₂ k (pos 0) ≡ f k
        second k = stored l₁ (m + 1) k (simp (length-set, long) (omega arith)) (read l₁ m some (omega arith) (begun m (λ _. inner m some (omega arith))) ∙ after)

        third : (k : ℕ) → ((k ≡ length d - 1 → ⊥) → get_or l₂ k (pos 0) ≡ f k) → get_or (set l₂ (length d - 1) (taken l₂ m)) k (pos 0) ≡ f k
        third k = stored l₂ (length d - 1) k (simp (length-set, long) (omega arith)) (read l₂ m some (omega arith) (second m (λ _. begun m (λ _. inner m some (omega arith)))) ∙ last)

-- what a reading and a green of 16 bits can differ by
pub small-difference : (x g : List ℕ) → AllAtMost 65535 x → AllAtMost 65535 g → (p : ℕ) → nat_abs (colour_difference_at x g p) ≤ 1048560
small-difference x g hx hg p = within_by (natₚ (get_or g p 0) -ₚ natₚ (16 * get_or x p 0)) (omega (arith, hg p)) (omega (arith, hx p))

pub small-differences : (x g : List ℕ) (n : ℕ) {l : List ℤ} → AllAtMost 65535 x → AllAtMost 65535 g → l ≡ table (λ k. colour_difference_at x g (2 * k)) n → AllWithin 1048560 l
small-differences x g n hx hg e = rw e (table-all (λ z. nat_abs z ≤ 1048560) _ n (omega arith) (λ k _. small-difference x g hx hg (2 * k)))

-- how many pixels there are, and the place k of the one left of column j
pixels-many : (w side : ℕ) → side < 2 → 1 ≤ w → (w ≤ 2 * pixels w side + side) × (2 * pixels w side + side ≤ w + 1)
pixels-many w side s h = omega arith

place-left : (side j : ℕ) → side < 2 → (j + side) % 2 ≡ 1 → 2 * ((j + 1 - side) / 2) + side ≡ j + 1
place-left side j s e = omega arith

-- the columns that are at the places k and k + 1, of m pixels
column-left : (w side j k m : ℕ) → 2 * k + side ≡ j + 1 → j < w → w ≤ 2 * m + side → side < 2 → 1 ≤ j → 2 * min (k - 1) (m - 1) + side ≡ j - 1
column-left w side j k m e h l s n = omega arith

column-right : (w side j k m : ℕ) → 2 * k + side ≡ j + 1 → j + 2 ≤ w → w ≤ 2 * m + side → 2 * min (k + 1 - 1) (m - 1) + side ≡ j + 1
column-right w side j k m e h l = omega arith

column-last : (w side j k m : ℕ) → 2 * k + side ≡ j + 1 → j + 1 ≡ w → w ≤ 2 * m + side → 2 * m + side ≤ w + 1 → 1 ≤ m → 2 * min (k + 1 - 1) (m - 1) + side ≡ w - 1 - 1
column-last w side j k m e h l u n = omega arith

module _ (w side : ℕ) (x g : List ℕ) where
  abbrev m : ℕ
  m = pixels w side

  abbrev rule : ℕ → ℤ
  rule k = colour_difference_at x g (2 * min (k - 1) (m - 1) + side)

  pub edged-length : length (edged w side x g) ≡ places w
  unfolding edged
  edged-length = length-table rule (places w)

  -- from the differences at every second column of the part from column `side` on
  pub edged-made : (d : List ℤ) {ys : List ℤ} {n k : ℕ} → side < 2 → 2 ≤ w → length x ≡ w → length g ≡ w → length d ≡ places w → n ≡ m → k ≡ m
      → ys ≡ table (λ k. colour_difference_at (take (length x - side) (drop side x)) (take (length g - side) (drop side g)) (2 * k)) n → AllWithin 1048560 ys →
      let l = placed 1 (k + 1) d ys in
      let r = set l 0 (taken l 1) in
      let s = set r (k + 1) (taken r k) in
      set s (length d - 1) (taken s k) ≡ edged w side x g
  unfolding edged
  edged-made d {ys} {n} o wide lx lg h i last e small =
      rw last
      (framed rule m d ys (omega arith) (omega arith) (omega arith) (e ∙ table_same _ _ n inner ∙ ap (table (λ k. rule (1 + k))) i) small
      (at 1 0 (omega arith)) (at m (m + 1) (omega arith)) (at m (length d - 1) (omega arith))
      ∙ ap (table rule) h)
    where
      at : (a b : ℕ) → 2 * min (a - 1) (m - 1) + side ≡ 2 * min (b - 1) (m - 1) + side → rule a ≡ rule b
      at a b t = ap (colour_difference_at x g) t

      inner : (k : ℕ) → k < n → colour_difference_at (take (length x - side) (drop side x)) (take (length g - side) (drop side g)) (2 * k) ≡ rule (1 + k)
      inner k l =
          let p : side + 2 * k ≡ 2 * min (1 + k - 1) (m - 1) + side = omega arith in
          ap₂ colour_difference (get_or_part side (length g - side) g (2 * k) 0 (omega arith)) (get_or_part side (length x - side) x (2 * k) 0 (omega arith)) ∙ ap (colour_difference_at x g) p

  -- ---- what it has at a column of its pixels, and left and right of another

  entry-is : (k p : ℕ) → k < places w → 2 * min (k - 1) (m - 1) + side ≡ p → get_or (edged w side x g) k (pos 0) ≡ colour_difference_at x g p
  unfolding edged
  entry-is k p h e = get_or-table rule (places w) k (pos 0) h ∙ ap (colour_difference_at x g) e

  module _ (s : side < 2) (wide : 2 ≤ w) (j : ℕ) (inside : j < w) where
    pub at-pixel : (j + side) % 2 ≡ 0 → get_or (edged w side x g) (j / 2 + 1) (pos 0) ≡ colour_difference_at x g j
    at-pixel e = entry-is (j / 2 + 1) j (omega arith) (omega arith)

    module _ (e : (j + side) % 2 ≡ 1) where
      abbrev left : ℕ
      left = (j + 1 - side) / 2

      fits : (left + 1 < places w) × (w ≤ 2 * m + side) × (2 * m + side ≤ w + 1) × (2 * left + side ≡ j + 1)
      fits = let n = pixels-many w side s (omega arith) in let p = place-left side j s e in (omega arith, n.0, n.1, p)

      pub at_left : get_or (edged w side x g) left (pos 0) ≡ colour_difference_at x g (left_of w j)
      at_left =
          elim (dec_le 1 j) [
            | yes h ↦
                let p = fits in
                entry-is left (j - 1) (omega arith) (column-left w side j left m p.3 inside p.1 s h)
                ∙ ap (colour_difference_at x g) (before-inside w j h (omega arith))
            | no h ↦
                let z : 0 ≡ j = omega arith in
                let k : left ≡ 0 = omega arith in
                ap (λ n. get_or (edged w side x g) n (pos 0)) k
                ∙ entry-is 0 1 (omega arith) (omega arith)
                ∙ ap (colour_difference_at x g) (sym (once-below w 0 wide) ∙ ap (left_of w) z)
          ]

      pub at_right : get_or (edged w side x g) (left + 1) (pos 0) ≡ colour_difference_at x g (right_of w j)
      at_right =
          let p = fits in
          elim (dec_le (j + 2) w) [
            | yes h ↦ entry-is (left + 1) (j + 1) p.0 (column-right w side j left m p.3 h p.1) ∙ ap (colour_difference_at x g) (after-inside w j (omega arith))
            | no h ↦
                entry-is (left + 1) (w - 1 - 1) p.0 (column-last w side j left m p.3 (omega arith) p.1 p.2 (omega arith))
                ∙ ap (colour_difference_at x g) (sym (ap (mirror w) (sub-pos (j + 1) 0 (w - 1 + 1) (omega arith)) ∙ once-above w 1 (omega arith)))
          ]
