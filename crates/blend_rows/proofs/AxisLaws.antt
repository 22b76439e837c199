-- The axes of a row's pixels: from the parts of half rows that the code hands on, and from lists of variations and estimates. Assumes nothing.
use Prim.Native.Nat.{ℕ, ◌+◌, ◌-◌, ◌*◌, ◌≤◌, ◌<◌}
use mathlib.Core.List.{List, ◌++◌}
use mathlib.Core.Path.{◌≡◌, refl, sym, ap, ap₂, ◌∙◌}
use native.Mathlib.Nat.{le_of_eq}
use native.Mathlib.Omega.{arith}
use lib.IntN.{ℤ, pos}
use lib.ListN.{length, get_or, take, drop}
use Rattle.lists.specs.Table.{table}
use Rattle.lists.specs.Part.{part}
use Rattle.lists.specs.Bound.{AllAtMost}
use Rattle.lists.proofs.TableLaws.{length-table, get_or-table, table_same, table-all}
use Rattle.lists.proofs.PartLaws.{length_part, first_part, other-part, get_or-from}
use Rattle.lists.proofs.BoundLaws.{all-part}
use Rattle.blend.specs.declared.axis.Axis.{Axis}
use Rattle.blend.specs.Logistic.{weight_at}
use Rattle.blend.specs.Blend.{axis, blend}
use Rattle.blend.specs.Machine.{place_of, Fitting}
use Rattle.blend.proofs.Bounds.{estimate-most, estimates-near}
use Rattle.blend_rows.specs.declared.around.Around.{Around}
use Rattle.blend_rows.specs.BlendIn.{Lines, axis_from, HalfRows, row_axis_in, column_axis_in, blend_in, axis_of, Axes, Weighted}

-- ---- readings from place a of a list on, enough for n pixels

pub record From (n a : ℕ) (l : List ℕ) : Type 0 where
  pub room : a + n ≤ length l
  pub small : AllAtMost 4095 l

pub half_rows : (a : Around) → HalfRows a.places a.own.now a.beside.now
half_rows a = record { five = a.five; one = a.one; own-small = a.own_small; beside-small = a.beside_small }

module _ {n a : ℕ} {l : List ℕ} (z : From n a l) where
  abbrev rest : List ℕ
  rest = part a (length l - a) l

  long : n ≤ length rest
  long = rw (length_part a (length l - a) l (omega (arith, z.room))) (omega (arith, z.room))

  rest-small : AllAtMost 4095 rest
  rest-small = all-part (λ i. i ≤ 4095) 0 (omega arith) a (length l - a) l z.small

  entry : (k : ℕ) → k < n → get_or rest k 0 ≡ get_or l (a + k) 0
  entry k h = get_or-from a l k (a + k) 0 (omega (arith, z.room)) refl

module _ {n a b c d e : ℕ} {A B C D E : List ℕ} (hA : From n a A) (hB : From n b B) (hC : From n c C) (hD : From n d D) (hE : From n e E) where
  pub lines : Lines n (rest hA) (rest hB) (rest hC) (rest hD) (rest hE)
  lines = record {
    long-c = long hA;
    long-l = long hB;
    long-r = long hC;
    long-p = long hD;
    long-q = long hE;
    small-c = rest-small hA;
    small-l = rest-small hB;
    small_r = rest-small hC;
    small-p = rest-small hD;
    small-q = rest-small hE;
  }

  pub axes-from : {X : Type 0} (of : Axis → X) (m : ℕ) → m ≡ n
      → table (λ k. of (axis_from (rest hA) (rest hB) (rest hC) (rest hD) (rest hE) k)) m ≡ table (λ k. of (axis (get_or A (a + k) 0) (get_or B (b + k) 0) (get_or C (c + k) 0) (get_or D (d + k) 0) (get_or E (e + k) 0))) m
  axes-from of m i =
      table_same _ _ m
      (λ k h. (let g : k < n = omega arith in λ t. of (axis (entry hA k g t) (entry hB k g t) (entry hC k g t) (entry hD k g t) (entry hE k g t))))

-- ---- what is measured along the row and along the column, of the half rows around it

module _ {h : ℕ} {own beside : List ℕ} (z : HalfRows h own beside) (n : ℕ) (fits : n + 2 ≤ h) where
  from-own : (a : ℕ) → a + n ≤ length own → From n a own
  from-own a l = record { room = l; small = z.own-small }

  from-beside : (a : ℕ) → a + n ≤ length beside → From n a beside
  from-beside a l = record { room = l; small = z.beside-small }

  pub measured-along : (side : ℕ) → side < 2 → {X : Type 0} (of : Axis → X) (m : ℕ) → m ≡ n
      → let c = part (2 * h + 1) (length own - (2 * h + 1)) own in
      let l = part side (length beside - side) beside in
      let r = part (side + 1) (length beside - (side + 1)) beside in
      let p = part (2 * h) (length own - 2 * h) own in
      let q = part (2 * h + 2) (length own - (2 * h + 2)) own in
      table (λ k. of (axis_from c l r p q k)) m ≡ table (λ k. of (row_axis_in h side own beside k)) m
  unfolding row_axis_in
  measured-along side bit =
      axes-from (from-own (2 * h + 1) (omega (arith, z.five))) (from-beside side (omega (arith, z.one))) (from-beside (side + 1) (omega (arith, z.one))) (from-own (2 * h) (omega (arith, z.five))) (from-own (2 * h + 2) (omega (arith, z.five)))

  pub measured-across : {X : Type 0} (of : Axis → X) (m : ℕ) → m ≡ n
      → let c = part (2 * h + 1) (length own - (2 * h + 1)) own in
      let l = part (h + 1) (length own - (h + 1)) own in
      let r = part (3 * h + 1) (length own - (3 * h + 1)) own in
      let p = part 1 (length own - 1) own in
      let q = part (4 * h + 1) (length own - (4 * h + 1)) own in
      table (λ k. of (axis_from c l r p q k)) m ≡ table (λ k. of (column_axis_in h own k)) m
  unfolding column_axis_in
  measured-across =
      axes-from (from-own (2 * h + 1) (omega (arith, z.five))) (from-own (h + 1) (omega (arith, z.five))) (from-own (3 * h + 1) (omega (arith, z.five))) (from-own 1 (omega (arith, z.five))) (from-own (4 * h + 1) (omega (arith, z.five)))

-- ---- both axes of a pixel are inside what `blend` takes

fit-in : {h : ℕ} {own beside : List ℕ} → HalfRows h own beside → (side k : ℕ) → Fitting (row_axis_in h side own beside k) (column_axis_in h own k)
unfolding row_axis_in column_axis_in
fit-in z side k = let o = z.own-small in let b = z.beside-small in record {
  along = estimate-most _ _ _ _ _ (o _) (b _) (b _) (o _) (o _);
  across = estimate-most _ _ _ _ _ (o _) (o _) (o _) (o _) (o _);
  apart = estimates-near _ _ _ _ _ _ _ _ _ (b _) (b _) (o _) (o _) (o _) (o _) (o _) (o _);
}

-- ---- variations and estimates, along the row and then along the column

module _ {h : ℕ} {own beside : List ℕ} (z : HalfRows h own beside) (side n : ℕ) {y : List ℕ} {d : List ℤ}
    (y-is : y ≡ table (λ k. (row_axis_in h side own beside k).variation) n ++ table (λ k. (column_axis_in h own k).variation) n)
    (d-is : d ≡ table (λ k. (row_axis_in h side own beside k).estimate) n ++ table (λ k. (column_axis_in h own k).estimate) n) where
  y₀ : take (n - 0) y ≡ table (λ k. (row_axis_in h side own beside k).variation) n
  y₀ = first_part n (n - 0) _ _ y-is (length-table _ n) (omega arith)

  y₁ : take (length y - n) (drop n y) ≡ table (λ k. (column_axis_in h own k).variation) n
  y₁ = other-part n (table (λ k. (row_axis_in h side own beside k).variation) n) (table (λ k. (column_axis_in h own k).variation) n) y-is (length-table _ n)

  d₀ : take (n - 0) d ≡ table (λ k. (row_axis_in h side own beside k).estimate) n
  d₀ = first_part n (n - 0) _ _ d-is (length-table _ n) (omega arith)

  d₁ : take (length d - n) (drop n d) ≡ table (λ k. (column_axis_in h own k).estimate) n
  d₁ = other-part n (table (λ k. (row_axis_in h side own beside k).estimate) n) (table (λ k. (column_axis_in h own k).estimate) n) d-is (length-table _ n)

  row_is : (k : ℕ) → k < n → axis_of (take (n - 0) y) (take (n - 0) d) k ≡ row_axis_in h side own beside k
  row_is k g = λ t. record { variation = (ap (λ l. get_or l k 0) y₀ ∙ get_or-table _ n k 0 g) t; estimate = (ap (λ l. get_or l k (pos 0)) d₀ ∙ get_or-table _ n k (pos 0) g) t }

  column-is : (k : ℕ) → k < n → axis_of (take (length y - n) (drop n y)) (take (length d - n) (drop n d)) k ≡ column_axis_in h own k
  column-is k g = λ t. record { variation = (ap (λ l. get_or l k 0) y₁ ∙ get_or-table _ n k 0 g) t; estimate = (ap (λ l. get_or l k (pos 0)) d₁ ∙ get_or-table _ n k (pos 0) g) t }

  pub axes : Axes n (take (n - 0) y) (take (length y - n) (drop n y)) (take (n - 0) d) (take (length d - n) (drop n d))
  axes = record {
    vr-long = le_of_eq (sym (ap length y₀ ∙ length-table _ n));
    vc-long = le_of_eq (sym (ap length y₁ ∙ length-table _ n));
    xr-long = le_of_eq (sym (ap length d₀ ∙ length-table _ n));
    xc-long = le_of_eq (sym (ap length d₁ ∙ length-table _ n));
    fitting = λ k g. rw (row_is k g, column-is k g) (fit-in z side k);
  }

  pub blended : table (λ k. blend (axis_of (take (n - 0) y) (take (n - 0) d) k) (axis_of (take (length y - n) (drop n y)) (take (length d - n) (drop n d)) k)) n ≡ table (blend_in h side own beside) n
  blended = table_same _ _ n (λ k g. ap₂ blend (row_is k g) (column-is k g))

-- ---- the places of the table, and the weights from them

place-small : (a b : ℕ) → place_of a b ≤ 255
place-small a b = omega arith

module _ (vr vc : List ℕ) (n : ℕ) {p : List ℕ} (p-is : p ≡ table (λ k. place_of (get_or vr k 0) (get_or vc k 0)) n) where
  pub places-small : AllAtMost 255 p
  places-small = rw p-is (table-all (λ i. i ≤ 255) _ n (omega arith) (λ k _. place-small (get_or vr k 0) (get_or vc k 0)))

  pub places-length : length p ≡ n
  places-length = ap length p-is ∙ length-table _ n

  pub weighted-by : {q : List ℕ} {m : ℕ} → m ≡ n → q ≡ table (λ k. weight_at (get_or p k 0)) m → Weighted (length p) q vr vc
  weighted-by e q-is = record {
    weights-long = le_of_eq (places-length ∙ sym (ap length q-is ∙ length-table _ _ ∙ e));
    weighted = λ k h.
        let g : k < n = omega (arith, places-length) in
        ap (λ l. get_or l k 0) q-is ∙ get_or-table _ _ k 0 (omega (arith, e)) ∙ ap weight_at (ap (λ l. get_or l k 0) p-is ∙ get_or-table _ n k 0 g);
  }
