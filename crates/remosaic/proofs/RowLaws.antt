-- Row i of the observed samples, from the row in the green plane and in that of the colour that shares it. Assumes nothing.
use Prim.Native.Nat.{ℕ, ◌+◌, ◌*◌, ◌≤◌, ◌<◌}
use mathlib.Core.Path.{◌≡◌, refl, sym, ap, ◌∙◌}
use mathlib.Core.Bool.{Bool, true, false, cond}
use mathlib.Core.List.{List}
use native.Mathlib.Nat.{mul-le-mul, mul-le-mul_right}
use native.Mathlib.Numerals.{add-one}
use native.Mathlib.Omega.{arith}
use lib.ListN.{length, get_or}
use Rattle.lists.specs.Part.{row_of}
use Rattle.lists.specs.Table.{table}
use Rattle.lists.proofs.TableLaws.{table_same}
use Rattle.lists.proofs.JoinedLaws.{part-within}
use Rattle.lists.proofs.PartLaws.{row-length, row-entry}
use Rattle.bayer.specs.declared.colour.Colour.{Colour}
use Rattle.bayer.specs.declared.colour.Colour.TheVariants.{Red, Green, Blue}
use Rattle.bayer.specs.declared.frame.Frame.{Frame}
use Rattle.bayer.specs.Colour.{partner}
use Rattle.bayer.specs.Condition.{FrameFits}
use Rattle.bayer.specs.Parity.{is_odd, starts_green}
use Rattle.bayer.specs.Planes.{Planes, plane_of}
use Rattle.bayer.proofs.ColourLaws.{partner-shares}
use Rattle.bayer.proofs.ParityLaws.{starts-below, row-colour}
use Rattle.remosaic.specs.MosaicBack.{observed}
use Rattle.remosaic.specs.Rows.{RowsLent, observed_in}

partner-plane : (planes : Planes) (p : Colour) → (p ≡ Green → ⊥) → plane_of p (planes Red) (planes Blue) ≡ planes p
partner-plane planes Red h = refl
partner-plane planes Green h = absurd (h refl)
partner-plane planes Blue h = refl

chosen : (g : Colour → ℕ) (t : Bool) (c d : Colour) → cond t (g c) (g d) ≡ g (cond t c d)
chosen g true c d = refl
chosen g false c d = refl

-- ---- row i of a strip from row a on

module _ {f : Frame} {a n : ℕ} {planes : Planes} (w : RowsLent f a n planes) (i : ℕ) (h : i < n) where
  abbrev W : ℕ
  W = f.width

  abbrev p : Colour
  p = partner f.layout (a + i)

  has-row : (k : Colour) → (i + 1) * W ≤ length (planes k)
  has-row k = rw (w.long k, add-one i) (mul-le-mul_right W h)

  -- the planes have it, which `partner_row` asks for
  pub row-lent : FrameFits f × (a + i < f.height) × ((i + 1) * W ≤ length (planes Red)) × ((i + 1) * W ≤ length (planes Blue))
  row-lent = (w.frame, omega (arith, w.inside), has-row Red, has-row Blue)

  -- where it ends is a number that fits
  pub row_ends : (i * W + W ≤ n * W) × (n * W ≤ 4096 * 4096)
  row_ends = let few : n ≤ 4096 = omega (arith, w.inside, w.frame.low) in (part-within W h, mul-le-mul few w.frame.narrow)

  other-is : plane_of p (planes Red) (planes Blue) ≡ planes p
  other-is = partner-plane planes p (partner-shares f.layout (a + i) w.frame.known).0

  own : (j : ℕ) → j < W → observed_in (starts_green f.layout (a + i)) (row_of W i (planes Green)) (row_of W i (planes p)) j ≡ observed f a planes i j
  own j k =
      let g : Colour → ℕ = λ c. get_or (planes c) (i * W + j) 0 in
      rw (row-entry W i (planes Green) j k, row-entry W i (planes p) j k)
      (chosen g (is_odd (j + starts_green f.layout (a + i))) Green p ∙ sym (ap g (row-colour f.layout (a + i) j w.frame.known)))

  -- along the rows that the code has taken
  pub along-row : {odd v : ℕ} {green other : List ℕ} → odd ≡ starts_green f.layout v → v ≡ a + i → green ≡ row_of W i (planes Green) → other ≡ row_of W i (plane_of p (planes Red) (planes Blue))
      → (odd < 2) × (length green ≡ W) × (length other ≡ length green) × ((j : ℕ) → j < W → observed_in odd green other j ≡ observed f a planes i j)
  along-row {odd} {v} {green} {other} s z e r =
      let o : odd ≡ starts_green f.layout (a + i) = s ∙ ap (starts_green f.layout) z in
      let l : length green ≡ W = ap length e ∙ row-length W i (planes Green) (has-row Green) in
      let q : other ≡ row_of W i (planes p) = r ∙ ap (row_of W i) other-is in (
        omega (arith, o, starts-below f.layout (a + i)),
        l,
        ap length q ∙ row-length W i (planes p) (has-row p) ∙ sym l,
        λ j k. rw (o, e, q) (own j k),
      )

-- what is made of each sample of a row of w, where its samples are known by a rule
pub row-table : (g : ℕ → ℕ) {sample rule : ℕ → ℕ} {n w : ℕ} → n ≡ w → ((j : ℕ) → j < w → sample j ≡ rule j) → table (λ j. g (sample j)) n ≡ table (λ j. g (rule j)) w
row-table g e h = rw e (table_same _ _ _ (λ j k. ap g (h j k)))
