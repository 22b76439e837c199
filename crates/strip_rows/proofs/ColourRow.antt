-- Row v of red or blue, from its readings, its greens and three lists of colour differences. Assumes nothing.
use Prim.Native.Nat.{ℕ, zero, suc, ◌+◌, ◌-◌, ◌%◌, ◌<◌}
use mathlib.Core.Path.{◌≡◌, refl, sym, ap, ◌∙◌}
use mathlib.Core.Bool.{Bool, true, false, cond}
use mathlib.Core.List.{List}
use native.Mathlib.Omega.{arith}
use lib.IntN.{pos, sub_ℕ, ◌+ℤ◌, ◌-ℤ◌}
use Rattle.whole.proofs.Pairs.{subₚ, natₚ, ◌+ₚ◌, ◌-ₚ◌, eq-by}
use Rattle.lists.specs.Part.{row_of}
use Rattle.lists.specs.Table.{table}
use Rattle.bayer.specs.declared.colour.Colour.{Colour}
use Rattle.bayer.specs.declared.colour.Colour.TheVariants.{Green}
use Rattle.bayer.specs.declared.frame.Frame.{Frame}
use Rattle.bayer.specs.Colour.{same, partner, colour_at}
use Rattle.bayer.specs.Condition.{FrameFits}
use Rattle.bayer.specs.Mirror.{mirror}
use Rattle.bayer.specs.Parity.{is_odd, starts_green}
use Rattle.bayer.proofs.ColourLaws.{partner-shares, same-eq, differ-eq}
use Rattle.bayer.proofs.MirrorLaws.{mirror-inside}
use Rattle.bayer.proofs.ParityLaws.{starts-below, place-green}
use Rattle.green_rule.specs.Greens.{greens, green_row}
use Rattle.fill_rows.specs.HalfFill.{edged, own_edged, other_edged}
use Rattle.fill_rows.proofs.HalfFillLaws.{own-mirrors, other-mirrors}
use Rattle.fill_rows.proofs.FillRowLaws.{own-row-is, other-row-is}
use Rattle.strip_rows.specs.StripRows.{colour_row, colour_edged, row_differences}

-- a row that is read above or below row v, for row n − b, starts with green where row v does not
module _ (f : Frame) (fits : FrameFits f) (v n b : ℕ) where
  turned : (o : ℕ) → o < 2 → cond (is_odd (1 + o)) 1 0 ≡ 1 - o
  turned zero h = refl
  turned (suc zero) h = refl
  turned (suc (suc o)) h = absurd (let z : ⊥ = omega arith in z)

  starts_other : (v + n + b) % 2 ≡ 1 → starts_green f.layout (mirror f.height (sub_ℕ n b)) ≡ 1 - starts_green f.layout v
  starts_other e =
      let o = starts_green f.layout v in
      let first : mirror 2 (sub_ℕ 0 0) ≡ 0 = mirror-inside 2 0 (omega arith) in
      let p : (1 + o) % 2 ≡ (v + o + n + b + 0 + 0) % 2 = parity v o n b e in
      sym (ap (λ t. cond t 1 0) (place-green f.layout f.height 2 v n b 0 0 (1 + o) fits.known fits.high (omega arith) p ∙ ap (λ c. same (colour_at f.layout (mirror f.height (sub_ℕ n b)) c) Green) first))
      ∙ turned o (omega (arith, starts-below f.layout v))
    where
      parity : (v o n b : ℕ) → (v + n + b) % 2 ≡ 1 → (1 + o) % 2 ≡ (v + o + n + b + 0 + 0) % 2
      parity v o n b e = omega arith

module _ (f : Frame) (fits : FrameFits f) (first : ℕ) (rows : List ℕ) (v : ℕ) (hv : v < f.height) where
  abbrev row : ℕ → List ℕ
  row r = row_of f.width (r - first) rows

  abbrev odd : ℕ
  odd = starts_green f.layout v

  odd-below : odd < 2
  odd-below = omega (arith, starts-below f.layout v)

  abbrev green : ℕ → List ℕ
  green r = green_row f first rows r

  own_is : (k : Colour) → same k (partner f.layout v) ≡ true → table (own_edged odd (row v) (green v) (row_differences f first rows v)) f.width ≡ colour_row f first rows k v
  own_is k e =
      rw (same-eq k _ e)
      (own-mirrors f.width odd odd-below fits.wide (row v) (green v)
      ∙ own-row-is f first rows (greens f first rows) v fits.known fits.wide fits.high hv)

  -- the lists of the rows that are read above and below it
  beside-is : (n r : ℕ) → (v + n + 1) % 2 ≡ 1 → mirror f.height (sub_ℕ n 1) ≡ r → row_differences f first rows (mirror f.height (sub_ℕ n 1)) ≡ edged f.width (1 - odd) (row r) (green r)
  beside-is n r e i = ap (λ o. edged f.width o (row (mirror f.height (sub_ℕ n 1))) (green (mirror f.height (sub_ℕ n 1)))) (starts_other f fits v n 1 e) ∙ ap (λ r. edged f.width (1 - odd) (row r) (green r)) i

  other-is : (k : Colour) → same k (partner f.layout v) ≡ false → same k Green ≡ false
      → table (other_edged odd (green v) (row_differences f first rows (mirror f.height (sub_ℕ v 1))) (row_differences f first rows (mirror f.height (sub_ℕ (v + 2) 1)))) f.width ≡ colour_row f first rows k v
  other-is k e n =
      let above : mirror f.height (sub_ℕ v 1) ≡ mirror f.height (pos v -ℤ pos 1) = ap (mirror f.height) (eq-by (subₚ v 1) (natₚ v -ₚ natₚ 1) (omega arith)) in
      let below : mirror f.height (sub_ℕ (v + 2) 1) ≡ mirror f.height (pos v +ℤ pos 1) = ap (mirror f.height) (eq-by (subₚ (v + 2) 1) (natₚ v +ₚ natₚ 1) (omega arith)) in
      rw (beside-is v _ (omega arith) above, beside-is (v + 2) _ (omega arith) below, differ-eq k _ e n (partner-shares f.layout v fits.known).0)
      (other-mirrors f.width odd odd-below fits.wide (green v) (row _) (green _) (row _) (green _)
      ∙ other-row-is f first rows (greens f first rows) v fits.known fits.wide fits.high hv)

  pub coloured : (k : Colour) → same k Green ≡ false
      → colour_edged f k v (row v) (green v) (row_differences f first rows (mirror f.height (sub_ℕ v 1))) (row_differences f first rows v) (row_differences f first rows (mirror f.height (sub_ℕ (v + 2) 1))) ≡ colour_row f first rows k v
  coloured k n = go (same k (partner f.layout v)) refl
    where
      go : (t : Bool) → same k (partner f.layout v) ≡ t
          → colour_edged f k v (row v) (green v) (row_differences f first rows (mirror f.height (sub_ℕ v 1))) (row_differences f first rows v) (row_differences f first rows (mirror f.height (sub_ℕ (v + 2) 1))) ≡ colour_row f first rows k v
      go true e = rw e (own_is k e)
      go false e = rw e (other-is k e n)
