-- The figure 53 cannot become 51: a frame whose green, with smoothing 0, is more than 51 hundredths away from the exact reconstruction, by computation; and a strip call delivers it. Assumes nothing.
use mathlib.Core.Path.{◌≡◌, refl, ◌∙◌, ap, subst}
use Prim.Native.Nat.{ℕ}
use lib.Dec.{le→leb, lit≤}
use lib.ListN.{length, get_or}
use Rattle.whole.specs.Fraction.{natural, Within}
use Rattle.lists.specs.Part.{row_of}
use Rattle.lists.specs.Any.{any}
use Rattle.bayer.specs.declared.colour.Colour.{Colour}
use Rattle.bayer.specs.declared.colour.Colour.TheVariants.{Red, Green, Blue}
use Rattle.bayer.specs.Colour.{colours, colour_at}
use Rattle.bayer.specs.Mirror.{reflect, mirror}
use Rattle.bayer.specs.Planes.{Planes}
use Rattle.bayer.specs.Refusal.{first_of}
use Rattle.gbtf.specs.Difference.{difference}
use Rattle.gbtf.specs.Fusion.{fusion, green}
use Rattle.gbtf.specs.Exact.{sum_over/t², exact_green}
use Rattle.gbtf.specs.GreenAt.{DH, DV, GH, GV, green_at, exact_green_at}
use Rattle.green_rule.specs.Greens.{greens, exact_greens}
use Rattle.demosaic.specs.Sample.{sample}
use Rattle.demosaic.specs.Exact.{exact_sample}
use Rattle.demosaic.proofs.PlaneRowsLaws.{plane-at}
use Rattle.strip.specs.declared.entry.Entry.TheVariants.{FullSize}
use Rattle.strip.specs.Strip.{asked, strip_number, Promise}
use Rattle.strip.proofs.Demand2.{accepted-plane}
use Rattle.figures.specs.Figures.{frame8}
use Rattle.figures.specs.Sharpness.{readings51}

pub not-51 : Within (natural (sample (frame8 0) 0 readings51 Green 2 2)) (exact_sample (frame8 0) 0 readings51 Green 2 2) 51 100 → ⊥
unfolding colours colour_at reflect mirror row_of difference fusion green DH DV GH GV green_at greens sum_over/t² exact_green exact_green_at exact_greens sample exact_sample
not-51 h = le→leb _ _ h.low

-- a strip call over the whole frame accepts it
pub accepted-51 : strip_number (asked FullSize (frame8 0) 0 8 readings51) 64 64 64 ≡ 0
unfolding first_of any strip_number
accepted-51 = refl

-- and if it keeps the contract, it delivers that green
pub delivered-51 : (lent after : Planes) (answer : ℕ) → ((k : Colour) → length (lent k) ≡ 64) → Promise (asked FullSize (frame8 0) 0 8 readings51) lent answer after
    → (answer ≡ 0) × (Within (natural (get_or (after Green) 18 0)) (exact_sample (frame8 0) 0 readings51 Green 2 2) 51 100 → ⊥)
delivered-51 lent after answer h p =
    let e : answer ≡ 0 = p.number ∙ rw (h Red, h Green, h Blue) accepted-51 in
    let v : get_or (after Green) 18 0 ≡ sample (frame8 0) 0 readings51 Green 2 2 = ap (λ l. get_or l 18 0) (accepted-plane p e Green) ∙ plane-at (frame8 0) 0 readings51 0 8 Green 2 2 (lit≤ tt) (lit≤ tt) in
    (e, λ w. not-51 (subst (λ x. Within (natural x) (exact_sample (frame8 0) 0 readings51 Green 2 2) 51 100) v w))
