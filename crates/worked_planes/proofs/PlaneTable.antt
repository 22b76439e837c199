-- Every frame of the worked table has the planes that the whole-number rules give: each frame's greens by computation, and then red and blue from these. Assumes nothing.
use mathlib.Core.Bool.{Bool}
use lib.Dec.{T}
use Rattle.lists.specs.Part.{row_of}
use Rattle.lists.specs.Every.{Every}
use Rattle.bayer.specs.declared.colour.Colour.TheVariants.{Red, Green, Blue}
use Rattle.bayer.specs.Colour.{colours, colour_at}
use Rattle.bayer.specs.Mirror.{reflect, mirror}
use Rattle.gbtf.specs.Difference.{difference}
use Rattle.gbtf.specs.Fusion.{fusion, green}
use Rattle.gbtf.specs.GreenAt.{DH, DV, GH, GV, green_at}
use Rattle.green_rule.specs.Greens.{greens}
use Rattle.demosaic.specs.Fill.{fill}
use Rattle.demosaic.specs.Sample.{neighbours, other_from, sample}
use Rattle.worked_planes.specs.Rule.{plane_is}
use Rattle.worked_planes.specs.PlanesClaim.{PlanesClaim, gives_planes, listed, planes_hold}
use Rattle.worked_planes.specs.WorkedPlanes.{planes₀, planes₁, planes₂, planes₃, planes₄, planes₅, planes₆, planes₇, worked_planes}
use Rattle.worked_planes.proofs.Tables.{◌and◌}
use Rattle.worked_planes.proofs.PlaneTests.{from_greens, planes-are}

abbrev greens_hold : PlanesClaim → Bool
greens_hold (gives_planes f readings red green blue) = plane_is f readings Green (listed f green)

-- red and blue are what its greens give
abbrev ColoursHold : PlanesClaim → Type 0
ColoursHold (gives_planes f readings red green blue) = T (from_greens f readings (listed f green) Red (listed f red)) × T (from_greens f readings (listed f green) Blue (listed f blue))

planes-hold : (c : PlanesClaim) → T (greens_hold c) → ColoursHold c → planes_hold c
planes-hold (gives_planes f readings red green blue) g t = planes-are f readings (listed f green) g (listed f red) (listed f blue) t.0 t.1

greens₀ : T (greens_hold planes₀)
unfolding colours colour_at reflect mirror row_of difference fusion green DH DV GH GV green_at greens sample
greens₀ = tt

greens₁ : T (greens_hold planes₁)
unfolding colours colour_at reflect mirror row_of difference fusion green DH DV GH GV green_at greens sample
greens₁ = tt

greens₂ : T (greens_hold planes₂)
unfolding colours colour_at reflect mirror row_of difference fusion green DH DV GH GV green_at greens sample
greens₂ = tt

greens₃ : T (greens_hold planes₃)
unfolding colours colour_at reflect mirror row_of difference fusion green DH DV GH GV green_at greens sample
greens₃ = tt

greens₄ : T (greens_hold planes₄)
unfolding colours colour_at reflect mirror row_of difference fusion green DH DV GH GV green_at greens sample
greens₄ = tt

greens₅ : T (greens_hold planes₅)
unfolding colours colour_at reflect mirror row_of difference fusion green DH DV GH GV green_at greens sample
greens₅ = tt

greens₆ : T (greens_hold planes₆)
unfolding colours colour_at reflect mirror row_of difference fusion green DH DV GH GV green_at greens sample
greens₆ = tt

greens₇ : T (greens_hold planes₇)
unfolding colours colour_at reflect mirror row_of difference fusion green DH DV GH GV green_at greens sample
greens₇ = tt

pub worked-planes-hold : Every planes_hold worked_planes
unfolding colours colour_at reflect mirror row_of fill neighbours other_from
worked-planes-hold =
    planes-hold planes₀ greens₀ (tt, tt)
    and planes-hold planes₁ greens₁ (tt, tt)
    and planes-hold planes₂ greens₂ (tt, tt)
    and planes-hold planes₃ greens₃ (tt, tt)
    and planes-hold planes₄ greens₄ (tt, tt)
    and planes-hold planes₅ greens₅ (tt, tt)
    and planes-hold planes₆ greens₆ (tt, tt)
    and planes-hold planes₇ greens₇ (tt, tt)
    and tt
