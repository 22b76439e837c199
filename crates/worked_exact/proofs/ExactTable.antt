-- Every value of the worked table of the exact reconstruction holds, by computation. The whole-number green is unfolded beside the exact one, so that a rule over it is refused by its values. Assumes nothing.
use Rattle.lists.specs.Part.{row_of}
use Rattle.lists.specs.Every.{Every}
use Rattle.bayer.specs.Colour.{colours, colour_at}
use Rattle.bayer.specs.Mirror.{reflect, mirror}
use Rattle.gbtf.specs.Difference.{difference}
use Rattle.gbtf.specs.Fusion.{fusion, green}
use Rattle.gbtf.specs.Exact.{sum_over/t², exact_green}
use Rattle.gbtf.specs.GreenAt.{DH, DV, GH, GV, green_at, exact_green_at}
use Rattle.green_rule.specs.Greens.{greens, exact_greens}
use Rattle.demosaic.specs.Sample.{neighbours}
use Rattle.demosaic.specs.Exact.{mean, exact_fill, exact_other_from, exact_sample}
use Rattle.worked_exact.specs.ExactClaim.{exact_holds}
use Rattle.worked_exact.specs.WorkedExact.{exact₀, exact₁, exact₂, exact₃, exact₄, exact₅, exact₆, exact₇, worked_exact}
use Rattle.worked_planes.proofs.Tables.{◌and◌}

exact₀-holds : exact_holds exact₀
unfolding colours colour_at reflect mirror row_of difference fusion green DH DV GH GV green_at greens sum_over/t² exact_green exact_green_at exact_greens neighbours mean exact_fill exact_other_from exact_sample
exact₀-holds = tt

exact₁-holds : exact_holds exact₁
unfolding colours colour_at reflect mirror row_of difference fusion green DH DV GH GV green_at greens sum_over/t² exact_green exact_green_at exact_greens neighbours mean exact_fill exact_other_from exact_sample
exact₁-holds = tt

exact₂-holds : exact_holds exact₂
unfolding colours colour_at reflect mirror row_of difference fusion green DH DV GH GV green_at greens sum_over/t² exact_green exact_green_at exact_greens neighbours mean exact_fill exact_other_from exact_sample
exact₂-holds = tt

exact₃-holds : exact_holds exact₃
unfolding colours colour_at reflect mirror row_of difference fusion green DH DV GH GV green_at greens sum_over/t² exact_green exact_green_at exact_greens neighbours mean exact_fill exact_other_from exact_sample
exact₃-holds = tt

exact₄-holds : exact_holds exact₄
unfolding colours colour_at reflect mirror row_of difference fusion green DH DV GH GV green_at greens sum_over/t² exact_green exact_green_at exact_greens neighbours mean exact_fill exact_other_from exact_sample
exact₄-holds = tt

exact₅-holds : exact_holds exact₅
unfolding colours colour_at reflect mirror row_of difference fusion green DH DV GH GV green_at greens sum_over/t² exact_green exact_green_at exact_greens neighbours mean exact_fill exact_other_from exact_sample
exact₅-holds = tt

exact₆-holds : exact_holds exact₆
unfolding colours colour_at reflect mirror row_of difference fusion green DH DV GH GV green_at greens sum_over/t² exact_green exact_green_at exact_greens neighbours mean exact_fill exact_other_from exact_sample
exact₆-holds = tt

exact₇-holds : exact_holds exact₇
unfolding colours colour_at reflect mirror row_of difference fusion green DH DV GH GV green_at greens sum_over/t² exact_green exact_green_at exact_greens neighbours mean exact_fill exact_other_from exact_sample
exact₇-holds = tt

pub worked-exact-hold : Every exact_holds worked_exact
worked-exact-hold = exact₀-holds and exact₁-holds and exact₂-holds and exact₃-holds and exact₄-holds and exact₅-holds and exact₆-holds and exact₇-holds and tt
