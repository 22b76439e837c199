use Rattle.std.proofs.Common.{◌∙◌}
use Rattle.bayer.specs.declared.colour.Colour.TheVariants.{Red, Green, Blue}
use Rattle.strip_rows.proofs.PlanesFromRows.{green-plane, plane-from}
use Rattle.strip_rows.proofs.rooms.fill_sized.Goals as goal

pub returns : goal.returns
returns g c =
    let a = c.args in
    let from = plane-from a.frame c.piece_start-start.ensures a.readings.now a.a a.n in
    record {
      red-is = c.colour_planes.ensures.red_after ∙ from Red;
      green-is = c.greens.ensures.value.own ∙ green-plane a.frame _ a.readings.now a.a a.n ∙ from Green;
      blue-is = c.colour_planes.ensures.blue_after ∙ from Blue;
    }
