-- The planes have the row, and its samples are those that the frame observes. Assumes nothing.
use Rattle.std.proofs.Common.{arith, refl}
use Rattle.lists.proofs.PartLaws.{row_is}
use Rattle.bayer.specs.declared.colour.Colour.TheVariants.{Green}
use Rattle.remosaic.proofs.RowLaws.{along-row, row-lent, row_ends}
use Rattle.remosaic.proofs.rows.PlaneRows.row.Goals as goal

pub slice_bounds-result-end : goal.slice_bounds-result-end
slice_bounds-result-end c = let w = c.args.self.now.lent in omega (arith, row_ends w _ c.requires, w.long Green)

pub partner_row-requires : goal.partner_row-requires
partner_row-requires c = row-lent c.args.self.now.lent _ c.requires

pub invariant_of-result : goal.invariant_of-result
invariant_of-result c =
    let w = c.args.self.now.lent in
    let row = along-row w _ c.requires c.starts_green.ensures refl (row_is _ _ _ refl) c.partner_row.ensures in
    record { narrow = omega (arith, row.1, w.frame.narrow); as_long = row.2; parity = row.0 }

pub returns-clause-samples : goal.returns-clause-samples
returns-clause-samples c = (along-row c.args.self.now.lent _ c.requires c.starts_green.ensures refl (row_is _ _ _ refl) c.partner_row.ensures).3
