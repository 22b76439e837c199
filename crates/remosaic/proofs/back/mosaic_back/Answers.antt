-- What an accepted call was lent fits. Assumes nothing.
use Rattle.std.proofs.Common.{sym}
use Rattle.bayer.proofs.RefusalLaws.{accepts}
use Rattle.remosaic.proofs.NumberLaws.{fits}
use Rattle.remosaic.proofs.back.mosaic_back.Goals as goal

pub invariant_of-planes : goal.invariant_of-planes
invariant_of-planes c = record { lent = (fits _ _ _ _ _ (sym c.in_ok-mosaic_back_check.ensures)).lent }

pub rows_back-requires : goal.rows_back-requires
rows_back-requires c = (fits _ _ _ _ _ (sym c.in_ok-mosaic_back_check.ensures)).room

pub returns : goal.returns
returns c = accepts c.in_ok-mosaic_back_check.ensures c.rows_back.ensures
