-- A row of the piece is that row of the readings. Assumes nothing.
use Rattle.std.proofs.Common.{refl}
use Rattle.lists.proofs.PartLaws.{row_is}
use Rattle.bayer.proofs.lent.Piece.row.Goals as goal

pub returns : goal.returns
returns c = row_is _ _ _ refl
