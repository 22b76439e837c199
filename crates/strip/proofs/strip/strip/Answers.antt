-- Refused, the call writes nothing; accepted, it fits. Assumes nothing.
use Rattle.std.proofs.Common.{refl, sym}
use Rattle.bayer.specs.Planes.{three_planes}
use Rattle.strip.proofs.StripLaws.{fits, readable, keeps-refused, fills}
use Rattle.strip.proofs.strip.strip.Goals as goal

pub returns-in_err-strip_check : goal.returns-in_err-strip_check
returns-in_err-strip_check c = keeps-refused _ (three_planes _ _ _) _ _ c.from_residual.ensures.1 c.in_err-strip_check.ensures

pub fill_wide-requires : goal.fill_wide-requires
fill_wide-requires c = let w = fits _ _ _ _ (sym c.in_ok-strip_check.ensures) in (readable _ w, w.planes)

pub returns : goal.returns
returns c = fills _ (three_planes _ _ _) (three_planes _ _ _) refl c.in_ok-strip_check.ensures c.fill_wide.ensures
