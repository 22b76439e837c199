-- By cases. Assumes nothing.
use Rattle.std.proofs.Common.{◌≡◌, Bool, true, false, refl, ◌∙◌}
use Rattle.floats.specs.Float.{float}
use Rattle.floats.proofs.one_if.Goals as goal
use lib.Ieee.{of_int, binary64}
use lib.IntN.{pos}
use mir.Val.{bool_byte}
use mathlib.Core.Bool.{cond}

from-bool : (b : Bool) → of_int binary64 (pos (bool_byte b)) ≡ float (cond b 1 0)
unfolding float of_int
from-bool true = refl
from-bool false = refl

pub returns : goal.returns
returns c = c.from.ensures ∙ from-bool c.args.b
