use Rattle.std.proofs.Math.IntN.{sub_ℕ}
use Rattle.bayer.specs.Mirror.{outside}
use Rattle.bayer.proofs.mirror.+mirror.Given as goal

-- the distance outside
abbrev pub decreases-mirror : goal.decreases-mirror
decreases-mirror l = outside l.size (sub_ℕ l.at l.lead)
