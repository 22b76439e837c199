-- Document 01's near miss: rounded towards zero −0.6 becomes 0; rounded down it is −1. Assumes nothing.
use mathlib.Core.Path.{◌≡◌, refl}
use lib.IntN.{negsuc}
use Rattle.whole.specs.Floor.{floor_div}

pub rounded-down : floor_div (negsuc 2) 5 ≡ negsuc 0
rounded-down = refl
