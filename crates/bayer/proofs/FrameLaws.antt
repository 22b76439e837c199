-- Frame descriptions by their numbers. Assumes nothing.
use Prim.Native.Nat.{ℕ}
use mathlib.Core.Path.{◌≡◌}
use Rattle.bayer.specs.Frame.{smoothed}

pub same-frame : {w w' h h' c c' : ℕ} (layout : ℕ) → w ≡ w' → h ≡ h' → c ≡ c' → smoothed w h layout c ≡ smoothed w' h' layout c'
same-frame layout p q r = λ t. smoothed (p t) (q t) layout (r t)
