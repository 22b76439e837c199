-- Claims about the planes of a frame, whose samples reference/ worked out; tools/make_figures.py makes a table of them. Assumes nothing.
use Rattle.std.specs.Prelude.{ℕ, ◌+◌, ◌*◌, List, get_or}
use Rattle.bayer.specs.declared.frame.Frame.{Frame}
use Rattle.worked_planes.specs.Rule.{PlanesAre}

-- the three planes of a frame, row by row
pub data PlanesClaim : Type 0 where
  gives_planes : Frame → (readings : List ℕ) → (red green blue : List ℕ) → PlanesClaim

-- row i and column j of what stands row by row
abbrev pub listed : Frame → List ℕ → (i j : ℕ) → ℕ
listed f l i j = get_or l (i * f.width + j) 0

abbrev pub planes_hold : PlanesClaim → Type 0
planes_hold (gives_planes f readings red green blue) = PlanesAre f readings (listed f red) (listed f green) (listed f blue)
