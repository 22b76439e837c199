-- The lines of planes that are alike, and the line of a refusal. Assumes nothing.
use Prim.Native.Nat.{ℕ, zero, suc}
use mathlib.Core.Path.{◌≡◌, refl}
use mathlib.Core.List.{List}
use Rattle.bayer.specs.declared.colour.Colour.TheVariants.{Red, Green, Blue}
use Rattle.bayer.specs.Planes.{Planes}
use Rattle.plane_text.specs.Text.{lines, refusal_line, printed}

pub same_lines : (p q : Planes) → p Red ≡ q Red → p Green ≡ q Green → p Blue ≡ q Blue → lines p ≡ lines q
unfolding lines
same_lines p q r g b = rw (r, g, b)

pub refused-line : (n : ℕ) (accepted : List ℕ) → (n ≡ 0 → ⊥) → printed n accepted ≡ refusal_line n
unfolding printed
refused-line zero accepted h = absurd (h refl)
refused-line (suc n) accepted h = refl
