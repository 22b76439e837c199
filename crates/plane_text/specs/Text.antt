-- The lines that a program prints of three planes, or of a refusal, as bytes. Assumes nothing.
use Rattle.std.specs.Prelude.{ℕ, zero, suc, ◌+◌, ◌/◌, ◌%◌, cond, List, [], ◌∷◌, ◌++◌, ltb}
use Rattle.bayer.specs.declared.colour.Colour.{Colour}
use Rattle.bayer.specs.declared.colour.Colour.TheVariants.{Red, Green, Blue}
use Rattle.bayer.specs.Planes.{Planes}
use Rattle.plane_text.specs.Statistics.{smallest, largest, sum}

-- the digits of n in decimal, at most k of them; n has no more than n + 1
unfoldable pub digits : (k n : ℕ) → List ℕ
digits zero n = []
digits (suc k) n = cond (ltb n 10) ((48 + n) ∷ []) (digits k (n / 10) ++ ((48 + n % 10) ∷ []))

unfoldable pub decimal : ℕ → List ℕ
decimal n = digits (suc n) n

-- a space and a number
unfoldable pub spaced : ℕ → List ℕ
spaced n = 32 ∷ decimal n

-- R, G, B
abbrev pub letter : Colour → ℕ
letter Red = 82
letter Green = 71
letter Blue = 66

-- plane letter, smallest, largest, sum
unfoldable pub plane_line : (letter : ℕ) (plane : List ℕ) → List ℕ
plane_line letter plane = letter ∷ (spaced (smallest plane) ++ (spaced (largest plane) ++ (spaced (sum plane) ++ (10 ∷ []))))

-- three lines, R, G, B
unfoldable pub lines : Planes → List ℕ
lines plane = plane_line (letter Red) (plane Red) ++ (plane_line (letter Green) (plane Green) ++ plane_line (letter Blue) (plane Blue))

-- `refused`, a space and the number
unfoldable pub refusal_line : (number : ℕ) → List ℕ
refusal_line number = 114 ∷ 101 ∷ 102 ∷ 117 ∷ 115 ∷ 101 ∷ 100 ∷ (spaced number ++ (10 ∷ []))

-- a refusal prints one line
unfoldable pub printed : (number : ℕ) (accepted : List ℕ) → List ℕ
printed zero accepted = accepted
printed (suc n) accepted = refusal_line (suc n)
