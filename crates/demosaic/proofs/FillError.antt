-- The error of a fill against its exact form, from that of the greens: 1/2 more than the own green's and the neighbours' together. Assumes nothing.
use mathlib.Core.Path.{◌≡◌, refl, ap}
use mathlib.Core.List.{List, [], ◌∷◌, map}
use Prim.Native.Nat.{ℕ, suc, ◌+◌, ◌*◌, ◌<◌}
use native.Mathlib.Nat.{zero-lt-suc}
use native.Mathlib.Omega.{arith}
use lib.IntN.{ℤ, pos, ◌+ℤ◌, ◌-ℤ◌}
use lib.ListN.{length}
use Rattle.whole.specs.Floor.{floor_div}
use Rattle.whole.specs.Clamp.{clamp}
use Rattle.whole.specs.Fraction.{Fraction, ratio, integer, natural, ◌+ᶠ◌, ◌-ᶠ◌, divided_by, clampᶠ, Same, Within}
use Rattle.whole.proofs.Pairs.{+ℤ-up, -ℤ-up}
use Rattle.whole.proofs.FractionLaws.{rounded-near, within-trans, within-add, within-sub, within-part, within-clamp, within_same, within_wider, within-from, within-to, within-less, within-eq, clamp-is}
use Rattle.lists.specs.Every.{Every}
use Rattle.demosaic.specs.Fill.{colour_difference, sum_of, fill}
use Rattle.demosaic.specs.Exact.{exact_difference, sum_of_fractions, mean, exact_fill}
use Rattle.demosaic.proofs.FillLaws.{fill-even}

one-is : (g s : ℕ) → Same (integer (pos g -ℤ pos s)) (natural g -ᶠ natural s)
one-is g s = omega (arith, -ℤ-up (pos g) (pos s))

two_is : (a b : ℤ) → Same (integer (a +ℤ b)) (integer a +ᶠ integer b)
two_is a b = omega (arith, +ℤ-up a b)

-- the floor is within 1/2 of own − s / (2h)
round-near : (own h : ℕ) (p : 0 < 2 * h) (s : ℤ) → Within (integer (floor_div (pos (2 * h * own) -ℤ s +ℤ pos h) (2 * h))) (natural own -ᶠ divided_by (integer s) (2 * h) p) 1 2
round-near own h p s = within-to (ratio z (2 * h) p) (natural own -ᶠ divided_by (integer s) (2 * h) p) (rounded-near z h p) (omega (arith, ap (λ n. n * (2 * h)) (-ℤ-up (pos (2 * h * own)) s)))
  where
    z : ℤ
    z = pos (2 * h * own) -ℤ s

-- P is the type of the pixels; g, G and r give a pixel's green, its exact green and its reading
module _ {P : Type 0} (g r : P → ℕ) (G : P → Fraction) where
  abbrev colour_differences : List P → List ℤ
  colour_differences l = map (λ p. colour_difference (g p) (r p)) l

  abbrev exact_differences : List P → List Fraction
  exact_differences l = map (λ p. exact_difference (G p) (r p)) l

  length-map : (l : List P) → length (exact_differences l) ≡ length l
  length-map [] = refl
  length-map (p ∷ l) = ap suc (length-map l)

  differences-near : (c b : ℕ) (l : List P) → Every (λ p. Within (natural (g p)) (G p) c b) l → Within (integer (sum_of (colour_differences l))) (sum_of_fractions (exact_differences l)) (length (exact_differences l) * c) b
  differences-near c b [] h = within-eq (omega arith) (within_same {x = natural 0} {y = natural 0} b refl)
  differences-near c b (p ∷ l) h =
      within-eq {a = c + length (exact_differences l) * c} (omega arith)
      (within-from (integer (e +ℤ s)) (integer e +ᶠ integer s) (two_is e s)
      (within-add {x = integer e} {u = integer s}
      (within-from (integer e) (natural (g p) -ᶠ natural (16 * r p)) (one-is (g p) (16 * r p)) (within-less (natural (16 * r p)) {x = natural (g p)} {y = G p} h.0))
      (differences-near c b l h.1)))
    where
      e : ℤ
      e = colour_difference (g p) (r p)

      s : ℤ
      s = sum_of (colour_differences l)

  -- own green within a/(2k), each neighbour's within c/(2k): the fill from 2h neighbours is within 1/2 + a/(2k) + c/(2k)
  pub fill-within : (own : ℕ) (Own : Fraction) (h k a c : ℕ) (l : List P) → 0 < h → length l ≡ 2 * h
      → Within (natural own) Own a (2 * k) → Every (λ p. Within (natural (g p)) (G p) c (2 * k)) l
      → Within (natural (fill (length l) own (sum_of (colour_differences l)))) (exact_fill Own (exact_differences l)) (k + (a + c)) (2 * k)
  unfolding exact_fill mean
  fill-within own Own h k a c [] p e ho hn = absurd (let z : ⊥ = omega arith in z)
  fill-within own Own h k a c (q ∷ l) p e ho hn =
      rw (e, fill-even h own s)
      (within-from (natural (clamp F)) (clampᶠ (integer F)) (clamp-is F)
      (within-clamp
      (within-trans
      (within-to X Y (within_wider k (2 * k) (omega arith) (omega arith) (round-near own h (omega arith) s)) (rw (length-map l, e)))
      (within-sub ho (within-part (suc (length (exact_differences l))) (zero-lt-suc (length (exact_differences l))) (differences-near c (2 * k) (q ∷ l) hn))))))
    where
      s : ℤ
      s = sum_of (colour_differences (q ∷ l))

      F : ℤ
      F = floor_div (pos (2 * h * own) -ℤ s +ℤ pos h) (2 * h)

      X : Fraction
      X = natural own -ᶠ divided_by (integer s) (2 * h) (omega arith)

      Y : Fraction
      Y = natural own -ᶠ divided_by (integer s) (suc (length (exact_differences l))) (zero-lt-suc (length (exact_differences l)))
