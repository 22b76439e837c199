-- Green of a row, from its two half rows. Assumes nothing.
use Prim.Native.Nat.{ℕ, ◌+◌, ◌-◌, ◌*◌, ◌/◌, ◌<◌}
use mathlib.Core.List.{List}
use mathlib.Core.Path.{◌≡◌, refl, ap, ap₂}
use native.Mathlib.Omega.{arith}
use lib.IntN.{ℤ, pos, ◌+ℤ◌}
use lib.ListN.{length, get_or}
use Rattle.whole.specs.Clamp.{clamp}
use Rattle.lists.specs.Part.{part}
use Rattle.lists.specs.Table.{table}
use Rattle.lists.proofs.PartLaws.{get_or-from}
use Rattle.half_rows.specs.HalfRow.{pixels, interleaved}
use Rattle.half_rows.proofs.HalfLaws.{from_halves}
use Rattle.green_row.specs.GreenIn.{green_by}

module _ (x : List ℕ) (r : List ℤ) (odd : ℕ) (bit : odd < 2) where
  -- every second place of the readings from place a on
  second : (a k : ℕ) → 2 * k + a < length x → get_or (part a (length x - a) x) (2 * k) 0 ≡ get_or x (2 * k + a) 0
  second a k l = get_or-from a x (2 * k) _ 0 (omega arith) (omega arith)

  -- p from the readings and from what fusion adds, q from the readings
  pub green-from-halves : (n m : ℕ) {p q : List ℕ} → n ≡ pixels (length x) odd → n + m ≡ length x
      → p ≡ table (λ k. clamp (pos (16 * get_or (part odd (length x - odd) x) (2 * k) 0) +ℤ get_or r k (pos 0))) n
      → q ≡ table (λ k. 16 * get_or (part (1 - odd) (length x - (1 - odd)) x) (2 * k) 0) m
      → table (interleaved odd p q) (length x) ≡ table (green_by odd x (λ j. get_or r (j / 2) (pos 0))) (length x)
  green-from-halves n m e s a b =
      let c : m ≡ length x - pixels (length x) odd = omega arith in
      from_halves (λ j. clamp (pos (16 * get_or x j 0) +ℤ get_or r (j / 2) (pos 0))) (λ j. 16 * get_or x j 0) odd (length x) bit e c refl a b refl
      (λ k l. ap₂ (λ i z. clamp (pos (16 * i) +ℤ z)) (second odd k (omega arith)) (let i : k ≡ (2 * k + odd) / 2 = omega arith in ap (λ i. get_or r i (pos 0)) i))
      (λ k l. ap (λ i. 16 * i) (second (1 - odd) k (omega arith)))
