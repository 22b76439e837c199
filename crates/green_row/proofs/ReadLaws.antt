-- What a call is handed from slices of signed numbers is what stands there. Assumes nothing.
use Prim.Native.Nat.{ℕ, ◌+◌, ◌-◌, ◌*◌, ◌^◌, ◌≤◌, ◌<◌}
use mathlib.Core.List.{List, [], ◌∷◌}
use mathlib.Core.Path.{◌≡◌}
use native.Mathlib.Nat.{mul-le-mul_right}
use native.Mathlib.Omega.{arith}
use borrow.Author.Rules.{sfits_of}
use lib.Dec.{lit≤}
use lib.IntN.{ℤ, pos}
use lib.ListN.{length, get_or}
use lib.Signed.{mag}
use mir.Syntax.{Width}
use mir.Val.{hbits, of_z, to_z}
use mir.ValLaws.{to_z-of_z}
use Rattle.lists.specs.Part.{part}
use Rattle.lists.specs.Table.{table}
use Rattle.lists.proofs.PartLaws.{get_or-from}
use Rattle.lists.proofs.TableLaws.{table_same}
use Rattle.gbtf.specs.Direction.{alternating, five_sum}
use Rattle.green_row.specs.Directions.{after, across}

pub read_at : (w : Width) (d : List ℤ) (k : ℕ) → mag (get_or d k (pos 0)) < 2 ^ hbits w → to_z w (of_z w (get_or d k (pos 0))) ≡ get_or d k (pos 0)
read_at w d k h = to_z-of_z w _ (sfits_of h)

pub five-same : (ws : List ℕ) (D : ℕ → ℤ) {a b c d e : ℤ} → a ≡ D 0 → b ≡ D 1 → c ≡ D 2 → d ≡ D 3 → e ≡ D 4
    → five_sum ws (alternating (λ k. get_or (a ∷ b ∷ c ∷ d ∷ e ∷ []) k (pos 0))) ≡ five_sum ws (alternating D)
five-same ws D p q r s t = rw (p, q, r, s, t)

-- every second place of five lists that start step apart in d
pub fives-apart : (ws : List ℕ) (d : List ℤ) (step a n : ℕ) → a + 2 * n + 4 * step ≤ length d → let b = a + step in let c = b + step in let e = c + step in let f = e + step in
    table (λ k. five_sum ws (alternating (across (part a (length d - a) d) (part b (length d - b) d) (part c (length d - c) d) (part e (length d - e) d) (part f (length d - f) d) (2 * k)))) n
    ≡ table (λ k. five_sum ws (alternating (after step d (a + 2 * k)))) n
fives-apart ws d step a n h =
    table_same _ _ n
    (λ k l.
    five-same ws (after step d (a + 2 * k)) (at k 0 l (lit≤ tt) (omega arith)) (at k 1 l (lit≤ tt) (omega arith)) (at k 2 l (lit≤ tt) (omega arith)) (at k 3 l (lit≤ tt) (omega arith)) (at k 4 l (lit≤ tt) (omega arith)))
  where
    at : (k i : ℕ) {b : ℕ} → k < n → i ≤ 4 → b ≡ a + i * step → get_or (part b (length d - b) d) (2 * k) (pos 0) ≡ get_or d (a + 2 * k + i * step) (pos 0)
    at k i {b} l m e = get_or-from b d (2 * k) _ (pos 0) (omega (arith, mul-le-mul_right step m)) (omega arith)
