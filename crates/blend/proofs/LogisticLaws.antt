-- The table of the logistic blend: its length, its first entry, the bound of all, and its zeros. Assumes nothing.
use mathlib.Core.Path.{◌≡◌, refl}
use mathlib.Core.Bool.{Bool, true, false, ◌||◌}
use Prim.Native.Nat.{ℕ, ◌≤◌}
use native.Mathlib.Decide.{dec_lt}
use native.Mathlib.Omega.{arith}
use borrow.Author.Tests.{le-ltb}
use lib.Dec.{T, leb, ltb, eqb, leb→le, eqb→eq}
use lib.ListN.{length, get_or-eq_default}
use Rattle.lists.proofs.EachLaws.{each, each_at}
use Rattle.blend.specs.Logistic.{logistic, weight_at}

pub entries : length logistic ≡ 256
unfolding logistic
entries = refl

pub first : weight_at 0 ≡ 32768
unfolding logistic
first = refl

pub past : (k : ℕ) → 256 ≤ k → weight_at k ≡ 0
past k h = get_or-eq_default logistic 0 (rw entries h)

-- what a test says of every entry, and of 0 past them
everywhere : (test : (k w : ℕ) → Bool) → T (each test 0 logistic) → ((k : ℕ) → 256 ≤ k → T (test k 0)) → (k : ℕ) → T (test k (weight_at k))
everywhere test t p k = elim (dec_lt k 256) [
  | yes h ↦ each_at test logistic t k (rw entries h)
  | no h ↦ rw (past k (omega arith)) (p k (omega arith))
]

-- no weight is above a half of 65536
pub weight-small : (k : ℕ) → weight_at k ≤ 32768
unfolding logistic
weight-small k = leb→le _ _ (everywhere (λ k w. leb w 32768) tt (λ k h. tt) k)

-- from 236 on all are 0
pub zero-from : (k : ℕ) → 236 ≤ k → weight_at k ≡ 0
unfolding logistic
zero-from k h = eqb→eq _ _ (late k (weight_at k) h (everywhere (λ k w. ltb k 236 || eqb w 0) tt (λ k h. either (ltb k 236)) k))
  where
    either : (b : Bool) → T (b || true)
    either true = tt
    either false = tt

    late : (k w : ℕ) → 236 ≤ k → T (ltb k 236 || eqb w 0) → T (eqb w 0)
    late k w h t = rw (le-ltb k 236 h) at t
