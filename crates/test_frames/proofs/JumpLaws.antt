-- Two moves by a x + c, modulo 2^32, are one, so that a jump halves their number; it comes to as many single steps, in at most 64 turns. Assumes nothing.
use Prim.Native.Nat.{ℕ, zero, suc, ◌+◌, ◌*◌, ◌/◌, ◌%◌, ◌^◌, ◌≤◌, ◌<◌}
use mathlib.Core.Path.{◌≡◌, refl, sym, ap, ◌∙◌}
use mathlib.Core.Bool.{cond}
use native.Mathlib.Nat.{mod-add-div, add-mul-mod_self_left, add-mod-mod, mul-add, mul_left_comm, mul_comm, mul_assoc}
use native.Mathlib.Omega.{arith}
use lib.Dec.{eqb}
use lib.Pow.{pow-add}
use Rattle.test_frames.specs.Generator.{affine, multiplier, increment, iterate, state_after}
use Rattle.test_frames.specs.Jump.{odd_move, moved, jumped}
use Rattle.test_frames.proofs.IterateLaws.{iterate-even, iterate-odd, iterate-same}

-- a factor may be taken modulo m
factor-mod : (a b c m : ℕ) → (a * (b % m) + c) % m ≡ (a * b + c) % m
factor-mod a b c m =
    let q : ℕ = b / m in
    let whole : a * b ≡ a * (b % m + m * q) = ap (λ (k : ℕ). a * k) (sym (mod-add-div b m)) in
    let e : a * b + c ≡ a * (b % m) + c + m * (a * q) = omega (arith, whole, mul-add a (b % m) (m * q), mul_left_comm a m q) in
    sym (ap (λ (k : ℕ). k % m) e ∙ add-mul-mod_self_left (a * (b % m) + c) m (a * q))

two-moves : (a c x : ℕ) → affine a c (affine a c x) ≡ affine (affine a 0 a) (affine a c c) x
unfolding affine
two-moves a c x =
    let m : ℕ = 4294967296 in
    let square : a * (a * x) ≡ x * (a * a) = sym (mul_assoc a a x) ∙ mul_comm (a * a) x in
    let none : a * a + 0 ≡ a * a = omega arith in
    let e : a * (a * x + c) + c ≡ x * (a * a + 0) + (a * c + c) = omega (arith, mul-add a (a * x) c, square, ap (λ (k : ℕ). x * k) none) in
    factor-mod a (a * x + c) c m ∙ ap (λ (k : ℕ). k % m) e ∙ sym (factor-mod x (a * a + 0) (a * c + c) m)
    ∙ ap (λ (k : ℕ). (k + (a * c + c)) % m) (mul_comm x ((a * a + 0) % m)) ∙ sym (add-mod-mod ((a * a + 0) % m * x) (a * c + c) m)

-- a turn of the jump: half of the moves, each of them two
pub halved : (a c r x : ℕ) → iterate (affine a c) r x ≡ iterate (affine (affine a 0 a) (affine a c c)) (r / 2) (odd_move r a c x)
halved a c r x = by_bit (r % 2) refl ∙ iterate-same _ _ (two-moves a c) (r / 2) (odd_move r a c x)
  where
    by_bit : (bit : ℕ) → r % 2 ≡ bit → iterate (affine a c) r x ≡ iterate (λ y. affine a c (affine a c y)) (r / 2) (cond (eqb bit 1) (affine a c x) x)
    by_bit zero e = iterate-even (affine a c) (r / 2) r x (omega arith)
    by_bit (suc zero) e = iterate-odd (affine a c) (r / 2) r x (omega arith)
    by_bit (suc (suc b)) e = absurd (let z : ⊥ = omega arith in z)

pub moves-done : (f : ℕ → ℕ) (r x : ℕ) → r ≡ 0 → iterate f r x ≡ x
unfolding iterate
moves-done f r x e = rw e

-- k doublings are enough for fewer than 2^k moves
moved-is : (k a c r x : ℕ) → r < 2 ^ k → moved k a c r x ≡ iterate (affine a c) r x
unfolding moved iterate
moved-is zero a c zero x h = refl
moved-is zero a c (suc r) x h = absurd (let z : ⊥ = omega arith in z)
moved-is (suc k) a c r x h = moved-is k (affine a 0 a) (affine a c c) (r / 2) (odd_move r a c x) (omega (arith, h, pow-add 2 1 k)) ∙ sym (halved a c r x)

-- THE JUMP of r steps, for every 64-bit r, is r single steps
pub jump-is : (state r : ℕ) → r < 2 ^ 64 → jumped state r ≡ state_after state r
jump-is state r h = moved-is 64 multiplier increment r state h

-- ---- how many turns the loop of a jump has

-- how often r is halved until it is 0, counted up to k
unfoldable pub turns : (k r : ℕ) → ℕ
turns zero r = 0
turns (suc k) zero = 0
turns (suc k) (suc r) = suc (turns k (suc r / 2))

pub turns-most : (k r : ℕ) → turns k r ≤ k
unfolding turns
turns-most zero r = omega arith
turns-most (suc k) zero = omega arith
turns-most (suc k) (suc r) = omega (arith, turns-most k (suc r / 2))

turns-enough : (k r : ℕ) → r < 2 ^ k → turns (suc k) r ≡ turns k r
unfolding turns
turns-enough zero zero h = refl
turns-enough zero (suc r) h = absurd (let z : ⊥ = omega arith in z)
turns-enough (suc k) zero h = refl
turns-enough (suc k) (suc r) h = ap suc (turns-enough k (suc r / 2) (omega (arith, h, pow-add 2 1 k)))

-- a turn leaves fewer
pub turns-less : (k r : ℕ) → r < 2 ^ suc k → 0 < r → turns (suc k) (r / 2) < turns (suc k) r
unfolding turns
turns-less k zero h p = absurd (let z : ⊥ = omega arith in z)
turns-less k (suc r) h p = omega (arith, turns-enough k (suc r / 2) (omega (arith, h, pow-add 2 1 k)))
