-- Document 01's own forms of the fills, and what their code shifts is what the definition divides. Assumes nothing.
use mathlib.Core.Path.{◌≡◌, refl, sym, ◌∙◌, ap, ap₂}
use Prim.Native.Nat.{ℕ, ◌*◌, ◌/◌, ◌≤◌}
use native.Mathlib.Nat.{mul_comm, mul-div_cancel}
use lib.Dec.{lit≤}
use lib.IntN.{ℤ, pos, nat_abs, ◌+ℤ◌, ◌-ℤ◌}
use lib.Signed.{shr_z}
use mir.Syntax.{w32}
use mir.Val.{of_z, to_z}
use Rattle.whole.specs.Floor.{floor_div}
use Rattle.whole.specs.Clamp.{clamp}
use Rattle.whole.proofs.Signed.{int, shifted}
use Rattle.demosaic.specs.Fill.{unclamped, fill}

pub fill-four : (g : ℕ) (s : ℤ) → fill 4 g s ≡ clamp (floor_div (pos (4 * g) -ℤ s +ℤ pos 2) 4)
unfolding fill
fill-four g s = refl

pub fill-two : (g : ℕ) (s : ℤ) → fill 2 g s ≡ clamp (floor_div (pos (2 * g) -ℤ s +ℤ pos 1) 2)
unfolding fill
fill-two g s = refl

-- an even number of neighbours
pub unclamped-even : (h g : ℕ) (s : ℤ) → unclamped (2 * h) g s ≡ floor_div (pos (2 * h * g) -ℤ s +ℤ pos h) (2 * h)
unclamped-even h g s = ap (λ x. floor_div (pos (2 * h * g) -ℤ s +ℤ pos x) (2 * h)) (ap (λ x. x / 2) (mul_comm 2 h) ∙ mul-div_cancel h (lit≤ tt))

pub fill-even : (h g : ℕ) (s : ℤ) → fill (2 * h) g s ≡ clamp (floor_div (pos (2 * h * g) -ℤ s +ℤ pos h) (2 * h))
unfolding fill
fill-even h g s = ap clamp (unclamped-even h g s)

-- what the code shifts, by as many bits as make the 2h
pub shift-fills : (h g n half : ℕ) {r s z : ℤ} → s ≡ z → (r ≡ pos n -ℤ s +ℤ pos half) × (nat_abs r ≤ 4456382) → n ≡ 2 * h * g → half ≡ h → to_z w32 (of_z w32 (shr_z (to_z w32 (of_z w32 r)) (2 * h))) ≡ unclamped (2 * h) g z
shift-fills h g n half {r} {s} {z} e p i j =
    shifted {w = w32} (int r 4456382 p.1) (2 * h) tt
    ∙ ap (λ u. floor_div u (2 * h)) (p.0 ∙ ap₂ (λ m k. pos m -ℤ s +ℤ pos k) i j ∙ ap (λ u. pos (2 * h * g) -ℤ u +ℤ pos h) e)
    ∙ sym (unclamped-even h g z)
