-- Colour differences as the machine hands them on, and the samples that are filled from them. Assumes nothing.
use Prim.Native.Nat.{ℕ, ◌≤◌}
use mathlib.Core.Path.{◌≡◌, refl, ap, ◌∙◌}
use mathlib.Core.List.{List, [], ◌∷◌}
use lib.IntN.{ℤ, pos, nat_abs}
use lib.ListN.{get_or}
use mir.Syntax.{w32}
use mir.Val.{of_z, to_z}
use Rattle.whole.proofs.Signed.{int, value}
use Rattle.lists.specs.Bound.{AllWithin}
use Rattle.demosaic.specs.Fill.{sum_of, unclamped}

-- entry k, where it is read
abbrev entry : (l : List ℤ) (k : ℕ) → ℤ
entry l k = get_or l k (pos 0)

abbrev pub taken : (l : List ℤ) (k : ℕ) → ℤ
taken l k = to_z w32 (of_z w32 (entry l k))

-- what is read is what is there, if it is small
pub taken_is : (l : List ℤ) (k : ℕ) {z : ℤ} → entry l k ≡ z → nat_abs z ≤ 1048560 → taken l k ≡ z
taken_is l k {z} e h = ap (λ z. to_z w32 (of_z w32 z)) e ∙ value {w = w32} (int z 1048560 h) tt

module _ (a b : List ℤ) (ha : AllWithin 1048560 a) (hb : AllWithin 1048560 b) where
  pub two-same : (g k : ℕ) → unclamped 2 g (sum_of (taken a k ∷ taken b k ∷ [])) ≡ unclamped 2 g (sum_of (entry a k ∷ entry b k ∷ []))
  two-same g k = λ t. unclamped 2 g (sum_of (taken_is a k refl (ha k) t ∷ taken_is b k refl (hb k) t ∷ []))

  pub four_same : (g k n : ℕ) → unclamped 4 g (sum_of (taken a k ∷ taken a n ∷ taken b k ∷ taken b n ∷ [])) ≡ unclamped 4 g (sum_of (entry a k ∷ entry a n ∷ entry b k ∷ entry b n ∷ []))
  four_same g k n = λ t. unclamped 4 g (sum_of (taken_is a k refl (ha k) t ∷ taken_is a n refl (ha n) t ∷ taken_is b k refl (hb k) t ∷ taken_is b n refl (hb n) t ∷ []))
