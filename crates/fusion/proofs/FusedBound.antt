-- What fusion adds is within 131072. Assumes nothing.
use Prim.Native.Nat.{ℕ, ◌+◌, ◌-◌, ◌*◌, ◌≤◌, ◌<◌}
use mathlib.Core.List.{[], ◌∷◌}
use mathlib.Core.Path.{refl}
use native.Mathlib.Omega.{arith}
use lib.IntN.{nat_abs}
use Rattle.whole.specs.Parts.{up, down}
use Rattle.whole.proofs.Pairs.{natₚ, anyₚ, ◌+ₚ◌, eq-by}
use Rattle.whole.proofs.Magnitudes.{down_le}
use Rattle.gbtf.specs.declared.direction.Direction.{Direction}
use Rattle.gbtf.specs.Direction.{guarded_sum}
use Rattle.gbtf.specs.Fusion.{share, smallest_sum, fused}
use Rattle.gbtf.specs.Machine.{Fitting}
use Rattle.gbtf.specs.Weights.{scale}
use Rattle.fusion.proofs.MeanLaws.{mean-small}
use Rattle.fusion.proofs.LiftLaws.{lowered}
use Rattle.fusion.proofs.FusionLaws.{Told, fuses}

told : (T m : ℕ) (d : Direction) → Fitting T d → Told T m d (share scale m (guarded_sum d)) (up d.five + 32768 * T - down d.five)
told T m d h = record {
  share-is = refl;
  lifted = eq-by (natₚ (up d.five + 32768 * T - down d.five)) (anyₚ d.five +ₚ natₚ (32768 * T)) (omega (arith, down_le d.five (32767 * T) h.five));
  fitting = h;
}

pub fused-within : (T : ℕ) (d₁ d₂ d₃ d₄ : Direction) → 0 < T → Fitting T d₁ → Fitting T d₂ → Fitting T d₃ → Fitting T d₄ → nat_abs (fused scale T d₁ (d₂ ∷ d₃ ∷ d₄ ∷ [])) ≤ 131072
fused-within T d₁ d₂ d₃ d₄ above h₁ h₂ h₃ h₄ =
    let m = smallest_sum d₁ (d₂ ∷ d₃ ∷ d₄ ∷ []) in
    let z = fuses T d₁ d₂ d₃ d₄ above (told T m d₁ h₁) (told T m d₂ h₂) (told T m d₃ h₃) (told T m d₄ h₄) in
    (lowered _ (fused scale T d₁ (d₂ ∷ d₃ ∷ d₄ ∷ [])) z.is (mean-small _ _ z.above0 z.most)).1
