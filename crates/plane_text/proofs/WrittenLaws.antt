-- Texts that are put into a buffer one after the other. Assumes nothing.
use Prim.Native.Nat.{ℕ, ◌+◌, ◌≤◌, ◌<◌}
use mathlib.Core.Path.{refl, sym, ap₂, ◌∙◌}
use mathlib.Core.List.{List, [], ◌∷◌, ◌++◌}
use native.Mathlib.Numerals.{add-one}
use native.Mathlib.Omega.{arith}
use lib.ListN.{length, set, length-append}
use lib.Seq.{set_split}
use Rattle.lists.specs.Part.{put}
use Rattle.lists.proofs.PutLaws.{put-put}
use Rattle.plane_text.specs.Written.{Written}

pub written_byte : (b at : ℕ) (l : List ℕ) → at < length l → Written (b ∷ []) at l (set l at b) (at + 1)
written_byte b at l h = record { until = refl; bytes = set_split l at b h ∙ sym (rw (add-one at)) }

-- a text, and one behind it
pub then : {s t : List ℕ} {at mid end : ℕ} {l m n : List ℕ} → Written s at l m mid → Written t mid m n end → at + length s ≤ length l → Written (s ++ t) at l n end
then {s} {t} {at} {mid} {end} {l} {m} {n} p q h = record {
  until = omega (arith, p.until, q.until, length-append s t);
  bytes = q.bytes ∙ ap₂ (λ (k : ℕ) (x : List ℕ). put k t x) p.until p.bytes ∙ put-put at s t l h;
}
