use Rattle.std.proofs.Common.{ℕ, ◌+◌, ◌*◌, ◌^◌, ◌≤◌, List, [], ◌∷◌, ◌≡◌, ◌∙◌, refl, ap, ap₂, pos, nat_abs, ◌+ℤ◌, ◌-ℤ◌, lit<}
use native.Mathlib.Nat.{le_trans, le_of_eq}
use mir.Syntax.{w32}
use Rattle.whole.proofs.Signed.{E, nat, int, lit, ◌⊖◌, value}
use Rattle.floats.specs.Float.{val, WholeUpTo}
use Rattle.floats.proofs.Casts.{of-i32}
use Rattle.floats.proofs.Numbers.{numbers, number-product}
use Rattle.gbtf.specs.Direction.{guarded_sum}
use Rattle.gbtf.specs.Fusion.{smallest_sum, share, fused}
use Rattle.gbtf.specs.Machine.{Fitting}
use Rattle.gbtf.specs.Weights.{scale}
use Rattle.gbtf.specs.declared.direction.Direction.{Direction}
use Rattle.fusion.proofs.FusionLaws.{smallest-is, mean-asks, mean-told, Told, Fuses, fuses}
use Rattle.fusion.proofs.pixel.fusion.Goals as goal

abbrev others : goal.After-from → List Direction
others c = c.args.west ∷ c.args.north ∷ c.args.south ∷ []

m-is : (c : goal.After-from) → val c.smallest-m.result ≡ smallest_sum c.args.east (others c)
m-is c = smallest-is _ _ _ _ c.smallest-m.ensures.1 c.guarded_sum-te.ensures.1 c.guarded_sum-tw.ensures.1 c.guarded_sum-tn.ensures.1 c.guarded_sum-ts.ensures.1

told : (c : goal.After-from) (d : Direction) {t q a : ℕ} → t ≡ guarded_sum d → q ≡ share scale (val c.smallest-m.result) t → pos a ≡ d.five +ℤ pos (32768 * c.args.total) → Fitting c.args.total d
    → Told c.args.total (smallest_sum c.args.east (others c)) d q a
told c d t q a f = record { share-is = q ∙ ap₂ (share scale) (m-is c) t; lifted = a; fitting = f }

abbrev dividend : goal.After-from → ℕ
dividend c =
    val c.share-e.result * val c.lifted_five_sum.result + val c.share-w.result * val c.lifted_five_sum-2.result
    + (val c.share-n.result * val c.lifted_five_sum-3.result + val c.share-s.result * val c.lifted_five_sum-4.result)

abbrev shares_sum : goal.After-from → ℕ
shares_sum c = val c.share-e.result + val c.share-w.result + (val c.share-n.result + val c.share-s.result)

known : (c : goal.After-from) → Fuses (dividend c) (c.args.total * shares_sum c) (fused scale c.args.total c.args.east (others c))
known c =
    let a = c.args in
    let f = c.requires.fitting in
    fuses a.total a.east a.west a.north a.south c.requires.total_nonzero.0
    (told c a.east c.guarded_sum-te.ensures.1 c.share-e.ensures.1 c.lifted_five_sum.ensures.1 f.0)
    (told c a.west c.guarded_sum-tw.ensures.1 c.share-w.ensures.1 c.lifted_five_sum-2.ensures.1 f.1)
    (told c a.north c.guarded_sum-tn.ensures.1 c.share-n.ensures.1 c.lifted_five_sum-3.ensures.1 f.2)
    (told c a.south c.guarded_sum-ts.ensures.1 c.share-s.ensures.1 c.lifted_five_sum-4.ensures.1 f.3)

total-is : (c : goal.After-from) → WholeUpTo 100 c.from.result × (val c.from.result ≡ c.args.total)
total-is c = let h = c.requires.total_nonzero.1 in rw c.from.ensures (of-i32 _ c.args.total 100 (value {w = w32} (nat c.args.total 100 h) tt) h (lit< tt))

pub mean-requires : goal.mean-requires
mean-requires c =
    let t = total-is c in
    mean-asks (known c) (search numbers depth 7) (number-product (2 ^ 33) 100 _ _ t.0 (search numbers depth 7) refl refl) refl (ap (λ (z : ℕ). z * shares_sum c) t.1)

mean-is : (c : goal.After-mean) →
    let f = fused scale c.args.total c.args.east (others c.before) in
    (nat_abs c.mean.result ≤ 262144) × (c.mean.result -ℤ pos 131072 ≡ f) × (nat_abs f ≤ 131072)
mean-is c =
    let s = c.before in
    let t = total-is s in
    mean-told (known s) c.mean.ensures (search numbers depth 7) (number-product (2 ^ 33) 100 _ _ t.0 (search numbers depth 7) refl refl) refl (ap (λ (z : ℕ). z * shares_sum s) t.1)

abbrev lowered : goal.After-mean → E w32
lowered c = int c.mean.result 262144 (mean-is c).0 ⊖ lit 131072

pub returns-clause-value : goal.returns-clause-value
returns-clause-value c = value (lowered c) tt ∙ (mean-is c).1

pub returns-clause-result_bound : goal.returns-clause-result_bound
returns-clause-result_bound c = le_trans (le_of_eq (ap nat_abs (returns-clause-value c))) (mean-is c).2
