-- One product and one sum of 32 bits, by the reflection of `whole`. Assumes nothing.
use Rattle.std.proofs.Common.{ℕ, ◌≡◌, ◌≤◌, ◌<◌, ◌∙◌, ℤ, pos, negsuc, nat_abs, ◌+ℤ◌, ◌*ℤ◌, ap, arith, to_z, of_z}
use Rattle.std.specs.Int.Signed.{nat_abs-le}
use Rattle.std.proofs.lemmas.Int.{to_z-of_z}
use native.Mathlib.Nat.{div-le_self}
use lib.Dec.{T}
use lib.Signed.{mag, shr_z}
use mir.Syntax.{w16, w32}
use Rattle.whole.specs.Clamp.{clamp}
use Rattle.whole.specs.Floor.{floor_div}
use Rattle.whole.proofs.Signed.{E, ok, lit, int, raw, ◌⊕◌, ◌⊗◌, bits, val, bound, asked, value, within, shifted}
use Rattle.blend.proofs.BlendForm.{blend-coded}
use Rattle.blend.proofs.LogisticLaws.{weight-small}
use Rattle.blend.proofs.blend.blend.Goals as goal

-- a number z of 16 bits, widened to r
same : (z r : ℤ) → r ≡ to_z w16 (of_z w16 z) → mag z < 32768 → r ≡ z
same z r e h = e ∙ to_z-of_z w16 z (record { sfits = h })

abbrev wide : (z r : ℤ) → r ≡ to_z w16 (of_z w16 z) → mag z < 32768 → E w32
wide z r e h = int r 32768 (rw (same z r e h) (nat_abs-le z h))

-- a floor is no further from 0
floor-within : (z : ℤ) (d : ℕ) {m : ℕ} → nat_abs z ≤ m → nat_abs (floor_div z d) ≤ m
floor-within (pos n) d h = omega (arith, div-le_self n d)
floor-within (negsuc n) d h = omega (arith, div-le_self n d)

abbrev lifted : (w g : E w32) → E w32
lifted w g = w ⊗ g ⊕ lit 8192

abbrev shift : (w g : E w32) → T (ok (lifted w g)) → E w32
shift w g t =
    let e = lifted w g in
    raw (of_z w32 (shr_z (to_z w32 (bits e)) 16384)) (floor_div (val e) 16384) (bound e) (shifted e 16384 t) (floor-within (val e) 16384 (within e))

pub below_half-requires : goal.below_half-requires
below_half-requires c = rw c.requires.0 (weight-small _)

-- the numbers of the code
abbrev below : goal.After-from-4 → E w32
below c = wide c.below_half.result c.from.result c.from.ensures c.below_half.type_inv

abbrev gap : goal.After-from-4 → E w32
gap c = wide c.gap.result c.from-2.result c.from-2.ensures c.gap.type_inv

row-fits : (c : goal.After-from-4) → mag c.args.row.estimate < 32768
row-fits c = omega (arith, c.requires.1.along)

column-fits : (c : goal.After-from-4) → mag c.args.column.estimate < 32768
column-fits c = omega (arith, c.requires.1.across)

abbrev row : goal.After-from-4 → E w32
row c = wide c.args.row.estimate c.from-3.result c.from-3.ensures (row-fits c)

abbrev column : goal.After-from-4 → E w32
column c = wide c.args.column.estimate c.from-4.result c.from-4.ensures (column-fits c)

abbrev green : goal.After-from-4 → E w32
green c = lit 2 ⊗ (row c ⊕ column c) ⊕ shift (below c) (gap c) tt

pub overflow_add-product : goal.overflow_add-product
overflow_add-product c = asked (lifted (below c) (gap c)) tt

pub overflow_add-sum-2 : goal.overflow_add-sum-2
overflow_add-sum-2 c = asked (green c) tt

pub returns : goal.returns
returns c =
    let k = c.before in
    let row = c.args.row in
    let column = c.args.column in
    let w = same c.below_half.result c.from.result c.from.ensures c.below_half.type_inv ∙ c.below_half.ensures in
    let g = same c.gap.result c.from-2.result c.from-2.ensures c.gap.type_inv ∙ c.gap.ensures in
    let x = same row.estimate c.from-3.result c.from-3.ensures (row-fits k) in
    let y = same column.estimate c.from-4.result c.from-4.ensures (column-fits k) in
    c.clamp.ensures
    ∙ ap clamp (value (green k) tt ∙ (λ t. pos 2 *ℤ (x t +ℤ y t) +ℤ floor_div (w t *ℤ g t +ℤ pos 8192) 16384))
    ∙ blend-coded row column c.args.weight c.requires.0
