-- No step wraps, and the steps come to the difference, which 16 bits hold for readings. 2147483647 is the most that an i32 holds. Assumes nothing.
use Rattle.std.proofs.Common.{◌+◌, ◌≡◌, ◌∙◌, ℤ, ℕ, true, false, neg_ℤ, ap, arith, to_z, of_z, lit<}
use mir.Syntax.{w16}
use mir.Val.{SFits}
use Rattle.whole.proofs.Magnitudes.{fits-within}
use Rattle.whole.proofs.Signed.{back}
use Rattle.whole.proofs.Small.{Small, small, equal}
use Rattle.gbtf.specs.Difference.{difference}
use Rattle.gbtf.specs.Machine.{Readings}
use Rattle.gbtf.proofs.PixelBounds.{differenceₚ, difference-within}
use Rattle.gbtf.proofs.Signs.{difference-turned}
use Rattle.gbtf.proofs.difference.difference.Goals as goal

-- a value that is the difference by its pair
module _ {c l r p q : ℕ} (readings : Readings c l r p q) where
  held : SFits w16 (difference false c l r p q)
  held = fits-within (difference false c l r p q) (difference-within false readings) (lit< tt)

  fits : {z : ℤ} (s : Small 2147483647 z) → s.pair.hi + (differenceₚ false c l r p q).lo ≡ (differenceₚ false c l r p q).hi + s.pair.lo → SFits w16 z
  fits s e = rw (equal s (differenceₚ false c l r p q) e) held

  -- z stands where the cast asks for it
  narrowed : {z : ℤ} → SFits w16 z → (s : Small 2147483647 z) → s.pair.hi + (differenceₚ false c l r p q).lo ≡ (differenceₚ false c l r p q).hi + s.pair.lo → to_z w16 (of_z w16 z) ≡ difference false c l r p q
  narrowed {z} _ s e = back w16 z (equal s (differenceₚ false c l r p q) e) held

pub overflow_add-estimate : goal.overflow_add-estimate
overflow_add-estimate c =
    let f = c.ranges in
    search (small, f.c, f.l, f.r, f.p, f.q, c.from.ensures, c.from-2.ensures, c.from-3.ensures, c.from-4.ensures, c.from-5.ensures) depth 20

pub overflow_sub-result : goal.overflow_sub-result
overflow_sub-result c =
    let f = c.ranges in
    search (small, f.c, f.l, f.r, f.p, f.q, c.from.ensures, c.from-2.ensures, c.from-3.ensures, c.from-4.ensures, c.from-5.ensures, c.from-6.ensures) depth 20

pub overflow_cast-result : goal.overflow_cast-result
unfolding difference
overflow_cast-result c =
    let f = c.ranges in
    fits c.requires (search (small, f.c, f.l, f.r, f.p, f.q, c.from.ensures, c.from-2.ensures, c.from-3.ensures, c.from-4.ensures, c.from-5.ensures, c.from-6.ensures) depth 20) (omega arith)

pub returns-clause-value : goal.returns-clause-value
unfolding difference
returns-clause-value c =
    let f = c.ranges in
    narrowed c.requires (overflow_cast-result c) (search (small, f.c, f.l, f.r, f.p, f.q, c.from.ensures, c.from-2.ensures, c.from-3.ensures, c.from-4.ensures, c.from-5.ensures, c.from-6.ensures) depth 20) (omega arith)

-- and turned, it is that of a green centre
pub returns-clause-result_value : goal.returns-clause-result_value
returns-clause-result_value c = ap neg_ℤ (returns-clause-value c) ∙ difference-turned true c.args.c c.args.l c.args.r c.args.p c.args.q
