-- What holds where a condition does not, and the other way round. Assumes nothing.
use Prim.Native.Nat.{ℕ, zero, suc, ◌+◌, ◌≤◌, ◌<◌}
use mathlib.Core.Path.{◌≡◌}
use mathlib.Core.Bool.{false, not, true≢false, ◌||◌}
use mathlib.Core.List.{List}
use native.Mathlib.Omega.{arith}
use borrow.Author.Tests.{ltb-false, le-ltb, eq-eqb, ne_eqb, not-false}
use lib.Dec.{ltb, eqb, eqb→eq}
use Rattle.whole.proofs.Tests.{neither}
use Rattle.lists.specs.Bound.{AllAtMost}
use Rattle.lists.proofs.AnyLaws.{none_above, above-none}
use Rattle.bayer.specs.declared.frame.Frame.{Frame}
use Rattle.bayer.specs.Refusal.{first_of}
use Rattle.bayer.specs.Condition.{outside_sizes, size_cases, layout_cases, frame_cases, FrameFits, rows_cases, planes_misfit, range_cases}
use Rattle.bayer.proofs.RefusalLaws.{off, on, off-append}

size_fits : (n : ℕ) → outside_sizes n ≡ false → (2 ≤ n) × (n ≤ 4096)
size_fits n e = let p = neither (ltb n 2) (ltb 4096 n) e in (ltb-false n 2 p.0, ltb-false 4096 n p.1)

pub sizes-fit : (W H : ℕ) → first_of (size_cases W H) ≡ 0 → ((2 ≤ W) × (W ≤ 4096)) × ((2 ≤ H) × (H ≤ 4096))
sizes-fit W H e = let o = neither (outside_sizes W) (outside_sizes H) (off (size_cases W H) e).0 in (size_fits W o.0, size_fits H o.1)

pub frame-fits : (f : Frame) → first_of (frame_cases f) ≡ 0 → FrameFits f
frame-fits f e =
    let o = off-append (size_cases f.width f.height) (layout_cases f.layout) e in
    let s = sizes-fit f.width f.height o.0 in
    record { wide = s.0.0; narrow = s.0.1; high = s.1.0; low = s.1.1; known = ltb-false 3 f.layout (off (layout_cases f.layout) o.1).0 }

pub frame-passes : (f : Frame) → FrameFits f → first_of (frame_cases f) ≡ 0
frame-passes f w =
    on (frame_cases f) (
      rw (le-ltb f.width 2 w.wide, le-ltb 4096 f.width w.narrow, le-ltb f.height 2 w.high, le-ltb 4096 f.height w.low),
      (le-ltb 3 f.layout w.known, tt),
    )

positive : (n : ℕ) → eqb n 0 ≡ false → 0 < n
positive zero e = absurd (true≢false e)
positive (suc n) e = omega arith

pub rows_fit : (f : Frame) (a n : ℕ) → first_of (rows_cases f a n) ≡ 0 → (0 < n) × (a + n ≤ f.height)
rows_fit f a n e = let o = neither (eqb n 0) (ltb f.height (a + n)) (off (rows_cases f a n) e).0 in (positive n o.0, ltb-false f.height (a + n) o.1)

pub rows_pass : (f : Frame) (a n : ℕ) → 0 < n → a + n ≤ f.height → first_of (rows_cases f a n) ≡ 0
rows_pass f a n h k = on (rows_cases f a n) (rw (ne_eqb n 0 (omega arith), le-ltb f.height (a + n) k), tt)

pub same_number : (m n : ℕ) → not (eqb m n) ≡ false → m ≡ n
same_number m n e = eqb→eq m n (rw (not-false (eqb m n) e) tt)

pub planes-fit : (size red green blue : ℕ) → planes_misfit size red green blue ≡ false → (red ≡ size) × (green ≡ size) × (blue ≡ size)
planes-fit size red green blue e =
    let o = neither (not (eqb red size)) (not (eqb green size) || not (eqb blue size)) e in
    let p = neither (not (eqb green size)) (not (eqb blue size)) o.1 in
    (same_number red size o.0, same_number green size p.0, same_number blue size p.1)

pub planes-pass : (size red green blue : ℕ) → red ≡ size → green ≡ size → blue ≡ size → planes_misfit size red green blue ≡ false
planes-pass size red green blue r g b = rw (eq-eqb red size r, eq-eqb green size g, eq-eqb blue size b)

pub readings-fit : (readings : List ℕ) → first_of (range_cases readings) ≡ 0 → AllAtMost 4095 readings
readings-fit readings e = none_above 4095 readings (off (range_cases readings) e).0

pub readings-pass : (readings : List ℕ) → AllAtMost 4095 readings → first_of (range_cases readings) ≡ 0
readings-pass readings h = on (range_cases readings) (above-none 4095 readings h, tt)
