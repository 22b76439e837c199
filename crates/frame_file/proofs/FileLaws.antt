-- What holds of a file that is not malformed. Assumes nothing.
use Prim.Native.Nat.{ℕ, ◌+◌, ◌*◌, ◌≤◌}
use mathlib.Core.Path.{◌≡◌, sym, ap, ◌∙◌}
use mathlib.Core.Bool.{Bool, false, not, ◌||◌}
use mathlib.Core.List.{List}
use native.Mathlib.Omega.{arith}
use borrow.Author.Tests.{ltb-false, eqb-true, not-false}
use lib.Dec.{ltb, eqb}
use lib.ListN.{length, drop, length-drop}
use Rattle.whole.proofs.Tests.{neither}
use Rattle.lists.specs.Table.{table}
use Rattle.lists.proofs.TableLaws.{length-table}
use Rattle.frame_bytes.specs.FrameBytes.{big_endian}
use Rattle.bayer.specs.declared.frame.Frame.{Frame}
use Rattle.frame_file.specs.FrameFile.{version, rest_length, frame_of, readings, malformed}

-- where it is not malformed: its length, and that of its readings
pub sized : (bytes : List ℕ) → malformed bytes ≡ false → (10 + 2 * ((frame_of bytes).width * (frame_of bytes).height) ≡ length bytes) × ((frame_of bytes).width * (frame_of bytes).height ≤ 4096)
unfolding malformed
sized bytes e =
    let fits : Bool = eqb (rest_length bytes) (5 + 2 * (frame_of bytes).width * (frame_of bytes).height) in
    let whole : Bool = eqb (rest_length bytes) (length (drop 5 bytes)) in
    let a = neither (ltb 8202 (length bytes)) (ltb (length bytes) 10 || (not (eqb (version bytes) 1) || (not whole || not fits))) e in
    let b = neither (ltb (length bytes) 10) (not (eqb (version bytes) 1) || (not whole || not fits)) a.1 in
    let c = neither (not (eqb (version bytes) 1)) (not whole || not fits) b.1 in
    let d = neither (not whole) (not fits) c.1 in
    let p = ltb-false 8202 (length bytes) a.0 in
    let q = ltb-false (length bytes) 10 b.0 in
    let r = eqb-true (rest_length bytes) (length (drop 5 bytes)) (not-false whole d.0) in
    let s = eqb-true (rest_length bytes) (5 + 2 * (frame_of bytes).width * (frame_of bytes).height) (not-false fits d.1) in
    (omega (arith, length-drop 5 bytes), omega (arith, length-drop 5 bytes))

pub frame_sized : (bytes : List ℕ) (f : Frame) → malformed bytes ≡ false → f ≡ frame_of bytes → (10 + 2 * (f.width * f.height) ≡ length bytes) × (f.width * f.height ≤ 4096)
frame_sized bytes f e same = rw same (sized bytes e)

-- where as many were read as the frame has
pub readings-are : (bytes : List ℕ) (f : Frame) (m : ℕ) {read : List ℕ} → f ≡ frame_of bytes → read ≡ table (λ k. big_endian bytes (10 + 2 * k) 2) m → length read ≡ f.width * f.height → read ≡ readings bytes
unfolding readings
readings-are bytes f m same e n =
    e ∙ ap (table _) (sym (length-table _ m) ∙ sym (ap length e) ∙ n ∙ ap (λ (g : Frame). g.width * g.height) same)
