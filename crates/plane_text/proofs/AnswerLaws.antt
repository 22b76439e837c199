-- What is read of a file decides what is printed of it, and which bytes these are. Assumes nothing.
use Prim.Native.Nat.{ℕ, ◌+◌, ◌≤◌, ◌<◌}
use mathlib.Core.Path.{◌≡◌, refl, sym, ap, subst, ◌∙◌}
use mathlib.Core.List.{List}
use native.Mathlib.Decide.{dec_le}
use native.Mathlib.Omega.{arith}
use lib.ListN.{length, take, drop, length-take}
use lib.Seq.{take_all, take_at}
use Rattle.plane_text.specs.Written.{Answered}

-- a program that prints the same of all files of more than `most` bytes
module _ (output : List ℕ → List ℕ) (most : ℕ) (line : List ℕ) (long : (file : List ℕ) → most < length file → output file ≡ line) where
  -- more than that, the first bytes of a file decide
  first-decide : (size : ℕ) (file : List ℕ) → most < size → output (take size file) ≡ output file
  first-decide size file room =
      elim (dec_le (length file) size) [
        | yes h ↦ ap output (take_all size file h)
        | no h ↦ long (take size file) (omega (arith, length-take size file)) ∙ sym (long file (omega arith))
      ]

  -- what is answered for the n bytes that were read into a buffer of more is answered for any file of which it was filled
  pub read-decides : (buffer : List ℕ) (n : ℕ) → most < length buffer → {before after : List ℕ} {end : ℕ} → Answered (output (take n buffer)) before after end
      → (file : List ℕ) → take n buffer ≡ take (length buffer) file → Answered (output file) before after end
  read-decides buffer n room {before} {after} {end} a file filled =
      subst (λ text. Answered text before after end) (ap output filled ∙ first-decide (length buffer) file room) a

pub answered-most : {text before after : List ℕ} {end : ℕ} → Answered text before after end → end ≤ 105
answered-most {before = before} a = elim (dec_le 105 (length before)) [ yes h ↦ (a.written h).1 | no h ↦ omega (arith, (a.short (omega arith)).0) ]

-- its bytes, in a buffer that has room for it
pub answered-bytes : {text before after : List ℕ} {end : ℕ} → Answered text before after end → 105 ≤ length before → take end after ≡ text
answered-bytes {text} {before} a h =
    let w = (a.written h).0 in
    let e : 0 + length text ≡ length text = omega arith in
    rw (w.until, w.bytes, e) (take_at text (drop (length text) before) (length text) refl)
