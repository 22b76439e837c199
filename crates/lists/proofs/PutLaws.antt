-- A list with a part replaced. Assumes nothing.
use mathlib.Core.Path.{◌≡◌, sym, ap, ◌∙◌}
use mathlib.Core.List.{List, ◌++◌, append_assoc}
use Prim.Native.Nat.{ℕ, ◌+◌, ◌≤◌, ◌<◌}
use native.Mathlib.Nat.{add_assoc}
use native.Mathlib.Omega.{arith}
use lib.ListN.{length, get_or, take, drop, length-append, length-take, length-drop, take-append-drop, get_or-append}
use lib.Seq.{get_or-append-add, get_or-take, get_or-drop, length-take-le, take_at, drop_at, drop-drop}
use Rattle.lists.specs.Part.{part, put}
use Rattle.lists.proofs.PartLaws.{length_part}

-- by itself
pub put_same : (a k : ℕ) (l : List ℕ) → a + k ≤ length l → put a (part a k l) l ≡ l
put_same a k l h = rw (length_part a k l h) (rw (← drop-drop k a l, take-append-drop k (drop a l), take-append-drop a l))

pub length-put : (a : ℕ) (new l : List ℕ) → a + length new ≤ length l → length (put a new l) ≡ length l
length-put a new l h = simp (length-append, length-take, length-drop) (omega arith)

-- an entry before the part, in it and after it
pub put-before : (a : ℕ) (new l : List ℕ) (x : ℕ) → a + length new ≤ length l → x < a → get_or (put a new l) x 0 ≡ get_or l x 0
put-before a new l x h k = get_or-append (take a l) _ 0 x (simp length-take (omega arith)) ∙ get_or-take a l x 0 k

pub put_in : (a : ℕ) (new l : List ℕ) (x : ℕ) → a + length new ≤ length l → x < length new → get_or (put a new l) (a + x) 0 ≡ get_or new x 0
put_in a new l x h k = let e : length (take a l) ≡ a = length-take-le a l (omega arith) in (rw e at (get_or-append-add (take a l) (new ++ drop (a + length new) l) x 0)) ∙ get_or-append new _ 0 x k

pub put-after : (a : ℕ) (new l : List ℕ) (x : ℕ) → a + length new ≤ length l → get_or (put a new l) (a + (length new + x)) 0 ≡ get_or l (a + (length new + x)) 0
put-after a new l x h =
    let e : length (take a l) ≡ a = length-take-le a l (omega arith) in
    let f : a + length new + x ≡ a + (length new + x) = omega arith in
    (rw e at (get_or-append-add (take a l) (new ++ drop (a + length new) l) (length new + x) 0)) ∙ get_or-append-add new _ x 0 ∙ get_or-drop (a + length new) l x 0 ∙ ap (λ n. get_or l n 0) f

-- two, one behind the other
pub put-put : (a : ℕ) (s t l : List ℕ) → a + length s ≤ length l → put (a + length s) t (put a s l) ≡ put a (s ++ t) l
put-put a s t l h =
    let d : List ℕ = drop (a + length s) l in
    let e : length (take a l ++ s) ≡ a + length s = length-append (take a l) s ∙ ap (λ (k : ℕ). k + length s) (length-take-le a l (omega arith)) in
    rw (
      ← append_assoc (take a l) s d,
      take_at (take a l ++ s) d (a + length s) e,
      ← drop-drop (length t) (a + length s) (take a l ++ s ++ d),
      drop_at (take a l ++ s) d (a + length s) e,
      drop-drop (length t) (a + length s) l,
      length-append s t,
      ← add_assoc a (length s) (length t),
    )
    (append_assoc (take a l) s _ ∙ ap (λ (x : List ℕ). take a l ++ x) (sym (append_assoc s t _)))
