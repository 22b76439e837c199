-- DEMAND 2: what an accepted strip call delivers are the rows of the whole frame. And the range of it. Assumes nothing.
use mathlib.Core.Path.{◌≡◌, sym, ap, ◌∙◌}
use mathlib.Core.List.{List}
use Prim.Native.Nat.{ℕ}
use Rattle.lists.specs.Bound.{AllAtMost}
use Rattle.bayer.specs.declared.colour.Colour.{Colour}
use Rattle.bayer.specs.declared.colour.Colour.TheVariants.{Red, Green, Blue}
use Rattle.bayer.specs.declared.frame.Frame.{Frame}
use Rattle.bayer.specs.Planes.{Planes}
use Rattle.bayer.specs.Piece.{piece_start, piece_of}
use Rattle.bayer.specs.Refusal.{held_after}
use Rattle.demosaic.specs.Sample.{frame_rows}
use Rattle.demosaic.proofs.FrameLocal.{piece-rows}
use Rattle.demosaic.proofs.PlaneRowsLaws.{plane-range}
use Rattle.strip.specs.declared.entry.Entry.{Entry}
use Rattle.strip.specs.Strip.{Asked, asked, strip_plane, Promise}
use Rattle.strip.proofs.StripLaws.{fits}

-- plane k of what a call leaves
pub promised : {c : Asked} {lent after : Planes} {answer : ℕ} → Promise c lent answer after → (k : Colour) → after k ≡ held_after answer (strip_plane c k) (lent k)
promised p Red = p.red
promised p Green = p.green
promised p Blue = p.blue

-- accepted, it leaves what the rules give
pub accepted-plane : {c : Asked} {lent after : Planes} {answer : ℕ} → Promise c lent answer after → answer ≡ 0 → (k : Colour) → after k ≡ strip_plane c k
unfolding held_after
accepted-plane {c} {lent} p e k = promised p k ∙ ap (λ n. held_after n (strip_plane c k) (lent k)) e

-- every sample of which is at most 65520
pub promised-range : {c : Asked} {lent after : Planes} {answer : ℕ} → Promise c lent answer after → answer ≡ 0 → (k : Colour) → AllAtMost 65520 (after k)
promised-range {c} p e k = rw (accepted-plane p e k) (plane-range c.frame (piece_start c.first) c.piece c.first c.count k (fits c _ _ _ (sym p.number ∙ e)).range)

-- DEMAND 2: an accepted call, by either entry, leaves the samples of rows a to a + n − 1 of every frame whose rows its piece is. Nothing is asked of the frame's other rows
pub demand-2 : {e : Entry} (f : Frame) (readings : List ℕ) (a n : ℕ) {lent after : Planes} {answer : ℕ}
    → Promise (asked e f a n (piece_of f.width f.height a n readings)) lent answer after → answer ≡ 0 → (k : Colour) → after k ≡ frame_rows f readings a n k
demand-2 {e} f readings a n p z k =
    let w = fits (asked e f a n (piece_of f.width f.height a n readings)) _ _ _ (sym p.number ∙ z) in
    accepted-plane p z k ∙ piece-rows f a n w.rows readings k
