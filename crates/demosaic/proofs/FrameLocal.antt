-- A frame's row: what it delivers depends on the rows that positions i − 7 to i + 7 read, and a strip's piece has them all. Assumes nothing.
use mathlib.Core.Path.{◌≡◌, ◌∙◌, ap}
use mathlib.Core.List.{List}
use Prim.Native.Nat.{ℕ, ◌+◌, ◌-◌, ◌≤◌, ◌<◌}
use native.Mathlib.Omega.{arith}
use lib.Dec.{lit≤}
use lib.IntN.{ℤ, pos}
use lib.ListN.{get_or}
use Rattle.lists.specs.Part.{row_of}
use Rattle.lists.proofs.JoinedLaws.{parts_same}
use Rattle.bayer.specs.declared.colour.Colour.{Colour}
use Rattle.bayer.specs.declared.frame.Frame.{Frame}
use Rattle.bayer.specs.Mirror.{mirror}
use Rattle.bayer.specs.Piece.{piece_start, piece_end, piece_of}
use Rattle.bayer.specs.Mosaic.{continued}
use Rattle.bayer.proofs.MirrorLaws.{mirror-lt, mirror-near, near_before, near-at, near-after}
use Rattle.bayer.proofs.PieceLaws.{piece-row}
use Rattle.bayer.proofs.Near.{Near, here, wider}
use Rattle.green_rule.proofs.GreensLaws.{greens-local, exact_greens-local}
use Rattle.demosaic.specs.Sample.{sample, plane_rows}
use Rattle.demosaic.specs.Exact.{exact_sample}
use Rattle.demosaic.proofs.SampleLocal.{sample_from-same, exact_from-same}

-- rows from `first` on in xs, and from `other` on in ys
module _ (f : Frame) (first other : ℕ) (xs ys : List ℕ) (i : ℕ) (hi : i < f.height)
    (agree : (r : ℤ) → Near 7 (pos i) r → row_of f.width (mirror f.height r - first) xs ≡ row_of f.width (mirror f.height r - other) ys) where
  same_row : (r : ℤ) → Near 7 (pos i) r → (continued f first xs).reading r ≡ (continued f other ys).reading r
  same_row r h = ap (λ l j. get_or l (mirror f.width j) 0) (agree r h)

  read_same : (r : ℤ) → Near 1 (pos i) r → (j : ℤ) → (continued f first xs).reading r j ≡ (continued f other ys).reading r j
  read_same r h j = ap (λ x. x j) (same_row r (wider 7 r h (lit≤ tt)))

  sample-local : (k : Colour) (j : ℕ) → sample f first xs k i j ≡ sample f other ys k i j
  unfolding sample
  sample-local k j =
      sample_from-same f _ _ _ (pos i) read_same (here 1 (pos i)) (near_before f.height i hi) (near-at f.height i hi) (near-after f.height i hi) _ _ (greens-local f first other xs ys (pos i) same_row) k (pos j)

  exact_sample-local : (k : Colour) (j : ℕ) → exact_sample f first xs k i j ≡ exact_sample f other ys k i j
  unfolding exact_sample
  exact_sample-local k j =
      exact_from-same f _ _ _ (pos i) read_same (here 1 (pos i)) (near_before f.height i hi) (near-at f.height i hi) (near-after f.height i hi) _ _ (exact_greens-local f first other xs ys (pos i) same_row) k (pos j)

-- a strip of n rows from row a, and one of its rows
module _ (f : Frame) (a n i : ℕ) (hn : a + n ≤ f.height) (low : a ≤ i) (high : i < a + n) where
  -- the piece has every row that is read for row i
  pub in-piece : (r : ℤ) → Near 7 (pos i) r → (piece_start a ≤ mirror f.height r) × (mirror f.height r < piece_end f.height a n)
  in-piece r h =
      let near = mirror-near f.height i (omega arith) r 7 h in
      let inside = mirror-lt f.height r (omega arith) in
      (omega arith, omega arith)

  piece-agrees : (frame : List ℕ) (r : ℤ) → Near 7 (pos i) r → row_of f.width (mirror f.height r - piece_start a) (piece_of f.width f.height a n frame) ≡ row_of f.width (mirror f.height r - 0) frame
  piece-agrees frame r h = piece-row f.width f.height a n (mirror f.height r) frame (in-piece r h).0 (in-piece r h).1
      ∙ ap (λ x. row_of f.width x frame) (let e : mirror f.height r ≡ mirror f.height r - 0 = omega arith in e)

  -- the samples that the piece gives are the whole frame's
  pub piece-sample : (frame : List ℕ) (k : Colour) (j : ℕ) → sample f (piece_start a) (piece_of f.width f.height a n frame) k i j ≡ sample f 0 frame k i j
  piece-sample frame k j = sample-local f (piece_start a) 0 _ _ i (omega arith) (piece-agrees frame) k j

  pub piece-exact_sample : (frame : List ℕ) (k : Colour) (j : ℕ) → exact_sample f (piece_start a) (piece_of f.width f.height a n frame) k i j ≡ exact_sample f 0 frame k i j
  piece-exact_sample frame k j = exact_sample-local f (piece_start a) 0 _ _ i (omega arith) (piece-agrees frame) k j

-- and so are its rows
pub piece-rows : (f : Frame) (a n : ℕ) → a + n ≤ f.height → (frame : List ℕ) (k : Colour) → plane_rows f (piece_start a) (piece_of f.width f.height a n frame) a n k ≡ plane_rows f 0 frame a n k
unfolding plane_rows
piece-rows f a n hn frame k = parts_same _ _ f.width n (λ i j h g. piece-sample f a n (a + i) hn (omega arith) (omega arith) frame k j)
