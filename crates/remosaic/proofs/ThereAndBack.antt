-- THERE AND BACK: from the planes that strip calls leave, the frame's readings come back. Assumes nothing.
use Prim.Native.Nat.{ℕ, ◌+◌, ◌*◌, ◌-◌, ◌≤◌, ◌<◌}
use mathlib.Core.Path.{◌≡◌, sym, ap, ◌∙◌}
use mathlib.Core.List.{List}
use native.Mathlib.Nat.{add-mul, zero-mul, mul_comm, mul-le-mul_right, le_of_eq}
use native.Mathlib.Omega.{arith}
use lib.ListN.{length, get_or}
use lib.Seq.{take_all}
use Rattle.lists.specs.Part.{part}
use Rattle.lists.proofs.JoinedLaws.{part-within}
use Rattle.lists.proofs.PartLaws.{length_part, get_or_part}
use Rattle.bayer.specs.declared.colour.Colour.{Colour}
use Rattle.bayer.specs.declared.colour.Colour.TheVariants.{Red, Green, Blue}
use Rattle.bayer.specs.declared.frame.Frame.{Frame}
use Rattle.bayer.specs.Colour.{colour_at}
use Rattle.bayer.specs.Piece.{piece_of}
use Rattle.bayer.specs.Planes.{Planes}
use Rattle.demosaic.proofs.PlaneRowsLaws.{plane-length, plane-at}
use Rattle.demosaic.proofs.ObservedSample.{observed-sample}
use Rattle.strip.specs.declared.entry.Entry.{Entry}
use Rattle.strip.specs.Strip.{asked, Promise}
use Rattle.strip.specs.Demand.{StripCall, OfMosaic, CalledAll, CoveredBy, Kept}
use Rattle.strip.proofs.StripLaws.{Fits, fits, RowRead, row_read}
use Rattle.strip.proofs.Demand2.{demand-2}
use Rattle.strip.proofs.Demand3.{kept, covered-row}
use Rattle.remosaic.specs.MosaicBack.{observed, ComesBack}
use Rattle.remosaic.specs.Rows.{RowsLent}
use Rattle.remosaic.proofs.MosaicLaws.{comes_back}

-- ---- rows a to a + n − 1 of a list of rows, w wide

rows-length : (w a n : ℕ) (l : List ℕ) → (a + n) * w ≤ length l → length (part (a * w) (n * w) l) ≡ n * w
rows-length w a n l h = length_part (a * w) (n * w) l (rw (add-mul a n w) at h)

rows-entry : (w a n : ℕ) (l : List ℕ) (i j : ℕ) → i < n → j < w → get_or (part (a * w) (n * w) l) (i * w + j) 0 ≡ get_or l ((a + i) * w + j) 0
rows-entry w a n l i j h k =
    let e : a * w + (i * w + j) ≡ (a + i) * w + j = rw (add-mul a i w) (omega arith) in
    get_or_part (a * w) (n * w) l (i * w + j) 0 (omega (arith, part-within w h)) ∙ ap (λ x. get_or l x 0) e

module _ (f : Frame) (readings : List ℕ) where
  abbrev W : ℕ
  W = f.width

  -- from planes that have 16 times the readings of rows that calls have read
  read_back : (a n : ℕ) (planes : Planes) → RowsLent f a n planes → 0 < n → ((i : ℕ) → a ≤ i → i < a + n → RowRead f readings i)
      → ((i j : ℕ) → i < n → j < W → observed f a planes i j ≡ 16 * get_or readings ((a + i) * W + j) 0) → ComesBack f a n planes (part (a * W) (n * W) readings)
  read_back a n planes lent some rows sixteen =
      comes_back f a n planes (part (a * W) (n * W) readings) lent some (rows-length W a n readings last)
      (λ i j h k. sixteen i j h k ∙ ap (λ x. 16 * x) (sym (rows-entry W a n readings i j h k)))
      (λ i j h k. rw (rows-entry W a n readings i j h k) ((rows (a + i) (omega arith) (omega arith)).range j k))
    where
      last : (a + n) * W ≤ length readings
      last = let e : a + n - 1 + 1 ≡ a + n = omega arith in rw e at (rows (a + n - 1) (omega arith) (omega arith)).long

  -- the planes of an accepted strip call, by either entry, give rows a to a + n − 1 of the frame back
  pub strip-back : {e : Entry} (a n : ℕ) {lent after : Planes} {answer : ℕ} → Promise (asked e f a n (piece_of W f.height a n readings)) lent answer after → answer ≡ 0 → ComesBack f a n after (part (a * W) (n * W) readings)
  strip-back {e} a n {lent} {after} p accepted = read_back a n after (record { frame = w.frame; inside = w.rows; long = long }) w.some (row_read f readings a n w) sixteen
    where
      w : Fits (asked e f a n (piece_of W f.height a n readings)) (length (lent Red)) (length (lent Green)) (length (lent Blue))
      w = fits (asked e f a n (piece_of W f.height a n readings)) _ _ _ (sym p.number ∙ accepted)

      long : (k : Colour) → length (after k) ≡ n * W
      long k = ap length (demand-2 f readings a n p accepted k) ∙ plane-length f 0 readings a n k

      sixteen : (i j : ℕ) → i < n → j < W → observed f a after i j ≡ 16 * get_or readings ((a + i) * W + j) 0
      sixteen i j h g =
          let k = colour_at f.layout (a + i) j in
          let z : a + i - 0 ≡ a + i = omega arith in
          ap (λ l. get_or l (i * W + j) 0) (demand-2 f readings a n p accepted k) ∙ plane-at f 0 readings a n k i j h g ∙ (rw z at (observed-sample f 0 readings (a + i) j (omega (arith, w.rows)) g))

  -- after any list of strip calls, whatever smoothings they name
  module _ (l : List StripCall) (p q : Planes) (lengths : (k : Colour) → length (p k) ≡ W * f.height) (called : CalledAll (OfMosaic f readings) l p q) where
    d : Kept f readings l p q
    d = kept f readings l p q lengths called

    -- the planes' rows a to a + n − 1, where all of them are covered, give these rows of the frame back. Nothing is asked of readings that no call has read
    pub rows_back : (a n : ℕ) → 0 < n → ((i : ℕ) → a ≤ i → i < a + n → CoveredBy l i) → (planes : Planes) → ((k : Colour) → planes k ≡ part (a * W) (n * W) (q k))
        → ComesBack f a n planes (part (a * W) (n * W) readings)
    rows_back a n some covered planes are = read_back a n planes (record { frame = (rows a (omega arith) (omega arith)).frame; inside = inside; long = long }) some rows sixteen
      where
        rows : (i : ℕ) → a ≤ i → i < a + n → RowRead f readings i
        rows i low high = covered-row f readings l p q called i (covered i low high)

        inside : a + n ≤ f.height
        inside = omega (arith, (rows (a + n - 1) (omega arith) (omega arith)).inside)

        long : (k : Colour) → length (planes k) ≡ n * W
        long k = ap length (are k) ∙ rows-length W a n (q k) (rw (d.lengths k, mul_comm W f.height) (mul-le-mul_right W inside))

        sixteen : (i j : ℕ) → i < n → j < W → observed f a planes i j ≡ 16 * get_or readings ((a + i) * W + j) 0
        sixteen i j h g =
            let k = colour_at f.layout (a + i) j in
            ap (λ x. get_or x (i * W + j) 0) (are k) ∙ rows-entry W a n (q k) i j h g ∙ d.observed (a + i) j (covered (a + i) (omega arith) (omega arith)) g

    -- and where every row is covered, the frame comes back
    pub frame_back : 0 < f.height → length readings ≡ W * f.height → ((i : ℕ) → i < f.height → CoveredBy l i) → ComesBack f 0 f.height q readings
    frame_back some long covered = rw (whole readings long) at (rows_back 0 f.height some (λ i _ h. covered i (omega arith)) q (λ k. sym (whole (q k) (d.lengths k))))
      where
        whole : (x : List ℕ) → length x ≡ W * f.height → part (0 * W) (f.height * W) x ≡ x
        whole x e = rw (zero-mul W) (take_all (f.height * W) x (rw (mul_comm f.height W) (le_of_eq e)))
