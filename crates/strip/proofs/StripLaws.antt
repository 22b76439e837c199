-- What an accepted strip call is: it fits, its piece has all that its rows are worked out from, and what it shows of the frame's rows; and how a call keeps the contract. Assumes nothing.
use mathlib.Core.Path.{◌≡◌, sym, subst, ap, ◌∙◌}
use mathlib.Core.Bool.{false}
use mathlib.Core.List.{List}
use Prim.Native.Nat.{ℕ, ◌+◌, ◌*◌, ◌-◌, ◌≤◌, ◌<◌, min, max}
use native.Mathlib.Nat.{add-mul, le_trans, mul-le-mul_right}
use native.Mathlib.Omega.{arith}
use lib.IntN.{sub_ℕ}
use Rattle.std.specs.Prelude.{Result, Ok, Err, IsErrAnd, ⊤}
use lib.ListN.{length, get_or}
use Rattle.whole.specs.Parts.{up, down}
use Rattle.whole.proofs.Pairs.{subₚ, differs}
use Rattle.lists.specs.Bound.{AllAtMost}
use Rattle.lists.proofs.PartLaws.{part-inside, get_or_part}
use Rattle.bayer.specs.Mirror.{mirror}
use Rattle.bayer.specs.declared.frame.Frame.{Frame}
use Rattle.bayer.specs.Piece.{piece_start, piece_end, piece_rows, piece_of}
use Rattle.bayer.specs.Condition.{frame_cases, FrameFits, smoothing_cases, rows_cases}
use Rattle.bayer.specs.Lent.{Lent}
use Rattle.bayer.specs.declared.colour.Colour.TheVariants.{Red, Green, Blue}
use Rattle.bayer.specs.Planes.{Planes}
use Rattle.bayer.specs.declared.refusal.Refusal.{Refusal}
use Rattle.bayer.specs.Refusal.{number, answer_number, held_after}
use Rattle.bayer.proofs.RefusalLaws.{number_positive, off, off-append, refused-holds}
use Rattle.bayer.proofs.ConditionLaws.{frame-fits, rows_fit, same_number, planes-fit, readings-fit}
use Rattle.demosaic.proofs.FrameLocal.{in-piece}
use Rattle.strip_rows.specs.StripRows.{Readable, Sized, Filled}
use Rattle.strip.specs.declared.entry.Entry.{Entry}
use Rattle.strip.specs.Strip.{Asked, asked, over_preview, entry_cases, length_cases, strip_number, Promise}

pub record Fits (c : Asked) (red green blue : ℕ) : Type 0 where
  pub frame : FrameFits c.frame
  pub some : 0 < c.count
  pub rows : c.first + c.count ≤ c.frame.height
  pub within-preview : over_preview c.entry c.frame.width c.count ≡ false
  pub long : length c.piece ≡ piece_rows c.frame.height c.first c.count * c.frame.width
  pub planes : Sized c.frame c.count red green blue
  pub range : AllAtMost 4095 c.piece

pub fits : (c : Asked) (red green blue : ℕ) → strip_number c red green blue ≡ 0 → Fits c red green blue
unfolding strip_number
fits c red green blue e =
    let o = off-append (frame_cases c.frame) _ e in
    let s = off-append (smoothing_cases c.frame.smoothing) _ o.1 in
    let p = off-append (rows_cases c.frame c.first c.count) _ s.1 in
    let l = off-append (entry_cases c.entry c.frame.width c.count) _ p.1 in
    let q = off-append (length_cases c.frame c.first c.count c.piece red green blue) _ l.1 in
    let rows = rows_fit c.frame c.first c.count p.0 in
    let lengths = off (length_cases c.frame c.first c.count c.piece red green blue) q.0 in
    let planes = planes-fit (c.count * c.frame.width) red green blue lengths.1.0 in
    record {
      frame = frame-fits c.frame o.0;
      some = rows.0;
      rows = rows.1;
      within-preview = (off (entry_cases c.entry c.frame.width c.count) l.0).0;
      long = same_number _ _ lengths.0;
      planes = record { red-is = planes.0; green-is = planes.1; blue-is = planes.2 };
      range = readings-fit c.piece q.1;
    }

-- a row of the strip, or one beside it, has all it reads among the rows of the piece
module _ (c : Asked) {red green blue : ℕ} (w : Fits c red green blue) where
  lent_at : (v : ℕ) → v < c.frame.height → c.first ≤ v + 1 → v ≤ c.first + c.count → Lent c.frame (piece_start c.first) (length c.piece) v
  lent_at v hv low high = record {
    frame = w.frame;
    row = hv;
    start = λ r h. (inside r h).0;
    end = λ r h.
        let m = mirror c.frame.height (sub_ℕ (v + r) 6) in
        let k : m - piece_start c.first + 1 ≤ piece_rows c.frame.height c.first c.count = omega (arith, (inside r h).0, (inside r h).1) in
        subst (λ x. (m - piece_start c.first + 1) * c.frame.width ≤ x) (sym w.long) (mul-le-mul_right c.frame.width k);
  }
    where
      -- the row of the strip that is nearest to v
      i : ℕ
      i = max c.first (min v (c.first + c.count - 1))

      inside : (r : ℕ) → r < 13 → (piece_start c.first ≤ mirror c.frame.height (sub_ℕ (v + r) 6)) × (mirror c.frame.height (sub_ℕ (v + r) 6) < piece_end c.frame.height c.first c.count)
      inside r h =
          let d = differs (subₚ (v + r) 6) in
          in-piece c.frame c.first c.count i w.rows (omega arith) (omega (arith, w.some)) (sub_ℕ (v + r) 6) (record { above = near-above d; below = near-below d })
        where
          near-above : v + r + down (sub_ℕ (v + r) 6) ≡ up (sub_ℕ (v + r) 6) + 6 → up (sub_ℕ (v + r) 6) + 0 ≤ max c.first (min v (c.first + c.count - 1)) + down (sub_ℕ (v + r) 6) + 7
          near-above d = omega (arith, w.some)

          near-below : v + r + down (sub_ℕ (v + r) 6) ≡ up (sub_ℕ (v + r) 6) + 6 → max c.first (min v (c.first + c.count - 1)) + down (sub_ℕ (v + r) 6) ≤ up (sub_ℕ (v + r) 6) + 0 + 7
          near-below d = omega (arith, w.some)

  pub readable : Readable c.frame (piece_start c.first) c.piece c.first c.count
  readable = record { frame = w.frame; some = w.some; inside = w.rows; range = w.range; lent = lent_at }

-- ---- the contract, of a call that is refused before it writes and of one that is accepted

pub keeps : (c : Asked) (lent : Planes) {answer : ℕ} → answer ≡ strip_number c (length (lent Red)) (length (lent Green)) (length (lent Blue)) → (answer ≡ 0 → ⊥) → Promise c lent answer lent
keeps c lent e h = record { number = e; red = sym (refused-holds _ _ _ h); green = sym (refused-holds _ _ _ h); blue = sym (refused-holds _ _ _ h) }

-- refused with an `Err`
pub keeps-refused : (c : Asked) (lent : Planes) (refusal : Refusal) (answer : Result ⊤ Refusal) → IsErrAnd answer (λ r. r ≡ refusal) → number refusal ≡ strip_number c (length (lent Red)) (length (lent Green)) (length (lent Blue))
    → Promise c lent (answer_number answer) lent
keeps-refused c lent refusal (Ok done) h e = absurd h
keeps-refused c lent refusal (Err r) h e = keeps c lent (ap number h ∙ e) (λ z. omega (arith, number_positive r))

pub fills : (c : Asked) (lent after : Planes) {answer : ℕ} → answer ≡ 0 → 0 ≡ strip_number c (length (lent Red)) (length (lent Green)) (length (lent Blue))
    → Filled c.frame c.first c.count c.piece (after Red) (after Green) (after Blue) → Promise c lent answer after
unfolding held_after
fills c lent after z e h = rw z (record { number = e; red = h.red-is; green = h.green-is; blue = h.blue-is })

-- what an accepted call of a frame's rows shows of row i, one of its own: its readings are there, and in range
pub record RowRead (f : Frame) (readings : List ℕ) (i : ℕ) : Type 0 where
  pub frame : FrameFits f
  pub inside : i < f.height
  pub long : (i + 1) * f.width ≤ length readings
  pub range : (j : ℕ) → j < f.width → get_or readings (i * f.width + j) 0 ≤ 4095

pub row_read : {e : Entry} (f : Frame) (readings : List ℕ) (a n : ℕ) {red green blue : ℕ} → Fits (asked e f a n (piece_of f.width f.height a n readings)) red green blue
    → (i : ℕ) → a ≤ i → i < a + n → RowRead f readings i
row_read f readings a n w i low high = record { frame = w.frame; inside = omega (arith, w.rows); long = long; range = range }
  where
    s : ℕ
    s = piece_start a

    rows : ℕ
    rows = piece_rows f.height a n

    -- row i is row i − s of the piece
    row : (s + (i - s) ≡ i) × (i - s + 1 ≤ rows)
    row = (omega arith, omega (arith, w.rows))

    whole : (s + rows) * f.width ≤ length readings
    whole =
        let h : 1 * f.width ≤ rows * f.width = mul-le-mul_right f.width (omega (arith, row)) in
        rw (add-mul s rows f.width) (part-inside (s * f.width) (rows * f.width) readings (omega (arith, w.frame.wide)) w.long)

    long : (i + 1) * f.width ≤ length readings
    long = le_trans (mul-le-mul_right f.width (let h : i + 1 ≤ s + rows = omega (arith, row) in h)) whole

    range : (j : ℕ) → j < f.width → get_or readings (i * f.width + j) 0 ≤ 4095
    range j h =
        let at : (i - s) * f.width + j < rows * f.width = omega (arith, mul-le-mul_right f.width row.1) in
        let e : s * f.width + ((i - s) * f.width + j) ≡ i * f.width + j = omega (arith, add-mul s (i - s) f.width, ap (λ x. x * f.width) row.0) in
        rw (get_or_part (s * f.width) (rows * f.width) readings ((i - s) * f.width + j) 0 at, e) at (w.range ((i - s) * f.width + j))
