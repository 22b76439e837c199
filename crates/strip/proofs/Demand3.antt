-- DEMAND 3: after any list of strip calls over one frame, by either entry or by both, each of which keeps the contract, every covered row is within the printed error, and every other row is as before.
-- And what users cite beside it: what holds of calls by several smoothings, no seams, and no trace of what a plane held before. Assumes nothing.
use mathlib.Core.Path.{◌≡◌, refl, sym, ◌∙◌, ap, ap₂, subst}
use mathlib.Core.Logic.{inl, inr}
use mathlib.Core.List.{List, [], ◌∷◌, map}
use Prim.Native.Nat.{ℕ, zero, suc, ◌+◌, ◌*◌, ◌-◌, ◌≤◌, ◌<◌}
use native.Mathlib.Omega.{arith}
use lib.ListN.{length, get_or}
use Rattle.whole.specs.Fraction.{natural, Within}
use Rattle.lists.specs.Part.{part, put}
use Rattle.lists.proofs.PartLaws.{length_part}
use Rattle.bayer.specs.declared.colour.Colour.{Colour}
use Rattle.bayer.specs.declared.colour.Colour.TheVariants.{Red, Green, Blue}
use Rattle.bayer.specs.declared.frame.Frame.{Frame}
use Rattle.bayer.specs.Frame.{smoothed}
use Rattle.bayer.specs.Colour.{colour_at}
use Rattle.bayer.specs.Piece.{piece_start, piece_of}
use Rattle.bayer.specs.Planes.{Planes, three_planes}
use Rattle.bayer.proofs.RefusalLaws.{refused-holds}
use Rattle.demosaic.specs.Sample.{sample}
use Rattle.demosaic.specs.Exact.{exact_sample, printed_error}
use Rattle.demosaic.proofs.SampleError.{printed-error}
use Rattle.demosaic.proofs.FrameLocal.{piece-sample, piece-exact_sample}
use Rattle.demosaic.proofs.PlaneRowsLaws.{plane-length, plane-at}
use Rattle.demosaic.proofs.ObservedSample.{observed-sample}
use Rattle.calls.specs.Calls.{Call, accepted, refused, Rows, Step, Runs, Covers, Covered, After}
use Rattle.calls.proofs.CallList.{after-calls}
use Rattle.strip.specs.Strip.{Asked, asked, strip_plane, Promise}
use Rattle.strip.specs.Demand.{StripCall, number_of, Accepted, OfMosaic, OfFrame, Called, CalledAll, CoveredBy, Kept, Demanded, Cited}
use Rattle.strip.proofs.StripLaws.{Fits, fits, RowRead, row_read}
use Rattle.strip.proofs.Demand2.{promised, accepted-plane}

abbrev lent : StripCall → Planes → Colour → List ℕ
lent c p k = part (c.from k) (c.size k) (p k)

-- the calls, told apart
abbrev call_by : ℕ → StripCall → Call
call_by zero c = accepted c.asked.first c.asked.count
call_by (suc n) c = refused c.from c.size

abbrev call_of : StripCall → Call
call_of c = call_by (number_of c) c

-- ---- covered, in either sense

to : (l : List StripCall) (i : ℕ) → CoveredBy l i → Covered (map call_of l) i
to [] i v = absurd v
to (c ∷ l) i (inl v) = inl (go (number_of c) v.0)
  where
    go : (n : ℕ) → n ≡ 0 → Covers (call_by n c) i
    go zero e = (v.1, v.2)
    go (suc n) e = absurd (let z : ⊥ = omega arith in z)
to (c ∷ l) i (inr v) = inr (to l i v)

from : (l : List StripCall) (i : ℕ) → Covered (map call_of l) i → CoveredBy l i
from [] i v = absurd v
from (c ∷ l) i (inl v) = inl (go (number_of c) refl v)
  where
    go : (n : ℕ) → number_of c ≡ n → Covers (call_by n c) i → Accepted c × (c.asked.first ≤ i) × (i < c.asked.first + c.asked.count)
    go zero e v = (e, v.0, v.1)
    go (suc n) e v = absurd v
from (c ∷ l) i (inr v) = inr (from l i v)

-- the code's contract is all that a call of a list needs
pub called : {Premise : StripCall → Type 0} (c : StripCall) (p : Planes) {answer : ℕ} {red green blue : List ℕ} → (Accepted c → Premise c) → ((k : Colour) → c.from k + c.size k ≤ length (p k))
    → Promise c.asked (three_planes (lent c p Red) (lent c p Green) (lent c p Blue)) answer (three_planes red green blue) → Called Premise c p (λ k. put (c.from k) (three_planes red green blue k) (p k))
called c p {answer} {red} {green} {blue} premise inside promise = record {
  premise = premise;
  inside = inside;
  answer = answer;
  after = three_planes red green blue;
  promise = record { number = promise.number; red = promise.red; green = promise.green; blue = promise.blue };
  rest = λ k. refl;
}

module _ (f : Frame) (readings : List ℕ) where
  -- the frame that a call names, and what it asks for
  abbrev named : StripCall → Frame
  named c = smoothed f.width f.height f.layout c.asked.frame.smoothing

  abbrev ours : StripCall → Asked
  ours c = asked c.asked.entry (named c) c.asked.first c.asked.count (piece_of f.width f.height c.asked.first c.asked.count readings)

  asks : (c : StripCall) → OfMosaic f readings c → c.asked ≡ ours c
  asks c o = ap₂ (λ g x. asked c.asked.entry g c.asked.first c.asked.count x) o.frame o.piece

  -- ---- calls of which the accepted ones read this mosaic, whatever smoothings they name
  module _ (Premise : StripCall → Type 0) (of-mosaic : (c : StripCall) → Premise c → OfMosaic f readings c) where
    lent_length : (c : StripCall) {p q : Planes} → Called Premise c p q → (k : Colour) → length (lent c p k) ≡ c.size k
    lent_length c {p} d k = length_part (c.from k) (c.size k) (p k) (d.inside k)

    answers : (c : StripCall) {p q : Planes} (d : Called Premise c p q) → d.answer ≡ number_of c
    answers c d = d.promise.number ∙ rw (lent_length c d Red, lent_length c d Green, lent_length c d Blue)

    fits-ours : (c : StripCall) → Accepted c → Premise c → Fits (ours c) (c.size Red) (c.size Green) (c.size Blue)
    fits-ours c e o = fits (ours c) _ _ _ (rw (← asks c (of-mosaic c o)) e)

    -- it delivers the rule's rows
    delivered : (c : StripCall) {p q : Planes} (d : Called Premise c p q) → Accepted c → Premise c → (k : Colour) → d.after k ≡ strip_plane (ours c) k
    delivered c d e o k = accepted-plane d.promise (answers c d ∙ e) k ∙ ap (λ x. strip_plane x k) (asks c (of-mosaic c o))

    -- a covered row is one of the frame, and its readings are there and in range: the call that covered it has tested them
    row-known : (l : List StripCall) (p q : Planes) → CalledAll Premise l p q → (i : ℕ) → CoveredBy l i → RowRead f readings i
    row-known [] p q h i v = absurd v
    row-known (c ∷ l) p q h i (inr v) = row-known l h.0 q h.2 i v
    row-known (c ∷ l) p q h i (inl v) =
        let r = row_read (named c) readings c.asked.first c.asked.count (fits-ours c v.0 (h.1.premise v.0)) i v.1 v.2 in
        let z = r.frame in
        record { frame = record { wide = z.wide; narrow = z.narrow; high = z.high; low = z.low; known = z.known }; inside = r.inside; long = r.long; range = r.range }

    -- what holds of the rule's samples of every accepted call holds of the covered rows
    module _ (Holds : Colour → (i j s : ℕ) → Type 0) (holds : (c : StripCall) → Premise c → (k : Colour) (i j : ℕ) → i < f.height → j < f.width → Holds k i j (sample (named c) 0 readings k i j)) where
      rows_of : (c : StripCall) → Premise c → Fits (ours c) (c.size Red) (c.size Green) (c.size Blue) → (k : Colour) → Rows f.width Holds k c.asked.first c.asked.count (strip_plane (ours c) k)
      rows_of c o w k =
          let a = c.asked.first in
          let n = c.asked.count in
          record {
            size = plane-length (named c) (piece_start a) _ a n k;
            each = λ i j h g.
                subst (Holds k (a + i) j)
                (sym (plane-at (named c) (piece_start a) _ a n k i j h g ∙ piece-sample (named c) a n (a + i) w.rows (omega arith) (omega arith) readings k j))
                (holds c o k (a + i) j (omega (arith, w.rows)) g);
          }

      step : (c : StripCall) (p q : Planes) → Called Premise c p q → Step f.width f.height Holds (call_of c) p q
      step c p q d = go (number_of c) refl
        where
          go : (n : ℕ) → number_of c ≡ n → Step f.width f.height Holds (call_by n c) p q
          go zero e =
              let o = d.premise e in
              let w = fits-ours c e o in
              (w.rows, λ k. (strip_plane (ours c) k, rows_of c o w k, d.rest k ∙ ap₂ (λ s x. put s x (p k)) ((of-mosaic c o).rows k) (delivered c d e o k)))
          go (suc n) e = λ k. (d.inside k, d.rest k ∙ ap (λ x. put (c.from k) x (p k)) (promised d.promise k ∙ refused-holds d.answer _ _ (λ z. omega (arith, sym (answers c d ∙ e) ∙ z))))

      runs : (l : List StripCall) (p q : Planes) → CalledAll Premise l p q → Runs f.width f.height Holds (map call_of l) p q
      runs [] p q h = h
      runs (c ∷ l) p q h = (h.0, step c p h.0 h.1, runs l h.0 q h.2)

      after : (l : List StripCall) (p q : Planes) → ((k : Colour) → length (p k) ≡ f.width * f.height) → CalledAll Premise l p q → After f.width f.height Holds (map call_of l) p q
      after l p q e h = after-calls f.width f.height Holds (map call_of l) p q e (runs l p q h)

  -- ---- by any smoothings: observed samples, and the other rows

  abbrev Observed : Colour → (i j s : ℕ) → Type 0
  Observed k i j s = colour_at f.layout i j ≡ k → s ≡ 16 * get_or readings (i * f.width + j) 0

  observed-holds : (c : StripCall) → OfMosaic f readings c → (k : Colour) (i j : ℕ) → i < f.height → j < f.width → Observed k i j (sample (named c) 0 readings k i j)
  observed-holds c o k i j hi hj e =
      let z : i - 0 ≡ i = omega arith in
      ap (λ x. sample (named c) 0 readings x i j) (sym e) ∙ (rw z at (observed-sample (named c) 0 readings i j hi hj))

  pub covered-row : (l : List StripCall) (p q : Planes) → CalledAll (OfMosaic f readings) l p q → (i : ℕ) → CoveredBy l i → RowRead f readings i
  covered-row = row-known (OfMosaic f readings) (λ c o. o)

  pub kept : (l : List StripCall) (p q : Planes) → ((k : Colour) → length (p k) ≡ f.width * f.height) → CalledAll (OfMosaic f readings) l p q → Kept f readings l p q
  kept l p q e h = record {
    observed = λ i j v hj. a.covered (colour_at f.layout i j) i j (to l i v) hj refl;
    others = λ k i j v hj. a.others k i j (λ x. v (from l i x)) hj;
    lengths = a.lengths;
  }
    where
      a : After f.width f.height Observed (map call_of l) p q
      a = after (OfMosaic f readings) (λ c o. o) Observed observed-holds l p q e h

  -- ---- by one smoothing

  same-rule : (c : StripCall) → OfFrame f readings c → (k : Colour) (i j : ℕ) → sample (named c) 0 readings k i j ≡ sample f 0 readings k i j
  same-rule c o k i j = ap (λ s. sample (smoothed f.width f.height f.layout s) 0 readings k i j) o.smoothing

  -- in a covered row the rule's samples stand
  covered : (l : List StripCall) (p q : Planes) → ((k : Colour) → length (p k) ≡ f.width * f.height) → CalledAll (OfFrame f readings) l p q
      → (k : Colour) (i j : ℕ) → CoveredBy l i → j < f.width → get_or (q k) (i * f.width + j) 0 ≡ sample f 0 readings k i j
  covered l p q e h k i j v hj =
      (after (OfFrame f readings) (λ c o. o.mosaic) (λ k i j s. s ≡ sample f 0 readings k i j) (λ c o k i j _ _. same-rule c o k i j) l p q e h).covered k i j (to l i v) hj

  -- the readings that a covering call read are in range, and the rule and the exact form of its rows depend on no others
  near-exact : (l : List StripCall) (p q : Planes) → CalledAll (OfFrame f readings) l p q → (k : Colour) (i j : ℕ) → CoveredBy l i → Within (natural (sample f 0 readings k i j)) (exact_sample f 0 readings k i j) (printed_error k) 100
  near-exact [] p q h k i j v = absurd v
  near-exact (c ∷ l) p q h k i j (inr v) = near-exact l h.0 q h.2 k i j v
  near-exact (c ∷ l) p q h k i j (inl v) =
      let a = c.asked.first in
      let n = c.asked.count in
      let w = fits-ours (OfFrame f readings) (λ c o. o.mosaic) c v.0 (h.1.premise v.0) in
      rw (piece-sample f a n i w.rows v.1 v.2 readings k j, piece-exact_sample f a n i w.rows v.1 v.2 readings k j)
      at (printed-error f (piece_start a) (piece_of f.width f.height a n readings) w.range k i j)

  weakened : (l : List StripCall) (p q : Planes) → CalledAll (OfFrame f readings) l p q → CalledAll (OfMosaic f readings) l p q
  weakened [] p q h = h
  weakened (c ∷ l) p q h =
      let d = h.1 in
      (h.0, record { premise = λ e. (d.premise e).mosaic; inside = d.inside; answer = d.answer; after = d.after; promise = d.promise; rest = d.rest }, weakened l h.0 q h.2)

  pub demand-3 : (l : List StripCall) (p q : Planes) → ((k : Colour) → length (p k) ≡ f.width * f.height) → CalledAll (OfFrame f readings) l p q → Demanded f readings l p q
  demand-3 l p q e h = record { near = λ k i j v hj. rw (covered l p q e h k i j v hj) (near-exact l p q h k i j v); kept = kept l p q e (weakened l p q h) }

  pub cited : {l : List StripCall} {p q : Planes} → Demanded f readings l p q → Cited f readings l q
  cited d = record { red = d.near Red; green = d.near Green; blue = d.near Blue }

  -- NO SEAMS: two lists of calls of one smoothing, by whichever entries, however they cut the frame and whatever the planes held before, leave the same samples in every row that both cover
  pub no-seams : (l l' : List StripCall) (p p' q q' : Planes) → ((k : Colour) → length (p k) ≡ f.width * f.height) → ((k : Colour) → length (p' k) ≡ f.width * f.height)
      → CalledAll (OfFrame f readings) l p q → CalledAll (OfFrame f readings) l' p' q' → (k : Colour) (i j : ℕ) → CoveredBy l i → CoveredBy l' i → j < f.width → get_or (q k) (i * f.width + j) 0 ≡ get_or (q' k) (i * f.width + j) 0
  no-seams l l' p p' q q' e e' h h' k i j v v' hj = covered l p q e h k i j v hj ∙ sym (covered l' p' q' e' h' k i j v' hj)
