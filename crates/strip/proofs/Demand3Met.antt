-- Demand 3's premise can be met: every list of calls over a frame (`Callable`), accepted and refused, leaves some planes of any that it finds; and of every frame that is not refused
-- one call covers all rows. Assumes nothing.
use Prim.Native.Nat.{ℕ, zero, suc, ◌+◌, ◌*◌, ◌≤◌, ◌<◌}
use mathlib.Core.Path.{◌≡◌, refl, sym, ap, ap₂, ◌∙◌}
use mathlib.Core.Logic.{inl}
use mathlib.Core.List.{List, [], ◌∷◌, ◌++◌}
use native.Mathlib.Nat.{mul_comm}
use native.Mathlib.Omega.{arith}
use lib.ListN.{length}
use lib.Seq.{take_all}
use Rattle.lists.specs.Part.{part, put}
use Rattle.lists.specs.Every.{Every}
use Rattle.lists.proofs.PartLaws.{length_part}
use Rattle.lists.proofs.PutLaws.{length-put}
use Rattle.bayer.specs.declared.colour.Colour.{Colour}
use Rattle.bayer.specs.declared.colour.Colour.TheVariants.{Red, Green, Blue}
use Rattle.bayer.specs.declared.frame.Frame.{Frame}
use Rattle.bayer.specs.Piece.{piece_start, piece_rows, piece_of}
use Rattle.bayer.specs.Planes.{Planes}
use Rattle.bayer.specs.Refusal.{first_of, held_after}
use Rattle.bayer.specs.Condition.{frame_cases, smoothing_cases, range_cases}
use Rattle.demosaic.proofs.PlaneRowsLaws.{plane-length}
use Rattle.strip.specs.declared.entry.Entry.TheVariants.{FullSize}
use Rattle.strip.specs.Strip.{asked, strip_plane, Promise}
use Rattle.strip.specs.Demand.{StripCall, number_of, Accepted, OfFrame, Callable, CalledAll, CoveredBy}
use Rattle.strip.proofs.StripLaws.{fits}
use Rattle.strip.proofs.WholeFrame.{whole-number}

-- what a call leaves of the part of plane k that it is lent
abbrev left : StripCall → Planes → Planes
left c p k = held_after (number_of c) (strip_plane c.asked k) (part (c.from k) (c.size k) (p k))

-- the planes after it
abbrev pub after_call : StripCall → Planes → Planes
after_call c p k = put (c.from k) (left c p k) (p k)

-- an accepted call is lent as many samples of each plane as it fills
accepted-size : (c : StripCall) → Accepted c → (k : Colour) → c.size k ≡ c.asked.count * c.asked.frame.width
accepted-size c e Red = (fits c.asked _ _ _ e).planes.red-is
accepted-size c e Green = (fits c.asked _ _ _ e).planes.green-is
accepted-size c e Blue = (fits c.asked _ _ _ e).planes.blue-is

module _ (c : StripCall) (p : Planes) (inside : (k : Colour) → c.from k + c.size k ≤ length (p k)) where
  lent_length : (k : Colour) → length (part (c.from k) (c.size k) (p k)) ≡ c.size k
  lent_length k = length_part (c.from k) (c.size k) (p k) (inside k)

  left-length : (k : Colour) → length (left c p k) ≡ c.size k
  unfolding held_after
  left-length k = go (number_of c) refl
    where
      go : (n : ℕ) → number_of c ≡ n → length (held_after n (strip_plane c.asked k) (part (c.from k) (c.size k) (p k))) ≡ c.size k
      go zero e = plane-length c.asked.frame (piece_start c.asked.first) c.asked.piece c.asked.first c.asked.count k ∙ sym (accepted-size c e k)
      go (suc n) e = lent_length k

  after-length : (k : Colour) → length (after_call c p k) ≡ length (p k)
  after-length k = length-put (c.from k) (left c p k) (p k) (rw (left-length k) (inside k))

  keeps-promise : Promise c.asked (λ k. part (c.from k) (c.size k) (p k)) (number_of c) (left c p)
  keeps-promise = record { number = rw (lent_length Red, lent_length Green, lent_length Blue) refl; red = refl; green = refl; blue = refl }

module _ (f : Frame) (readings : List ℕ) where
  pub lists-run : (l : List StripCall) → Every (Callable f readings) l → (p : Planes) → ((k : Colour) → length (p k) ≡ f.width * f.height) → (q : Planes) × CalledAll (OfFrame f readings) l p q
  lists-run [] h p s = (p, λ k. refl)
  lists-run (c ∷ l) h p s =
      let inside : (k : Colour) → c.from k + c.size k ≤ length (p k) = λ k. omega (arith, h.0.inside k, s k) in
      let rest = lists-run l h.1 (after_call c p) (λ k. after-length c p inside k ∙ s k) in (
        rest.0,
        (
          after_call c p,
          record { premise = h.0.premise; inside = inside; answer = number_of c; after = left c p; promise = keeps-promise c p inside; rest = λ k. refl },
          rest.1,
        ),
      )

-- ---- one call of all rows, by the full-size entry
module _ (f : Frame) (readings : List ℕ) (long : length readings ≡ f.width * f.height) where
  abbrev pub whole_call : StripCall
  whole_call = record { asked = asked FullSize f 0 f.height readings; from = λ k. 0; size = λ k. f.width * f.height }

  own-piece : readings ≡ piece_of f.width f.height 0 f.height readings
  own-piece =
      let s : piece_start 0 * f.width ≡ 0 = omega arith in
      let r : piece_rows f.height 0 f.height ≡ f.height = omega arith in
      sym (ap₂ (λ a k. part a k readings) s (ap (λ n. n * f.width) r) ∙ take_all (f.height * f.width) readings (omega (arith, long, mul_comm f.width f.height)))

  whole-callable : Callable f readings whole_call
  whole-callable = record { premise = λ a. record { mosaic = record { frame = refl; piece = own-piece; rows = λ k. omega arith }; smoothing = refl }; inside = λ k. omega arith }

  pub demand-3-met : first_of (frame_cases f ++ (smoothing_cases f.smoothing ++ range_cases readings)) ≡ 0 → (p : Planes) → ((k : Colour) → length (p k) ≡ f.width * f.height)
      → ((q : Planes) × CalledAll (OfFrame f readings) (whole_call ∷ []) p q) × ((i : ℕ) → i < f.height → CoveredBy (whole_call ∷ []) i)
  demand-3-met e p s = (lists-run f readings (whole_call ∷ []) (whole-callable, tt) p s, λ i h. inl (whole-number f readings long refl refl refl ∙ e, omega arith, omega arith))
