-- After any list of calls, each covered row is as it shall be, and every other row is as before. Assumes nothing.
use mathlib.Core.Path.{◌≡◌, sym, ◌∙◌, ap, subst}
use mathlib.Core.Logic.Dec
use mathlib.Core.Logic.{inl, inr, ⊎_elim}
use mathlib.Core.List.{List, [], ◌∷◌}
use Prim.Native.Nat.{ℕ, suc, ◌+◌, ◌*◌, ◌-◌, ◌≤◌, ◌<◌}
use native.Mathlib.Nat.{mul-le-mul_right}
use native.Mathlib.Decide.{dec_le, dec_lt}
use native.Mathlib.Omega.{arith}
use lib.ListN.{length, get_or}
use Rattle.lists.specs.Part.{put}
use Rattle.lists.proofs.PutLaws.{put_same, length-put, put-before, put_in, put-after}
use Rattle.bayer.specs.declared.colour.Colour.{Colour}
use Rattle.bayer.specs.Planes.{Planes}
use Rattle.calls.specs.Calls.{Call, accepted, refused, Step, Runs, Covers, Covered, After}

dec-covers : (c : Call) (i : ℕ) → Dec (Covers c i)
dec-covers (accepted a n) i = Dec.and (dec_le a i) (dec_lt i _)
dec-covers (refused from size) i = no (λ x. x)

dec-covered : (l : List Call) (i : ℕ) → Dec (Covered l i)
dec-covered [] i = no (λ x. x)
dec-covered (c ∷ l) i = go (dec-covers c i) (dec-covered l i)
  where
    go : Dec (Covers c i) → Dec (Covered l i) → Dec (Covered (c ∷ l) i)
    go (yes h) d = yes (inl h)
    go (no h) (yes k) = yes (inr k)
    go (no h) (no k) = no (⊎_elim h k)

-- ---- one call, on one plane

module _ (W H : ℕ) (Holds : Colour → (i j s : ℕ) → Type 0) where
  fits : (a n : ℕ) (new l : List ℕ) → a + n ≤ H → length l ≡ W * H → length new ≡ n * W → a * W + length new ≤ length l
  fits a n new l h e f = omega (arith, mul-le-mul_right W h)

  step-length : (c : Call) (p q : Planes) → Step W H Holds c p q → ((k : Colour) → length (p k) ≡ W * H) → (k : Colour) → length (q k) ≡ W * H
  step-length (accepted a n) p q h e k = let r = h.1 k in ap length r.2 ∙ length-put (a * W) r.0 (p k) (fits a n r.0 (p k) h.0 (e k) r.1.size) ∙ e k
  step-length (refused from size) p q h e k = ap length ((h k).1 ∙ put_same (from k) (size k) (p k) (h k).0) ∙ e k

  step-covers : (c : Call) (p q : Planes) → Step W H Holds c p q → ((k : Colour) → length (p k) ≡ W * H) → (k : Colour) (i j : ℕ) → Covers c i → j < W → Holds k i j (get_or (q k) (i * W + j) 0)
  step-covers (accepted a n) p q h e k i j v hj = subst (Holds k i j) (sym (ap (λ l. get_or l (i * W + j) 0) (h.1 k).2 ∙ there)) (subst (λ m. Holds k m j (get_or new ((i - a) * W + j) 0)) x ((h.1 k).1.each (i - a) j u hj))
    where
      new : List ℕ
      new = (h.1 k).0

      x : a + (i - a) ≡ i
      x = omega (arith, v.0)

      u : suc (i - a) ≤ n
      u = omega (arith, v.0, v.1)

      at : i * W + j ≡ a * W + ((i - a) * W + j)
      at = omega (arith, ap (λ n. n * W) x)

      there : get_or (put (a * W) new (p k)) (i * W + j) 0 ≡ get_or new ((i - a) * W + j) 0
      there = rw at (put_in (a * W) new (p k) ((i - a) * W + j) (fits a n new (p k) h.0 (e k) (h.1 k).1.size) (omega (arith, mul-le-mul_right W u, (h.1 k).1.size)))
  step-covers (refused from size) p q h e k i j v hj = absurd v

  step-others : (c : Call) (p q : Planes) → Step W H Holds c p q → ((k : Colour) → length (p k) ≡ W * H) → (k : Colour) (i j : ℕ) → ¬ Covers c i → j < W → get_or (q k) (i * W + j) 0 ≡ get_or (p k) (i * W + j) 0
  step-others (accepted a n) p q h e k i j v hj = ap (λ l. get_or l (i * W + j) 0) (h.1 k).2 ∙ go (dec_lt i a)
    where
      new : List ℕ
      new = (h.1 k).0

      f : a * W + length new ≤ length (p k)
      f = fits a n new (p k) h.0 (e k) (h.1 k).1.size

      go : Dec (i < a) → get_or (put (a * W) new (p k)) (i * W + j) 0 ≡ get_or (p k) (i * W + j) 0
      go (yes t) = put-before (a * W) new (p k) (i * W + j) f (omega (arith, mul-le-mul_right W t))
      go (no t) =
          let u : a + n ≤ i = by_cases (dec_lt i (a + n)) in
          let y : a * W + (length new + (i * W + j - (a * W + length new))) ≡ i * W + j = omega (arith, mul-le-mul_right W u, (h.1 k).1.size) in
          rw y at (put-after (a * W) new (p k) (i * W + j - (a * W + length new)) f)
        where
          by_cases : Dec (i < a + n) → a + n ≤ i
          by_cases (yes w) = absurd (v (omega arith, omega arith))
          by_cases (no w) = omega arith
  step-others (refused from size) p q h e k i j v hj = ap (λ l. get_or l (i * W + j) 0) ((h k).1 ∙ put_same (from k) (size k) (p k) (h k).0)

  -- ---- the list

  pub after-calls : (l : List Call) (p q : Planes) → ((k : Colour) → length (p k) ≡ W * H) → Runs W H Holds l p q → After W H Holds l p q
  after-calls [] p q e h = record { lengths = λ k. ap length (h k) ∙ e k; covered = λ k i j v hj. absurd v; others = λ k i j v hj. ap (λ s. get_or s (i * W + j) 0) (h k) }
  after-calls (c ∷ l) p q e h = after (after-calls l h.0 q (step-length c p h.0 h.1 e) h.2)
    where
      m : Planes
      m = h.0

      after : After W H Holds l m q → After W H Holds (c ∷ l) p q
      after r = record {
        lengths = r.lengths;
        covered = λ k i j v hj. by_last k i j v hj (dec-covered l i);
        others = λ k i j v hj. r.others k i j (λ x. v (inr x)) hj ∙ step-others c p m h.1 e k i j (λ x. v (inl x)) hj;
      }
        where
          by_last : (k : Colour) (i j : ℕ) → Covered (c ∷ l) i → j < W → Dec (Covered l i) → Holds k i j (get_or (q k) (i * W + j) 0)
          by_last k i j v hj (yes x) = r.covered k i j x hj
          by_last k i j (inl v) hj (no x) = subst (Holds k i j) (sym (r.others k i j x hj)) (step-covers c p m h.1 e k i j v hj)
          by_last k i j (inr v) hj (no x) = absurd (x v)
