-- Laws of conditions that are tested in their order. Assumes nothing.
use Prim.Native.Nat.{ℕ, zero, suc, ◌<◌}
use mathlib.Core.Path.{◌≡◌, refl, sym, ap, ◌∙◌}
use mathlib.Core.Bool.{Bool, true, false, cond, true≢false}
use mathlib.Core.List.{List, [], ◌∷◌, ◌++◌}
use native.Mathlib.Omega.{arith}
use Rattle.std.specs.Prelude.{Result, Ok, Err, ⊤}
use Rattle.std.specs.Result.{IsErr}
use Rattle.lists.specs.Every.{Every}
use Rattle.bayer.specs.declared.refusal.Refusal.{Refusal}
use Rattle.bayer.specs.declared.refusal.Refusal.TheVariants.{SizeOutOfRange, UnknownLayout, RowsOutsideFrame, WrongPieceLength, WrongPlaneLength, ReadingOutOfRange, RowMissing, MalformedFile, NotCameraPlanes, UnknownSmoothing, OverPreviewSize}
use Rattle.bayer.specs.Refusal.{number, answer_number, Case, first_of, held_after, Delivers}

pub number_positive : (r : Refusal) → 0 < number r
number_positive SizeOutOfRange = omega arith
number_positive UnknownLayout = omega arith
number_positive RowsOutsideFrame = omega arith
number_positive WrongPieceLength = omega arith
number_positive WrongPlaneLength = omega arith
number_positive ReadingOutOfRange = omega arith
number_positive RowMissing = omega arith
number_positive MalformedFile = omega arith
number_positive NotCameraPlanes = omega arith
number_positive UnknownSmoothing = omega arith
number_positive OverPreviewSize = omega arith

-- ---- lists of conditions, one after the other

-- the first of two numbers that is not 0
abbrev pub or_else : ℕ → ℕ → ℕ
or_else zero n = n
or_else (suc m) n = suc m

or-cond : (b : Bool) (k l m n : ℕ) → 0 < k → l ≡ or_else m n → cond b k l ≡ or_else (cond b k m) n
or-cond true zero l m n h e = absurd (let z : ⊥ = omega arith in z)
or-cond true (suc k) l m n h e = refl
or-cond false k l m n h e = e

or_right : {m : ℕ} (n : ℕ) → m ≡ 0 → or_else m n ≡ n
or_right n e = rw e

pub or_left : (m n : ℕ) → (m ≡ 0 → ⊥) → or_else m n ≡ m
or_left zero n h = absurd (h refl)
or_left (suc m) n h = refl

or_same : (k m n : ℕ) → (k ≡ 0 → m ≡ n) → or_else k m ≡ or_else k n
or_same zero m n h = h refl
or_same (suc k) m n h = refl

or-none : (m n : ℕ) → or_else m n ≡ 0 → (m ≡ 0) × (n ≡ 0)
or-none zero n e = (refl, e)
or-none (suc m) n e = absurd (omega arith)

-- the first list decides, and where none of it holds the second
pub first-append : (cs ds : List Case) → first_of (cs ++ ds) ≡ or_else (first_of cs) (first_of ds)
unfolding first_of
first-append [] ds = refl
first-append (c ∷ cs) ds = or-cond c.holds (number c.refusal) (first_of (cs ++ ds)) (first_of cs) (first_of ds) (number_positive c.refusal) (first-append cs ds)

-- where none of the first list holds, the second decides
pub later : (cs ds : List Case) → first_of cs ≡ 0 → first_of (cs ++ ds) ≡ first_of ds
later cs ds e = first-append cs ds ∙ or_right (first_of ds) e

-- where one of the first holds, it decides
pub sooner : (cs ds : List Case) → (first_of cs ≡ 0 → ⊥) → first_of (cs ++ ds) ≡ first_of cs
sooner cs ds h = first-append cs ds ∙ or_left (first_of cs) (first_of ds) h

-- conditions of which none holds where none of those before them does may be left out
pub skip : (cs ds es : List Case) → (first_of cs ≡ 0 → first_of ds ≡ 0) → first_of (cs ++ (ds ++ es)) ≡ first_of (cs ++ es)
skip cs ds es h = first-append cs (ds ++ es) ∙ or_same (first_of cs) (first_of (ds ++ es)) (first_of es) (λ e. later ds es (h e)) ∙ sym (first-append cs es)

-- ---- 0 says that no condition holds

abbrev pub Off : List Case → Type 0
Off [] = Unit {0}
Off (c ∷ cs) = (c.holds ≡ false) × Off cs

pub off : (cs : List Case) → first_of cs ≡ 0 → Off cs
unfolding first_of
off [] e = tt
off (c ∷ cs) e =
    let p : (c.holds ≡ false) × (first_of cs ≡ 0) = passed c.holds (number c.refusal) (first_of cs) (number_positive c.refusal) e in
    (p.0, off cs p.1)
  where
    passed : (b : Bool) (k n : ℕ) → 0 < k → cond b k n ≡ 0 → (b ≡ false) × (n ≡ 0)
    passed true k n h e = absurd (omega arith)
    passed false k n h e = (refl, e)

pub on : (cs : List Case) → Off cs → first_of cs ≡ 0
unfolding first_of
on [] h = refl
on (c ∷ cs) h = rw h.0 (on cs h.1)

-- of two lists, of neither
pub off-append : (cs ds : List Case) → first_of (cs ++ ds) ≡ 0 → (first_of cs ≡ 0) × (first_of ds ≡ 0)
off-append cs ds e = or-none (first_of cs) (first_of ds) (sym (first-append cs ds) ∙ e)

pub on-append : (cs ds : List Case) → first_of cs ≡ 0 → first_of ds ≡ 0 → first_of (cs ++ ds) ≡ 0
on-append cs ds e d = later cs ds e ∙ d

-- a number is not answered, where no condition of its refusal holds
pub never : (k : ℕ) → 0 < k → (cs : List Case) → Every (λ c. number c.refusal ≡ k → c.holds ≡ false) cs → first_of cs ≡ k → ⊥
unfolding first_of
never k h [] p e = omega arith
never k h (c ∷ cs) p e = by-test c.holds p.0 (never k h cs p.1) e
  where
    by-test : (b : Bool) → (number c.refusal ≡ k → b ≡ false) → (first_of cs ≡ k → ⊥) → cond b (number c.refusal) (first_of cs) ≡ k → ⊥
    by-test true q later e = true≢false (q e)
    by-test false q later e = later e

-- a refused call leaves what it was lent
pub refused-holds : (number : ℕ) (delivered lent : List ℕ) → (number ≡ 0 → ⊥) → held_after number delivered lent ≡ lent
unfolding held_after
refused-holds zero delivered lent h = absurd (h refl)
refused-holds (suc n) delivered lent h = refl

-- what an accepted call leaves
pub delivers : {number answer : ℕ} {delivered lent after : List ℕ} → Delivers number delivered lent answer after → answer ≡ 0 → after ≡ delivered
unfolding held_after
delivers {delivered = d} {lent = l} p e = p.held ∙ ap (λ k. held_after k d l) e

-- a call that is refused before it writes, and one that is accepted
pub refuses : {number answer : ℕ} {delivered lent : List ℕ} → answer ≡ number → (answer ≡ 0 → ⊥) → Delivers number delivered lent answer lent
refuses e h = record { answered = e; held = sym (refused-holds _ _ _ h) }

pub accepts : {number : ℕ} {delivered lent after : List ℕ} → 0 ≡ number → after ≡ delivered → Delivers number delivered lent 0 after
unfolding held_after
accepts e d = record { answered = e; held = d }

-- a call that hands on a refusal, by `?`
pub refused : {number : ℕ} {delivered lent : List ℕ} (answer : Result ⊤ Refusal) → IsErr answer → answer_number answer ≡ number → Delivers number delivered lent (answer_number answer) lent
refused (Ok done) h e = absurd (let z : ⊥ = cc in z)
refused (Err refusal) h e = refuses e (λ z. omega (arith, number_positive refusal))
