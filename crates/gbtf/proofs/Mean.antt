-- The distance of N/S, the mean by floored shares, from E/P, the mean by 1/t². Induction over the directions, for any number of them. Assumes nothing.
use mathlib.Core.Path.{◌≡◌, refl, sym, ◌∙◌, ap}
use mathlib.Core.List.{List, [], ◌∷◌}
use Prim.Native.Nat.{ℕ, suc, ◌+◌, ◌*◌, ◌/◌, ◌%◌, ◌≤◌, ◌<◌, min}
use native.Mathlib.Nat.{mul-pos, mul-le-mul_left, le_of_mul-le-mul_left, div-add-mod', mod-lt, mul-mod_left, mul-div_cancel}
use native.Mathlib.Decide.{dec_le}
use native.Mathlib.Omega.{arith}
use lib.ListN.{length}
use Rattle.whole.proofs.FractionLaws.{both}
use Rattle.lists.specs.Every.{Every}
use Rattle.lists.proofs.EveryLaws.{every}
use Rattle.gbtf.specs.declared.direction.Direction.{Direction}
use Rattle.gbtf.specs.Direction.{guarded_sum}
use Rattle.gbtf.specs.Fusion.{smallest_sum, share, shares}

abbrev pub square : Direction → ℕ
square d = guarded_sum d * guarded_sum d

square-pos : (d : Direction) → 0 < square d
square-pos d = mul-pos (omega arith) (omega arith)

-- Π t²; Σ f Π/t²; Σ q f; how many shares are not exact
unfoldable pub prod : List Direction → ℕ
prod [] = 1
prod (d ∷ l) = square d * prod l

unfoldable pub mixed : (Direction → ℕ) → List Direction → ℕ
mixed f [] = 0
mixed f (d ∷ l) = f d * prod l + mixed f l * square d

unfoldable pub shared : ℕ → (Direction → ℕ) → List Direction → ℕ
shared M f [] = 0
shared M f (d ∷ l) = M / square d * f d + shared M f l

unfoldable pub loose : ℕ → List Direction → ℕ
loose M [] = 0
loose M (d ∷ l) = min 1 (M % square d) + loose M l

unfoldable pub one : Direction → ℕ
one d = 1

pub prod-pos : (l : List Direction) → 0 < prod l
unfolding prod
prod-pos [] = omega arith
prod-pos (d ∷ l) = mul-pos (square-pos d) (prod-pos l)

-- ---- linear in f

pub mixed-linear : (f : Direction → ℕ) (Y X : ℕ) (l : List Direction) → mixed (λ d. f d * Y + X) l ≡ mixed f l * Y + X * mixed one l
unfolding mixed one
mixed-linear f Y X [] = omega arith
mixed-linear f Y X (d ∷ l) = ap (λ n. (f d * Y + X) * prod l + n * square d) (mixed-linear f Y X l) ∙ ring (f d) Y X (prod l) (square d) (mixed f l) (mixed one l)
  where
    ring : (a Y X p s m o : ℕ) → (a * Y + X) * p + (m * Y + X * o) * s ≡ (a * p + m * s) * Y + X * (1 * p + o * s)
    ring a Y X p s m o = omega arith

pub shared-linear : (M : ℕ) (f : Direction → ℕ) (Y X : ℕ) (l : List Direction) → shared M (λ d. f d * Y + X) l ≡ shared M f l * Y + X * shared M one l
unfolding shared one
shared-linear M f Y X [] = omega arith
shared-linear M f Y X (d ∷ l) = ap (λ n. M / square d * (f d * Y + X) + n) (shared-linear M f Y X l) ∙ ring (f d) Y X (M / square d) (shared M f l) (shared M one l)
  where
    ring : (a Y X q m o : ℕ) → q * (a * Y + X) + (m * Y + X * o) ≡ (q * a + m) * Y + X * (q * 1 + o)
    ring a Y X q m o = omega arith

pub mixed-bound : (f : Direction → ℕ) (B : ℕ) (l : List Direction) → Every (λ d. f d ≤ B) l → mixed f l ≤ B * mixed one l
unfolding mixed one
mixed-bound f B [] h = omega arith
mixed-bound f B (d ∷ l) h = step (f d) B (prod l) (square d) (mixed f l) (mixed one l) h.0 (mixed-bound f B l h.1)
  where
    step : (a B p s m o : ℕ) → a ≤ B → m ≤ B * o → a * p + m * s ≤ B * (1 * p + o * s)
    step a B p s m o h k = omega (arith, mul-le-mul_left p h, mul-le-mul_left s k)

-- ---- the distance, before the division

-- what one direction adds: M = q w + r, and r is 0 where e is
near-head : (M w p f g q r D e : ℕ) → M ≡ q * w + r → r ≤ e * w → f ≤ g + D → M * (f * p) + (w * p) * (q * g) ≤ M * (g * p) + (w * p) * (q * f) + (D * e) * (w * p)
near-head M w p f g q r D e h k l = lift (omega (arith, mul-le-mul_left r l, mul-le-mul_left D k))
  where
    lift : r * f ≤ r * g + D * (e * w) → M * (f * p) + (w * p) * (q * g) ≤ M * (g * p) + (w * p) * (q * f) + (D * e) * (w * p)
    lift i = omega (arith, mul-le-mul_left p i, ap (λ n. n * (f * p)) h, ap (λ n. n * (g * p)) h)

step_left : (M w p f g q mf sg : ℕ) → (M * (f * p) + (w * p) * (q * g)) + w * (M * mf + p * sg) ≡ M * (f * p + mf * w) + (w * p) * (q * g + sg)
step_left M w p f g q mf sg = omega arith

step_right : (M w p f g q D e C mg sf : ℕ) → (M * (g * p) + (w * p) * (q * f) + (D * e) * (w * p)) + w * (M * mg + p * sf + (D * C) * p) ≡ M * (g * p + mg * w) + (w * p) * (q * f + sf) + (D * (e + C)) * (w * p)
step_right M w p f g q D e C mg sf = omega arith

loose-is : (r w : ℕ) → r < w → r ≤ min 1 r * w
loose-is r w h = go (dec_le 1 r)
  where
    go : Dec (1 ≤ r) → r ≤ min 1 r * w
    go (yes k) = let e : min 1 r ≡ 1 = omega arith in rw e (omega arith)
    go (no k) = omega arith

pub near : (M : ℕ) (f g : Direction → ℕ) (D : ℕ) (l : List Direction) → Every (λ d. f d ≤ g d + D) l → M * mixed f l + prod l * shared M g l ≤ M * mixed g l + prod l * shared M f l + (D * loose M l) * prod l
unfolding mixed shared loose prod
near M f g D [] h = omega arith
near M f g D (d ∷ l) h =
    let w = square d in
    let q = M / square d in
    let e = min 1 (M % square d) in
    both
    (near-head M w (prod l) (f d) (g d) q (M % w) D e (sym (div-add-mod' M w)) (loose-is (M % w) w (mod-lt M (square-pos d))) h.0)
    (mul-le-mul_left w (near M f g D l h.1))
    (step_left M w (prod l) (f d) (g d) q (mixed f l) (shared M g l))
    (step_right M w (prod l) (f d) (g d) q D e (loose M l) (mixed g l) (shared M f l))

-- ---- the distance of the two means, times S and P: the shares' mean of a − b against the exact one

cancel : (M p mf mg sf sg R : ℕ) → mf ≡ mg → M * mf + p * sg ≤ M * mg + p * sf + R * p → 0 < p → sg ≤ sf + R
cancel M p mf mg sf sg R e h k = le_of_mul-le-mul_left {k = p} (omega (arith, ap (λ n. M * n) e)) k

pub means : (M B : ℕ) (a b : Direction → ℕ) (l : List Direction) → Every (λ d. a d ≤ B) l → Every (λ d. b d ≤ B) l
    → shared M b l * mixed one l + mixed a l * shared M one l ≤ shared M a l * mixed one l + mixed b l * shared M one l + (2 * B * mixed one l) * loose M l
means M B a b l ha hb =
    rw (shared-linear M b P Ea l, shared-linear M a P Eb l) at (cancel M (prod l) (mixed f l) (mixed g l) (shared M f l) (shared M g l) ((2 * B * P) * loose M l) same (near M f g (2 * B * P) l (spread l ha)) (prod-pos l))
  where
    P : ℕ
    P = mixed one l

    Ea : ℕ
    Ea = mixed a l

    Eb : ℕ
    Eb = mixed b l

    f : Direction → ℕ
    f d = a d * P + Eb

    g : Direction → ℕ
    g d = b d * P + Ea

    same : mixed f l ≡ mixed g l
    same = mixed-linear a P Eb l ∙ (omega arith) ∙ sym (mixed-linear b P Ea l)

    spread : (k : List Direction) → Every (λ d. a d ≤ B) k → Every (λ d. f d ≤ g d + 2 * B * P) k
    spread k h = every (λ d i. omega (arith, mul-le-mul_left P i, mixed-bound b B l hb)) k h

-- ---- a direction with t = m has an exact share, K

pub data Attained (m : ℕ) : List Direction → Type 0 where
  here : {d : Direction} {l : List Direction} → guarded_sum d ≡ m → Attained m (d ∷ l)
  there : {d : Direction} {l : List Direction} → Attained m l → Attained m (d ∷ l)

pub attained : (d : Direction) (l : List Direction) → Attained (smallest_sum d l) (d ∷ l)
attained d [] = here refl
attained d (e ∷ l) = go (dec_le (guarded_sum d) (smallest_sum e l)) (attained e l)
  where
    go : Dec (guarded_sum d ≤ smallest_sum e l) → Attained (smallest_sum e l) (e ∷ l) → Attained (min (guarded_sum d) (smallest_sum e l)) (d ∷ e ∷ l)
    go (yes h) r = let q : guarded_sum d ≡ min (guarded_sum d) (smallest_sum e l) = omega arith in here q
    go (no h) r = there (let q : min (guarded_sum d) (smallest_sum e l) ≡ smallest_sum e l = omega arith in rw (← q) at r)

pub loose-length : (M : ℕ) (l : List Direction) → loose M l ≤ length l
unfolding loose
loose-length M [] = omega arith
loose-length M (d ∷ l) = omega (arith, loose-length M l)

pub loose-less : (K : ℕ) {m : ℕ} {l : List Direction} → Attained m l → suc (loose (K * (m * m)) l) ≤ length l
unfolding loose
loose-less K {m} (here {d = d} {l = l} e) = let z : K * (m * m) % square d ≡ 0 = rw e (mul-mod_left K (m * m)) in rw z (omega (arith, loose-length (K * (m * m)) l))
loose-less K (there {d = d} {l = l} h) = omega (arith, loose-less K h)

pub least-pos : (d : Direction) (l : List Direction) → 0 < smallest_sum d l
least-pos d [] = omega arith
least-pos d (e ∷ l) = omega (arith, least-pos e l)

pub shares-least : (K : ℕ) {m : ℕ} {l : List Direction} → 0 < m → Attained m l → K ≤ shares K m l
shares-least K {m} p (here {d = d} {l = l} e) = let z : share K m (guarded_sum d) ≡ K = rw e (mul-div_cancel K (mul-pos p p)) in omega arith
shares-least K p (there {d = d} {l = l} h) = omega (arith, shares-least K p h)
