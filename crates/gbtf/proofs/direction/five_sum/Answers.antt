-- No step wraps, and a term whose sign is turned is subtracted. Assumes nothing.
use Rattle.std.proofs.Common.{◌≡◌, ◌≤◌, ◌<◌, ◌∙◌, ℕ, ℤ, pos, neg_ℤ, nat_abs, ◌+ℤ◌, ◌*ℤ◌, ap, arith, get_or, to_z, of_z}
use lib.Signed.{mag}
use mir.Syntax.{w16, w32}
use Rattle.std.proofs.lemmas.Int.{to_z-of_z}
use Rattle.whole.proofs.Pairs.{anyₚ, negₚ, ◌*ₚ◌, eq-by}
use Rattle.whole.proofs.Signed.{E, int, ◌⊕◌, ◌⊖◌, asked, value}
use Rattle.gbtf.proofs.direction.five_sum.Goals as goal

abbrev leaf : (z : ℤ) → nat_abs z ≤ 8355840 → E w32
leaf z h = int z 8355840 h

-- what `weighted` was handed is what was read
term : (w : ℕ) (d : ℤ) {r : ℤ} → r ≡ pos w *ℤ to_z w16 (of_z w16 d) → mag d < 32768 → r ≡ pos w *ℤ d
term w d e h = e ∙ ap (λ z. pos w *ℤ z) (to_z-of_z w16 d (record { sfits = h }))

-- and with its sign turned
turned-term : (w : ℕ) (d : ℤ) {r : ℤ} → r ≡ pos w *ℤ to_z w16 (of_z w16 d) → mag d < 32768 → neg_ℤ r ≡ pos w *ℤ neg_ℤ d
turned-term w d e h = ap neg_ℤ (term w d e h) ∙ eq-by (negₚ (w *ₚ anyₚ d)) (w *ₚ negₚ (anyₚ d)) (omega arith)

sum : {a b c d e a' b' c' d' e' : ℤ} → a ≡ a' → b ≡ b' → c ≡ c' → d ≡ d' → e ≡ e' → a +ℤ b +ℤ c +ℤ d +ℤ e ≡ a' +ℤ b' +ℤ c' +ℤ d' +ℤ e'
sum p q r s t = rw (p, q, r, s, t)

pub overflow_add-result : goal.overflow_add-result
overflow_add-result c = asked (leaf c.weighted.result c.weighted.ensures.1 ⊖ leaf c.weighted-2.result c.weighted-2.ensures.1 ⊕ leaf c.weighted-3.result c.weighted-3.ensures.1) tt

pub overflow_sub-result-2 : goal.overflow_sub-result-2
overflow_sub-result-2 c =
    asked
    (leaf c.weighted.result c.weighted.ensures.1 ⊖ leaf c.weighted-2.result c.weighted-2.ensures.1 ⊕ leaf c.weighted-3.result c.weighted-3.ensures.1 ⊖ leaf c.weighted-4.result c.weighted-4.ensures.1)
    tt

abbrev five : goal.After-weighted-5 → E w32
five c =
    leaf c.weighted.result c.weighted.ensures.1 ⊖ leaf c.weighted-2.result c.weighted-2.ensures.1 ⊕ leaf c.weighted-3.result c.weighted-3.ensures.1 ⊖ leaf c.weighted-4.result c.weighted-4.ensures.1
    ⊕ leaf c.weighted-5.result c.weighted-5.ensures.1

pub overflow_add-result-2 : goal.overflow_add-result-2
overflow_add-result-2 c = asked (five c) tt

pub returns : goal.returns
returns c =
    let w = c.args.weights in
    let d = c.args.d in
    value (five c) tt
    ∙ sum
    (term (get_or w 0 0) (get_or d 0 (pos 0)) c.weighted.ensures.0 (omega arith))
    (turned-term (get_or w 1 0) (get_or d 1 (pos 0)) c.weighted-2.ensures.0 (omega arith))
    (term (get_or w 2 0) (get_or d 2 (pos 0)) c.weighted-3.ensures.0 (omega arith))
    (turned-term (get_or w 3 0) (get_or d 3 (pos 0)) c.weighted-4.ensures.0 (omega arith))
    (term (get_or w 4 0) (get_or d 4 (pos 0)) c.weighted-5.ensures.0 (omega arith))
