-- The digits of a tenth of n, and then the last one. Assumes nothing.
use Rattle.std.proofs.Common.{◌≡◌, ◌+◌, ◌%◌, [], ◌∷◌, ◌++◌, length, append_assoc, ap, ◌∙◌, arith}
use native.Mathlib.Nat.{div-lt_self}
use Rattle.plane_text.proofs.DecimalLaws.{decimal-one, decimal-more, length-one, length_more}
use Rattle.plane_text.proofs.text.Text.+push_decimal.Goals as goal
use Rattle.plane_text.proofs.text.Text.+push_decimal.Goals.{then-n-ge10, else-n-ge10}

pub push_decimal-requires : goal.push_decimal-requires
push_decimal-requires t c = (
  omega (arith, div-lt_self {n = c.args.n} {k = 10} (omega arith) (omega arith)),
  omega (arith, length_more c.args.n c.if-n-ge10.true),
)

pub push-requires : goal.push-requires
push-requires t c =
    elim c.if-n-ge10.branch [
      | then-n-ge10 w ↦ omega (arith, length_more c.args.n w.if-n-ge10.true, ap length w.self-is)
      | else-n-ge10 w ↦ omega (arith, length-one c.args.n w.if-n-ge10.false, ap length w.self-is)
    ]

pub returns-clause-digits : goal.returns-clause-digits
returns-clause-digits t c =
    elim c.if-n-ge10.branch [
      | then-n-ge10 w ↦ rw (decimal-more c.args.n w.if-n-ge10.true) (c.push.ensures.byte ∙ ap (λ s. s ++ ((48 + c.args.n % 10) ∷ [])) (w.self-is ∙ w.push_decimal.ensures.digits) ∙ append_assoc c.args.self.now _ _)
      | else-n-ge10 w ↦
          let same : c.args.n % 10 ≡ c.args.n = omega (arith, w.if-n-ge10.false) in
          rw (decimal-one c.args.n w.if-n-ge10.false) (c.push.ensures.byte ∙ ap (λ s. s ++ ((48 + c.args.n % 10) ∷ [])) w.self-is ∙ ap (λ d. c.args.self.now ++ ((48 + d) ∷ [])) same)
    ]

pub returns-clause-length : goal.returns-clause-length
returns-clause-length t c =
    elim c.if-n-ge10.branch [
      | then-n-ge10 w ↦ omega (arith, length_more c.args.n w.if-n-ge10.true, ap length w.self-is)
      | else-n-ge10 w ↦ omega (arith, length-one c.args.n w.if-n-ge10.false, ap length w.self-is)
    ]
