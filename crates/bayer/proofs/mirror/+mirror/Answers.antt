-- From the end on it reads what the reflected position reads, which is nearer. Assumes nothing.
use Rattle.std.proofs.Common.{◌≡◌, ℕ, sym, ◌∙◌, ◌-◌, arith}
use Rattle.std.proofs.Math.IntN.{nat_abs, sub_ℕ}
use Rattle.std.specs.Int.{abs_diff}
use Rattle.whole.proofs.Pairs.{subₚ, abs-by}
use Rattle.bayer.proofs.MirrorLaws.{mirror-few, reads-distance, reflection-reads}
use Rattle.bayer.proofs.mirror.+mirror.Goals as goal

pub returns-then-size-lt2 : goal.returns-then-size-lt2
returns-then-size-lt2 t c = sym (mirror-few c.args.size _ (omega arith))

distance : {p : ℕ} (at lead : ℕ) → p ≡ abs_diff at lead → p ≡ nat_abs (sub_ℕ at lead)
distance at lead e = e ∙ sym (abs-by (subₚ at lead))

pub returns-then-p-size : goal.returns-then-p-size
returns-then-p-size t c =
    let a = c.args in
    reads-distance a.size (omega arith) c.abs_diff-p.result (sub_ℕ a.at a.lead) (distance a.at a.lead c.abs_diff-p.ensures) (omega arith)

pub returns : goal.returns
returns t c =
    let a = c.args in let p = c.abs_diff-p.result in
    reflection-reads a.size (omega arith) p (sub_ℕ a.at a.lead) (distance a.at a.lead c.abs_diff-p.ensures) _ (p - (a.size - 1)) (omega arith) (omega arith) c.mirror.ensures
