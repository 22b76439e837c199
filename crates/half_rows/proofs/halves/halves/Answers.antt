-- Of each half row, the first place, those that need no mirror, and the others. Assumes nothing.
use Rattle.std.proofs.Common.{◌≡◌, ◌+◌, ◌*◌, ℕ, refl, ap, arith, get_or}
use Rattle.half_rows.proofs.HalvesLaws.{half-row}
use Rattle.half_rows.proofs.halves.halves.Goals as goal

pub returns : goal.returns
returns c =
    let row = c.args.row.now in
    let same : (k : ℕ) → get_or row (2 * k) 0 ≡ get_or row (2 * k + 0) 0 = λ k. (let z : 2 * k ≡ 2 * k + 0 = omega arith in ap (λ i. get_or row i 0) z) in (
      half-row 0 row c.args.e.now (omega arith) c.requires.2 (omega arith) (omega (arith, c.edge.auto.e)) c.edge.ensures.0 c.split.ensures.0 same c.edge-2.ensures.0,
      half-row 1 row c.args.o.now (omega arith) c.requires.3 (omega arith) (omega (arith, c.edge.auto.o)) c.edge.ensures.1 c.split.ensures.1 (λ k. refl) c.edge-2.ensures.1,
    )
