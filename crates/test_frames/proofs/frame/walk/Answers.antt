-- A turn makes one state and one reading more; at the end they are all there. Assumes nothing.
use Rattle.std.proofs.Common.{◌+◌, ◌≡◌, ap, arith, rules, sym, ◌∙◌}
use Rattle.std.proofs.lemmas.Grind.{common_steps}
use Rattle.lists.proofs.TableLaws.{table_of_entries}
use Rattle.test_frames.specs.Generator.{iterate, next, readings_after, state_after}
use Rattle.test_frames.proofs.IterateLaws.{iterate-next}
use Rattle.test_frames.proofs.frame.walk.Goals as goal

pub loop-sample-init : goal.loop-sample-init
unfolding iterate
loop-sample-init c = search rules

pub loop-sample-preserved : goal.loop-sample-preserved
loop-sample-preserved c =
    let new : c.step-state.result ≡ state_after c.args.state (c.loop-sample.sample-index + 1) = c.step-state.ensures ∙ ap next c.loop-sample.invariant.0 ∙ sym (iterate-next next _ _) in
    (new, grind (arith, common_steps))

pub returns : goal.returns
unfolding readings_after
returns c = table_of_entries 0 (omega arith) (λ t h. c.loop-sample.invariant.1 t (omega arith))
