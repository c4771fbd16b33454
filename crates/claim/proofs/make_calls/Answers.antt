-- What is left are the calls of the steps from the next one on.
use mathlib.Core.Path.{refl, ◌∙◌}
use Rattle.claim.proofs.Replaying.{rest_more, rest_none}
use Rattle.claim.proofs.make_calls.Goals as goal

pub loop-step-init : goal.loop-step-init
loop-step-init c = (refl, (refl, refl, refl))

pub loop-step-preserved : goal.loop-step-preserved
loop-step-preserved c =
    let before = c.loop-step.invariant.1 in
    let here = c.make_call.ensures.lists in (
      rest_more _ _ _ _ _ _ _ _ c.loop-step-test.true c.loop-step.auto.work c.make_call.ensures.made
          ∙ c.loop-step.invariant.0,
      (here.0 ∙ before.0, here.1 ∙ before.1, here.2 ∙ before.2),
    )

pub returns : goal.returns
returns c = record {
  made = rest_none _ _ _ _ _ _ _ c.loop-step-test.false ∙ c.loop-step.invariant.0;
  lists = c.loop-step.invariant.1;
}
