-- No node below v has a place beyond the limit.
use Rattle.std.proofs.Common.{⊎_elim, sym, ap, arith, below_more, below_none}
use Rattle.laws.specs.Refusals.{refuse_least_all, refuse_least_yes}
use Rattle.laws.specs.SearchLaws.{least_is}
use Rattle.table.specs.Acceptance.{validity}
use Rattle.table.specs.Validity.{told}
use Rattle.table.proofs.Validation.{validity_of}
use Rattle.monotone.proofs.Places.{beyond_across, beyond_up, within}
use Rattle.monotone.proofs.test_places.Goals as goal

pub loop-v-init : goal.loop-v-init
loop-v-init c = below_none _

pub returns-then-most-across : goal.returns-then-most-across
returns-then-most-across c =
    let far = ⊎_elim (λ wide. beyond_across c.args.limits.place _ _ _ (omega (arith, c.get-across.ensures.0)))
    (λ tall. beyond_up c.args.limits.place _ _ _ (omega (arith, c.get-up.ensures.0, tall.1))) c.then-most-across.either in
    told c.at.ensures (validity_of (refuse_least_yes _ _ _ _ (least_is _ _ _ (omega arith) c.loop-v.invariant (λ l. far))
    (omega arith)))

pub loop-v-preserved : goal.loop-v-preserved
loop-v-preserved c = below_more _ _ c.loop-v.invariant (within _ _ _ _ (omega arith) (omega arith))

pub returns : goal.returns
unfolding validity
returns c = sym (ap validity (refuse_least_all _ _ _ (λ k l. c.loop-v.invariant k (omega arith))))
