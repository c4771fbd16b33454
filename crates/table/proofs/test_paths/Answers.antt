-- The nodes below v lead to node 0.
use Rattle.table.proofs.Marks.{drifting_start, drifting_found, drifting_reaches, drifting_step}
use Rattle.table.proofs.Marks.{drifting_end}
use Rattle.std.proofs.Common.{refl, sym, ap, arith}
use Rattle.table.specs.Acceptance.{validity}
use Rattle.table.specs.Validity.{told}
use Rattle.table.proofs.Validation.{validity_of}
use Rattle.table.proofs.test_paths.Goals as goal

pub loop-v-init : goal.loop-v-init
loop-v-init c = drifting_start c.requires.0 c.requires.1 c.requires.2

pub steps-requires : goal.steps-requires
steps-requires c = (c.loop-v.invariant.scratch, c.loop-v-test.true)

pub returns-in_default : goal.returns-in_default
returns-in_default c = (
  told c.at.ensures (validity_of (drifting_found c.loop-v.invariant c.loop-v.auto.v c.loop-v-test.true refl
      (omega (arith, c.in_default.ensures)))),
  c.loop-v.invariant.kept,
)

pub mark-requires : goal.mark-requires
mark-requires c =
    drifting_reaches c.loop-v.invariant c.loop-v.auto.v c.loop-v-test.true c.in-Some.ensures.1
    (omega (arith, c.in-Some.ensures.0))

pub loop-v-preserved : goal.loop-v-preserved
loop-v-preserved c =
    drifting_step c.loop-v.invariant c.loop-v.auto.v c.loop-v-test.true c.in-Some.ensures.1
    (c.mark.ensures.marking, c.mark.ensures.only)

pub returns : goal.returns
unfolding validity
returns c = (
  sym (ap validity (drifting_end c.loop-v.invariant c.loop-v-test.false)),
  c.loop-v.invariant.kept,
)
