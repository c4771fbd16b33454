-- Every pair before the loops' place has a direction; the first cone that is 2 is that of the first pair that has none.
use mathlib.Core.Path.{sym, ◌∙◌}
use native.Mathlib.Omega.{arith}
use Rattle.laws.specs.Regions.{only_trans}
use Rattle.monotone.proofs.Deciding.{passed_row, first_turn}
use Rattle.monotone.proofs.pairs.Goals as goal

pub pairs-preserved : goal.pairs-preserved
pairs-preserved c =
    record {
      only = (only_trans c.pairs.invariant.only c.cones.ensures.only);
      passed = passed_row c.requires.0.tree c.pairs-test.true c.pairs.invariant.only c.cones.ensures
          c.pairs.invariant.passed c.loop-v.invariant.0 (omega arith);
      still = c.loop-v.invariant.1;
    }

pub returns-then-get-eq-SHUT : goal.returns-then-get-eq-SHUT
returns-then-get-eq-SHUT c =
    first_turn c.requires.0.tree c.pairs-test.true c.pairs.invariant.only c.cones.ensures
    c.pairs.invariant.passed c.loop-v.invariant.0 (omega arith) c.loop-v-test.true
    (sym c.get.ensures.0 ∙ c.if-get-eq-SHUT.true)
