-- The first length that differs decides.
use mathlib.Core.Bool.{and-true}
use mathlib.Core.Path.{sym, ◌∙◌}
use borrow.Author.Tests.{eq-eqb, ne_eqb}
use Rattle.laws.specs.Tests.{first_fails, first_holds}
use Rattle.table.specs.Table.{all_long}
use Rattle.table.proofs.both_long.Goals as goal

pub returns-then-a-n : goal.returns-then-a-n
unfolding all_long
returns-then-a-n c = first_fails _ (ne_eqb _ _ c.if-a-n.true)

pub returns : goal.returns
unfolding all_long
returns c = sym (and-true _) ∙ first_holds _ (eq-eqb _ _ c.if-a-n.false)
