-- The first list that is not n long decides.
use mathlib.Core.Path.{◌∙◌}
use borrow.Author.Tests.{eq-eqb, ne_eqb}
use Rattle.table.specs.Table.{all_long}
use Rattle.laws.specs.Tests.{first_fails, first_holds}
use Rattle.drawing.proofs.Drawing.all_long.Goals as goal

pub returns-then-self-n : goal.returns-then-self-n
unfolding all_long
returns-then-self-n c = first_fails _ (ne_eqb _ _ c.if-self-n.true)

pub returns-then-self-n-2 : goal.returns-then-self-n-2
unfolding all_long
returns-then-self-n-2 c = first_fails _ (ne_eqb _ _ c.if-self-n-2.true) ∙ first_holds _ (eq-eqb _ _ c.if-self-n.false)

pub returns : goal.returns
unfolding all_long
returns c =
    c.both_long.ensures ∙ first_holds _ (eq-eqb _ _ c.if-self-n-2.false)
    ∙ first_holds _ (eq-eqb _ _ c.if-self-n.false)
