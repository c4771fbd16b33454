-- The root first, then the rest by `structure`.
use mathlib.Core.Path.{◌∙◌}
use Rattle.table.proofs.Validation.{structured_4}
use Rattle.table.proofs.tree.Tree.test_tree.Goals as goal

pub returns-then-get-ne0 : goal.returns-then-get-ne0
returns-then-get-ne0 c = rw c.at.ensures (structured_4 (λ e _. c.if-get-ne0.true (c.get.ensures.0 ∙ e)))

pub returns-then-get-ne0-2 : goal.returns-then-get-ne0-2
returns-then-get-ne0-2 c =
    rw c.at-then-get-ne0-2.ensures (structured_4 (λ _ e. c.if-get-ne0-2.true (c.get-2.ensures.0 ∙ e)))
