-- One store, of 1 or 0.
use mathlib.Core.Bool.{Bool}
use mathlib.Core.Path.{sym, ap, ◌∙◌}
use lib.ListN.{set}
use Rattle.holding.specs.Holding.{entry}
use Rattle.holding.proofs.mark.Goals as goal

pub returns-then-on : goal.returns-then-on
returns-then-on c =
    c.put.ensures ∙ ap (λ (b : Bool). set c.args.held.now c.args.v (entry b))
    (sym c.if-on.true)

pub returns-else-on : goal.returns-else-on
returns-else-on c =
    c.put-else-on.ensures ∙ ap (λ (b : Bool). set c.args.held.now c.args.v (entry b))
    (sym c.if-on.false)
