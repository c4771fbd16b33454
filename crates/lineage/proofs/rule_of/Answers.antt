-- By cases on the bool.
use mathlib.Core.Path.{sym, ap}
use Rattle.lineage.specs.Exports.{rule_of}
use Rattle.lineage.proofs.rule_of.Goals as goal

pub returns-then-balanced : goal.returns-then-balanced
unfolding rule_of
returns-then-balanced c = ap rule_of (sym c.if-balanced.true)

pub returns-else-balanced : goal.returns-else-balanced
unfolding rule_of
returns-else-balanced c = ap rule_of (sym c.if-balanced.false)
