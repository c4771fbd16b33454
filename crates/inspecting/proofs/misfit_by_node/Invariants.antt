-- Every node below v fits.
use Rattle.drawing.specs.Lists.{read}
use Rattle.inspecting.proofs.Fitting.{FitBelow}
use Rattle.inspecting.proofs.misfit_by_node.Given as goal

abbrev pub invariant-loop-v : goal.invariant-loop-v
invariant-loop-v l = FitBelow l.limit l.tree.parent.now l.tree.rank.now l.rule (read l.drawing) l.v
