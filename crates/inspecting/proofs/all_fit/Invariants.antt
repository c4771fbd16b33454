-- Every node with a number from j on fits.
use Rattle.std.proofs.Common.{◌-◌}
use Rattle.slopes.proofs.Backward.{Backward}
use Rattle.drawing.specs.Lists.{read}
use Rattle.inspecting.proofs.Fitting.{FitAbove}
use Rattle.inspecting.proofs.all_fit.Given as goal

abbrev pub invariant-loop-j : goal.invariant-loop-j
invariant-loop-j l =
    Backward l.tree.parent.now l.tree.rank.now l.rule l.tree.work.now (l.j - 1) l.here l.after
    × FitAbove l.limit l.tree.parent.now l.tree.rank.now l.rule (read l.drawing) (l.j - 1)
