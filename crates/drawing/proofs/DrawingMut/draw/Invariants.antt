-- The nodes with numbers from j on are drawn.
use Rattle.std.proofs.Common.{◌-◌}
use Rattle.slopes.proofs.Backward.{Backward}
use Rattle.drawing.specs.Lists.{written, SameLists}
use Rattle.drawing.proofs.Laying.{Laying}
use Rattle.drawing.proofs.DrawingMut.draw.Given as goal

abbrev pub invariant-loop-j : goal.invariant-loop-j
invariant-loop-j l =
    Backward l.tree.parent.now l.tree.rank.now l.rule l.tree.work.now (l.j - 1) l.here l.after
    × Laying l.tree.parent.now l.tree.rank.now l.rule (written l.self) (l.j - 1)
    × SameLists l.initial.self l.self
