-- The lengthens before the i-th are made, and none of them is refused.
use Rattle.std.specs.Iterator.Adapters.{enumerate_count, enumerate_source, zip_first, zip_second}
use Rattle.std.specs.Slice.Iter.{iter_rest}
use Rattle.drawing.specs.Drawing.{sheet_of}
use Rattle.drawing.specs.Lists.{written, SameLists}
use Rattle.arranging.proofs.Turns.{Turning}
use Rattle.arranging.proofs.lengthen_in_turn.Given as goal

abbrev pub invariant-loop-i : goal.invariant-loop-i
invariant-loop-i l =
    let pairs = enumerate_source l.i-iterator in
    Turning l.limits l.tree.parent.now l.tree.rank.now l.rule l.tree.work.now
    (sheet_of (written l.initial.drawing) l.held) l.lots l.counts
    (sheet_of (written l.drawing) l.held) (enumerate_count l.i-iterator)
    (iter_rest (zip_first pairs)) (iter_rest (zip_second pairs))
    × SameLists l.initial.drawing l.drawing
