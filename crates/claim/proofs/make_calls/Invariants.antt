-- What is left are the calls of the steps from the next one on.
use mathlib.Core.Path.{◌≡◌}
use lib.ListN.{length, drop}
use Rattle.table.specs.Table.{large}
use Rattle.drawing.specs.Drawing.{sheet_of}
use Rattle.drawing.specs.Lists.{written, SameLists}
use Rattle.claim.specs.Claim.{run}
use Rattle.claim.specs.Replay.{calls_of}
use Rattle.claim.proofs.make_calls.Given as goal

abbrev pub invariant-loop-step : goal.invariant-loop-step
invariant-loop-step l =
    let work = length l.initial.work in
    let start = sheet_of (written l.initial.drawing) l.initial.held in
    let now = sheet_of (written l.drawing) l.held in
    (run large l.tree.parent.now l.tree.rank.now l.rule now (calls_of (drop l.step-index l.steps) work)
    ≡ run large l.tree.parent.now l.tree.rank.now l.rule start (calls_of l.steps work))
    × SameLists l.initial.drawing l.drawing
