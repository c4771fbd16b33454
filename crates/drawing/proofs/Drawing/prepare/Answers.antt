-- The table's own refusals, with the lists of the sheet among those that are lent.
use Rattle.drawing.specs.Drawing.{sheet_of}
use Rattle.drawing.specs.Lists.{read}
use Rattle.drawing.proofs.Settling.{prepared}
use Rattle.drawing.proofs.Drawing.prepare.Goals as goal

pub returns : goal.returns
returns c =
    prepared c.args.tree.now.parent.now (sheet_of (read c.args.self.now) c.args.held.now) c.all_long-long.ensures
    c.prepare.ensures
