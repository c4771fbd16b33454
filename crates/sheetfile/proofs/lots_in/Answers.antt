-- By the length alone.
use Rattle.std.proofs.Common.{rules}
use Rattle.sheetfile.specs.SheetFile.{lots_in}
use Rattle.sheetfile.proofs.lots_in.Goals as goal

pub returns : goal.returns
unfolding lots_in
returns c = search rules
