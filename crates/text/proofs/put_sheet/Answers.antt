-- The title, then the lines.
use Rattle.std.proofs.Common.{rules}
use Rattle.text.proofs.Listing.{lines_room, sheet_put}
use Rattle.text.proofs.put_sheet.Goals as goal

pub lines-requires : goal.lines-requires
lines-requires c = lines_room c.requires c.title.ensures.text

pub returns : goal.returns
returns c =
    let whole = sheet_put _ _ c.title.ensures c.lines.ensures in
    search (rules, whole)
