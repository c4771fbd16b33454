-- The position's row, in it the number that holds the slope, and in that its two bytes.
use borrow.Author.Rules.{rules}
use Rattle.slopes.proofs.TenLaws.{row_slope}
use Rattle.slopes.proofs.ten_at.Goals as goal

pub returns : goal.returns
returns c = row_slope c.row-row.result _ (search rules) c.row-row.ensures c.requires.0
