-- The work list holds v's post number, and the rule's slope at that number is the edge's.
use mathlib.Core.Path.{◌∙◌}
use native.Mathlib.Omega.{arith}
use Rattle.table.proofs.NumberingLaws.{edge_number}
use Rattle.slopes.proofs.SlopeLaws.{edge_is}
use Rattle.slopes.proofs.edge_slope.Goals as goal

pub slope_at-requires : goal.slope_at-requires
slope_at-requires c =
    let number = edge_number c.args.tree.now.tree c.requires.0 c.requires.1 in
    (omega (arith, c.get.ensures.0), omega (arith, c.get.ensures.0), omega arith)

pub returns : goal.returns
returns c = edge_is _ _ _ _ (c.get.ensures.0 ∙ c.args.tree.now.tree.numbers.last _ c.requires.1) c.slope_at.ensures
