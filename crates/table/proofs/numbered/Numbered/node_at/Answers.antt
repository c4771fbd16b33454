-- The order stands at 3n of the work list.
use Rattle.table.proofs.NumberingLaws.{numbered_node}
use Rattle.table.proofs.numbered.Numbered.node_at.Goals as goal

pub returns : goal.returns
returns c = numbered_node c.args.self.now.tree c.requires.0 c.requires.1 c.get.ensures.0
