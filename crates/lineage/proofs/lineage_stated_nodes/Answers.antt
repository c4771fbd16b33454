-- The call's own contract.
use borrow.Author.Rules.{rules}
use Rattle.lineage.proofs.lineage_stated_nodes.Goals as goal

pub stated_nodes-requires : goal.stated_nodes-requires
stated_nodes-requires c = search rules

pub returns : goal.returns
returns c = c.stated_nodes.ensures
