-- 9, then 10.
use Rattle.table.specs.Validity.{told}
use Rattle.stretching.proofs.Examining.{edge_9, edge_10, edge_all}
use Rattle.stretching.proofs.test_edge.Goals as goal

pub returns-then-n-lot : goal.returns-then-n-lot
returns-then-n-lot c = told c.at.ensures (edge_9 _ _ c.if-n-lot.true)

pub returns-then-lot-eq0 : goal.returns-then-lot-eq0
returns-then-lot-eq0 c = told c.at-then-lot-eq0.ensures (edge_10 _ _ c.if-n-lot.false c.if-lot-eq0.true)

pub returns : goal.returns
returns c = edge_all _ _ c.if-n-lot.false c.if-lot-eq0.false
