-- Ranks decide to which side the sum of two slopes is turned, and of which nodes they are.
use Rattle.slopes.specs.Slopes.{edge}
use Rattle.direction.proofs.EdgeSlopes.{small-edge}
use Rattle.direction.proofs.Headings.{sideways_left, sideways_right}
use Rattle.direction.proofs.sideways_of.Goals as goal

pub turned-requires : goal.turned-requires
turned-requires c = (
  small-edge c.args.tree.now.tree.tree c.requires.0 _ c.requires.2.first c.requires.2.pair.first
      c.edge_slope-s.ensures,
  small-edge c.args.tree.now.tree.tree c.requires.0 _ c.requires.1.second c.requires.1.pair.second
      c.edge_slope-t.ensures,
)

pub returns-then-get : goal.returns-then-get
returns-then-get c =
    sideways_left c.args.tree.now.rank.now (edge c.args.tree.now.parent.now c.args.tree.now.rank.now c.args.rule)
    c.args.u c.args.v c.args.p c.args.q
    c.get.ensures.0 c.get-2.ensures.0 c.if-get.true
    c.edge_slope-s.ensures c.edge_slope-t.ensures c.turned.ensures

pub turned-requires-2 : goal.turned-requires-2
turned-requires-2 c = (
  small-edge c.args.tree.now.tree.tree c.requires.0 _ c.requires.2.second c.requires.2.pair.second
      c.edge_slope-s-2.ensures,
  small-edge c.args.tree.now.tree.tree c.requires.0 _ c.requires.1.first c.requires.1.pair.first
      c.edge_slope-t-2.ensures,
)

pub returns : goal.returns
returns c =
    sideways_right c.args.tree.now.rank.now (edge c.args.tree.now.parent.now c.args.tree.now.rank.now c.args.rule)
    c.args.u c.args.v c.args.p c.args.q
    c.get.ensures.0 c.get-2.ensures.0 c.if-get.false
    c.edge_slope-s-2.ensures c.edge_slope-t-2.ensures c.turned-2.ensures
