-- One node may be in the other's subtree; otherwise both climb to the children of their lowest common ancestor.
use mathlib.Core.Path.{sym, ◌∙◌}
use Rattle.slopes.specs.Slopes.{edge}
use Rattle.direction.proofs.Headings.{pair_back, heading_down, heading_up, side_edges, heading_side}
use Rattle.direction.proofs.heading_of.Goals as goal

pub returns-then-in_subtree : goal.returns-then-in_subtree
returns-then-in_subtree c =
    heading_down c.args.tree.now.tree.tree c.requires.1 c.in_subtree.ensures
    (edge c.args.tree.now.parent.now c.args.tree.now.rank.now c.args.rule) c.if-in_subtree.true

pub returns-then-in_subtree-2 : goal.returns-then-in_subtree-2
returns-then-in_subtree-2 c =
    heading_up c.args.tree.now.tree.tree c.requires.1 c.in_subtree.ensures c.if-in_subtree.false
    c.in_subtree-2.ensures (edge c.args.tree.now.parent.now c.args.tree.now.rank.now c.args.rule)
    c.if-in_subtree-2.true

pub below_meeting-p-requires : goal.below_meeting-p-requires
below_meeting-p-requires c =
    let not_over = sym c.in_subtree.ensures ∙ c.if-in_subtree.false in
    record { pair = c.requires.1; not_over = not_over }

pub below_meeting-q-requires : goal.below_meeting-q-requires
below_meeting-q-requires c =
    let not_over = sym c.in_subtree-2.ensures ∙ c.if-in_subtree-2.false in
    record { pair = pair_back c.requires.1; not_over = not_over }

pub sideways_of-requires : goal.sideways_of-requires
sideways_of-requires c =
    let edges =
    side_edges c.args.tree.now.tree.tree c.requires.1 c.in_subtree.ensures
    c.if-in_subtree.false c.in_subtree-2.ensures c.if-in_subtree-2.false
    c.below_meeting-p.ensures c.below_meeting-q.ensures in
    (c.requires.0, edges.0, edges.1)

pub returns : goal.returns
returns c =
    heading_side c.args.tree.now.tree.tree c.requires.1 c.in_subtree.ensures c.if-in_subtree.false
    c.in_subtree-2.ensures c.if-in_subtree-2.false c.below_meeting-p.ensures
    c.below_meeting-q.ensures (edge c.args.tree.now.parent.now c.args.tree.now.rank.now
    c.args.rule) c.sideways_of.ensures
