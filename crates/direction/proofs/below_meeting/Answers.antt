-- While the parent of z does not have v in its subtree, it is still below the lowest common ancestor, and less deep.
use mathlib.Core.Path.{sym, ◌∙◌}
use Rattle.direction.proofs.Ascent.{ascending_start, ascending_inside, ascending_pair}
use Rattle.direction.proofs.Ascent.{ascending_less, ascending_step, ascending_end}
use Rattle.direction.proofs.below_meeting.Goals as goal

pub loop-u-init : goal.loop-u-init
loop-u-init c = ascending_start c.args.tree.now.tree.tree c.requires

pub get-p-requires : goal.get-p-requires
get-p-requires c = ascending_inside c.args.tree.now.tree.tree c.requires c.loop-u.invariant

pub in_subtree-requires : goal.in_subtree-requires
in_subtree-requires c = ascending_pair c.args.tree.now.tree.tree c.requires c.loop-u.invariant c.get-p.ensures.0

pub returns-then-in_subtree : goal.returns-then-in_subtree
returns-then-in_subtree c =
    ascending_end c.args.tree.now.tree.tree c.requires c.loop-u.invariant c.get-p.ensures.0
    (sym c.in_subtree.ensures ∙ c.if-in_subtree.true)

pub loop-u-smaller : goal.loop-u-smaller
loop-u-smaller c = ascending_less c.args.tree.now.tree.tree c.requires c.loop-u.invariant c.get-p.ensures.0

pub loop-u-preserved : goal.loop-u-preserved
loop-u-preserved c =
    ascending_step c.args.tree.now.tree.tree c.requires c.loop-u.invariant c.get-p.ensures.0
    (sym c.in_subtree.ensures ∙ c.if-in_subtree.false)
