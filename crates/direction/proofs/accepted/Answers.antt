-- Refusal 9, of either node; after it the heading is read off the numbers.
use Rattle.std.proofs.lemmas.Result.{err_from_is_err_and}
use Rattle.direction.proofs.Replies.{no_node, both_nodes, inside}
use Rattle.direction.proofs.accepted.Goals as goal

pub returns-in_err-test_pair : goal.returns-in_err-test_pair
returns-in_err-test_pair c =
    let p = err_from_is_err_and c.from_residual.result c.from_residual.ensures.1 in
    rw (p.1, p.2) (no_node c.args.tree.now.parent.now c.args.tree.now.rank.now c.args.rule c.args.u c.args.v
    c.in_err-test_pair.ensures)

pub heading_of-requires : goal.heading_of-requires
heading_of-requires c =
    let pair = inside _ _ _ c.in_ok-test_pair.ensures in
    (c.requires, record { first = pair.0; second = pair.1 })

pub returns : goal.returns
returns c =
    both_nodes c.args.tree.now.parent.now c.args.tree.now.rank.now c.args.rule c.args.u c.args.v
    c.in_ok-test_pair.ensures c.heading_of.ensures
