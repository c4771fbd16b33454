-- A refused table's refusal is the call's; an accepted one is numbered.
use Rattle.std.proofs.Common.{refl}
use Rattle.std.proofs.lemmas.Result.{err_from_is_err_and}
use Rattle.direction.proofs.Replies.{table_refused, table_few, table_accepted}
use Rattle.direction.proofs.direction.Goals as goal

pub accepted-requires : goal.accepted-requires
accepted-requires c =
    table_few c.args.tree.now.parent.now c.args.tree.now.rank.now c.args.rule c.args.from c.args.to
    c.limits.ensures c.in_ok-prepare.ensures refl

pub returns-in_err-prepare : goal.returns-in_err-prepare
returns-in_err-prepare c =
    let p = err_from_is_err_and c.from_residual.result c.from_residual.ensures.1 in
    rw (p.1, p.2) (table_refused c.args.tree.now.parent.now c.args.tree.now.rank.now c.args.rule c.args.from c.args.to
    c.limits.ensures c.in_err-prepare.ensures refl)

pub returns : goal.returns
returns c =
    table_accepted c.args.tree.now.parent.now c.args.tree.now.rank.now c.args.rule c.args.from c.args.to
    c.limits.ensures c.in_ok-prepare.ensures refl
    c.accepted.ensures
