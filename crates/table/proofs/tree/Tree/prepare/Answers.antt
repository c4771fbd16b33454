-- A refused table is left; an accepted one is ready to be numbered.
use Rattle.std.proofs.Common.{refl, arith}
use Rattle.std.proofs.lemmas.Result.{err_from_is_err_and}
use Rattle.table.specs.Parts.{ready}
use Rattle.table.proofs.Validation.{prepared_refused, prepared_accepted}
use Rattle.table.proofs.tree.Tree.prepare.Goals as goal

pub returns-in_err-validate : goal.returns-in_err-validate
returns-in_err-validate c =
    let p = err_from_is_err_and c.from_residual.result c.from_residual.ensures.1 in
    rw (p.1, p.2) (prepared_refused _ _ _ c.in_err-validate.ensures refl)

pub number-requires : goal.number-requires
number-requires c = ready c.in_ok-validate.ensures (omega arith) refl

pub returns : goal.returns
returns c = prepared_accepted c.args.limits _ _ c.in_ok-validate.ensures (omega arith) refl c.number.ensures
