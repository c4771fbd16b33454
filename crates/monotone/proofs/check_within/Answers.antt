-- Each answer is a case of the definition: a refusal of the table, one of a place, or what the pairs say.
use Rattle.std.proofs.Common.{sym, ◌∙◌, arith, rules}
use Rattle.std.proofs.lemmas.Result.{err_from_is_err_and}
use Rattle.table.specs.Acceptance.{validity-accepted, validity_refused}
use Rattle.monotone.specs.Findings.{found}
use Rattle.monotone.proofs.Judging.{checked_table, checked_far, checked-found, judged, x_long, y_long, few_nodes}
use Rattle.monotone.proofs.check_within.Goals as goal

pub returns-in_err-validate : goal.returns-in_err-validate
returns-in_err-validate c =
    let p = err_from_is_err_and c.from_residual.result c.from_residual.ensures.1 in
    rw (p.1, p.2) (checked_table c.args.x.now c.args.y.now c.both_long-long.ensures c.in_err-validate.ensures)

pub test_places-requires : goal.test_places-requires
test_places-requires c =
    let few = few_nodes c.args.x.now c.args.y.now c.both_long-long.ensures c.in_ok-validate.ensures c.requires.0 in
    let long = x_long c.args.x.now c.args.y.now c.both_long-long.ensures c.in_ok-validate.ensures in
    (y_long c.args.x.now c.args.y.now c.both_long-long.ensures c.in_ok-validate.ensures ∙ sym long, omega arith)

pub returns-in_err-test_places : goal.returns-in_err-test_places
returns-in_err-test_places c =
    let p = err_from_is_err_and c.from_residual-in_err-test_places.result
    c.from_residual-in_err-test_places.ensures.1 in
    rw (p.1, p.2) (checked_far c.args.x.now c.args.y.now c.both_long-long.ensures c.in_ok-validate.ensures
    (search rules) (validity_refused _ _ _ (sym c.in_err-test_places.ensures)))

pub judge-requires : goal.judge-requires
judge-requires c =
    judged c.args.x.now c.args.y.now c.both_long-long.ensures c.in_ok-validate.ensures
    (validity-accepted _ (sym c.in_ok-test_places.ensures)) c.requires.0 c.requires.1

pub returns : goal.returns
returns c =
    checked-found c.args.x.now c.args.y.now c.both_long-long.ensures c.in_ok-validate.ensures
    (validity-accepted _ (sym c.in_ok-test_places.ensures)) (search rules) (found c.judge.result) c.judge.ensures
