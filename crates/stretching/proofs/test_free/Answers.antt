-- 9 and 10, then 22.
use Rattle.std.proofs.Common.{refl}
use Rattle.std.proofs.lemmas.Result.{err_from_is_err_and}
use Rattle.table.specs.Validity.{told}
use Rattle.stretching.proofs.Examining.{free-edge, has_edge, free_22, free_all}
use Rattle.stretching.proofs.test_free.Goals as goal

pub get-requires : goal.get-requires
get-requires c = has_edge _ _ c.in_ok-test_edge.ensures refl

pub returns-then-get-eq1 : goal.returns-then-get-eq1
returns-then-get-eq1 c =
    told c.at.ensures (free_22 _ _ c.in_ok-test_edge.ensures refl c.get.ensures.0 c.if-get-eq1.true)

pub returns-in_err-test_edge : goal.returns-in_err-test_edge
returns-in_err-test_edge c =
    let p = err_from_is_err_and c.from_residual.result c.from_residual.ensures.1 in
    rw (p.1, p.2) (free-edge _ _ c.in_err-test_edge.ensures refl)

pub returns : goal.returns
returns c = free_all _ _ c.in_ok-test_edge.ensures refl c.get.ensures.0 c.if-get-eq1.false
