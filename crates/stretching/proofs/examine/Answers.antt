-- Refusals 1 to 8, then 9 and 10.
use Rattle.std.proofs.Common.{refl}
use Rattle.std.proofs.lemmas.Result.{err_from_is_err_and}
use Rattle.stretching.proofs.Examining.{examining_sheet, examining_edge}
use Rattle.stretching.proofs.examine.Goals as goal

pub returns-in_err-inspect : goal.returns-in_err-inspect
returns-in_err-inspect c =
    let p = err_from_is_err_and c.from_residual.result c.from_residual.ensures.1 in
    rw (p.1, p.2) (examining_sheet _ c.in_err-inspect.ensures _ refl)

pub returns : goal.returns
returns c =
    examining_edge _ c.in_ok-inspect.ensures _ refl
    c.test_edge.ensures
