-- Refusals 1 to 8, then 9, 10 and 22.
use Rattle.std.proofs.Common.{refl}
use Rattle.std.proofs.lemmas.Result.{err_from_is_err_and}
use Rattle.stretching.proofs.Examining.{unheld_sheet, unheld_free}
use Rattle.stretching.proofs.examine_free.Goals as goal

pub returns-in_err-inspect : goal.returns-in_err-inspect
returns-in_err-inspect c =
    let p = err_from_is_err_and c.from_residual.result c.from_residual.ensures.1 in
    rw (p.1, p.2) (unheld_sheet _ c.in_err-inspect.ensures _ refl)

pub returns : goal.returns
returns c =
    unheld_free _ c.in_ok-inspect.ensures _ refl
    c.test_free.ensures
