-- Refusals 1 to 10, then the entry.
use Rattle.std.proofs.Common.{refl}
use Rattle.std.proofs.lemmas.Result.{err_from_is_err_and}
use Rattle.holding.proofs.Marked.{held_refused, within, still_framable, marked_now}
use Rattle.holding.proofs.hold_within.Goals as goal

pub mark-requires : goal.mark-requires
mark-requires c = within _ _ c.in_ok-examine.ensures refl

pub frame-requires : goal.frame-requires
frame-requires c =
    still_framable _ _ c.in_ok-examine.ensures refl
    c.requires

pub returns-in_err-examine : goal.returns-in_err-examine
returns-in_err-examine c =
    let p = err_from_is_err_and c.from_residual.result c.from_residual.ensures.1 in
    rw (p.1, p.2) (held_refused _ _ c.in_err-examine.ensures _ refl)

pub returns : goal.returns
returns c =
    marked_now _ _ c.in_ok-examine.ensures _ refl c.mark.ensures
    c.frame.ensures
