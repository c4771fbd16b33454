-- Layout's outcome, and the calls made on it.
use mathlib.Core.Path.{refl, ◌∙◌}
use Rattle.std.proofs.lemmas.Result.{err_from_is_err_and}
use Rattle.drawing.specs.Drawing.{accepted}
use Rattle.claim.specs.Replay.{after}
use Rattle.claim.proofs.Replaying.{replayed}
use Rattle.claim.proofs.replay.Goals as goal

pub returns-in_err-frame : goal.returns-in_err-frame
unfolding after accepted
returns-in_err-frame c =
    let p = err_from_is_err_and c.from_residual.result c.from_residual.ensures.1 in
    record {
      replayed = rw (p.1, p.2) (replayed _ _ _ _ _ _ c.in_err-frame.ensures.does.says refl refl);
      lists = c.in_err-frame.ensures.lists;
    }

pub returns : goal.returns
unfolding after accepted
returns c =
    let laid = c.in_ok-frame.ensures in
    let made = c.make_calls.ensures.lists in
    record {
      replayed = replayed _ _ _ _ _ _ laid.does.says laid.does.long c.make_calls.ensures.made;
      lists = (made.0 ∙ laid.lists.0, made.1 ∙ laid.lists.1, made.2 ∙ laid.lists.2);
    }
