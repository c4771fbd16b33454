-- Arm by arm, the four numbers of a frame or a refusal.
use Rattle.std.specs.Prelude.{pos}
use Rattle.std.proofs.Common.{sym, ap, subst, ◌∙◌}
use Rattle.arranging.specs.Arranged.{arranged}
use Rattle.replies.specs.Replies.{four, arranged_reply, Near}
use Rattle.replies.proofs.put_arranged.Goals as goal

pub put_four-requires-in-Err : goal.put_four-requires-in-Err
unfolding Near
put_four-requires-in-Err c = (c.requires.0, subst (λ a. Near (arranged a)) c.in-Err.is c.requires.1)

pub returns-in-Ok : goal.returns-in-Ok
unfolding arranged_reply
returns-in-Ok c = c.put_four.ensures ∙ ap (λ a. arranged_reply (arranged a)) (sym c.in-Ok.is)

pub returns-in-Err : goal.returns-in-Err
unfolding arranged_reply
returns-in-Err c =
    c.put_four-in-Err.ensures
    ∙ ap (λ k. four (pos 0) (pos k) (pos c.in-Err.field-0.refusal.lot) (pos c.in-Err.field-0.place)) c.number-number.ensures
    ∙ ap (λ a. arranged_reply (arranged a)) (sym c.in-Err.is)
