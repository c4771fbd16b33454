-- Arm by arm, the three numbers of a number of nodes or a refusal.
use mathlib.Core.Path.{sym, ap, ◌∙◌}
use Rattle.table.specs.Counted.{counted}
use Rattle.replies.specs.Replies.{counted_reply}
use Rattle.replies.proofs.put_counted.Goals as goal

pub returns-in-Ok : goal.returns-in-Ok
unfolding counted_reply
returns-in-Ok c = c.put_numbers.ensures ∙ ap (λ a. counted_reply (counted a)) (sym c.in-Ok.is)

pub returns-in-Err : goal.returns-in-Err
unfolding counted_reply
returns-in-Err c = c.put_refusal.ensures ∙ ap (λ a. counted_reply (counted a)) (sym c.in-Err.is)
