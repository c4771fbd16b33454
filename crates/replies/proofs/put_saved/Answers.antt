-- Arm by arm, the three numbers of a file written or a refusal.
use Rattle.std.proofs.Common.{sym, ap, subst, ◌∙◌}
use Rattle.treefile.specs.Saved.{saved}
use Rattle.replies.specs.Replies.{saved_reply, Short}
use Rattle.replies.proofs.put_saved.Goals as goal

pub overflow_cast-bytes : goal.overflow_cast-bytes
unfolding Short
overflow_cast-bytes c = record { fits = subst (λ a. Short (saved a)) c.in-Ok.is c.requires.1 }

pub returns-in-Ok : goal.returns-in-Ok
unfolding saved_reply
returns-in-Ok c = c.put_numbers.ensures ∙ ap (λ a. saved_reply (saved a)) (sym c.in-Ok.is)

pub returns-in-Err : goal.returns-in-Err
unfolding saved_reply
returns-in-Err c = c.put_refusal.ensures ∙ ap (λ a. saved_reply (saved a)) (sym c.in-Err.is)
