-- Arm by arm, the three numbers of a count, or of none.
use Rattle.std.proofs.Common.{Ok, sym, ap, ◌∙◌}
use Rattle.aligning.specs.Aligned.{aligned}
use Rattle.replies.specs.Replies.{aligned_reply}
use Rattle.replies.proofs.put_aligned.Goals as goal

pub returns-in-Ok-Some : goal.returns-in-Ok-Some
unfolding aligned_reply
returns-in-Ok-Some c =
    let e = rw c.in-Ok-Some.is at c.in-Ok-Some.field-0-is in
    c.put_numbers.ensures ∙ ap (λ a. aligned_reply (aligned (Ok a))) (sym e) ∙ ap (λ a. aligned_reply (aligned a)) (sym c.in-Ok-Some.is)

pub returns-in-Ok-None : goal.returns-in-Ok-None
unfolding aligned_reply
returns-in-Ok-None c =
    let e = rw c.in-Ok-None.is at c.in-Ok-None.field-0-is in
    c.put_three.ensures ∙ ap (λ a. aligned_reply (aligned (Ok a))) (sym e) ∙ ap (λ a. aligned_reply (aligned a)) (sym c.in-Ok-None.is)

pub returns-in-Err : goal.returns-in-Err
unfolding aligned_reply
returns-in-Err c = c.put_refusal.ensures ∙ ap (λ a. aligned_reply (aligned a)) (sym c.in-Err.is)
