-- Arm by arm, the three numbers of a verdict.
use mathlib.Core.Path.{sym, ap, ◌∙◌}
use Rattle.replies.specs.Replies.{verdict_reply}
use Rattle.replies.proofs.put_verdict.Goals as goal

pub returns-in-Monotone : goal.returns-in-Monotone
unfolding verdict_reply
returns-in-Monotone c = c.put_numbers.ensures ∙ ap verdict_reply (sym c.in-Monotone.is)

pub returns-in-Turns : goal.returns-in-Turns
unfolding verdict_reply
returns-in-Turns c = c.put_numbers-in-Turns.ensures ∙ ap verdict_reply (sym c.in-Turns.is)

pub returns-in-Refused : goal.returns-in-Refused
unfolding verdict_reply
returns-in-Refused c = c.put_numbers-in-Refused.ensures ∙ ap verdict_reply (sym c.in-Refused.is)
