-- Arm by arm, the point and the three numbers of an answer.
use mathlib.Core.Path.{refl, sym, ap, ◌∙◌}
use Rattle.replies.specs.Replies.{view_reply}
use Rattle.replies.proofs.Numbers.{both_written}
use Rattle.replies.proofs.put_view.Goals as goal

pub returns-in-Shown : goal.returns-in-Shown
unfolding view_reply
returns-in-Shown c =
    both_written c.put_point.ensures c.put_numbers.ensures
    ∙ ap (view_reply c.args.point.now) (sym c.in-Shown.is)

pub returns-in-Outside : goal.returns-in-Outside
unfolding view_reply
returns-in-Outside c =
    both_written refl c.put_numbers-in-Outside.ensures
    ∙ ap (view_reply c.args.point.now) (sym c.in-Outside.is)

pub returns-in-Refused : goal.returns-in-Refused
unfolding view_reply
returns-in-Refused c =
    both_written refl c.put_numbers-in-Refused.ensures
    ∙ ap (view_reply c.args.point.now) (sym c.in-Refused.is)
