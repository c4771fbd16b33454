-- Each coordinate is tested against the corner; where both lie in the window, its distance is divided by the side.
use mathlib.Core.Path.{◌∙◌}
use Rattle.laws.specs.Tests.{both_is}
use Rattle.window.specs.Window.{inside, Says}
use Rattle.window.proofs.WindowLaws.{within_says}
use Rattle.window.proofs.Sides.{tested, outside_across, outside_up, too_wide, no_wider}
use Rattle.window.proofs.window.Goals as goal

pub returns-then-m-gt31 : goal.returns-then-m-gt31
unfolding Says
returns-then-m-gt31 c = too_wide _ _ c.if-m-gt31.true

pub returns-then-not-is_within : goal.returns-then-not-is_within
unfolding Says
returns-then-not-is_within c =
    let narrow = c.if-m-gt31.false in (
      no_wider _ _ narrow,
      outside_across _ _ _ _ _ (tested _ _ _ narrow c.is_within.ensures ∙ c.if-not-is_within.true),
    )

pub returns-then-not-is_within-2 : goal.returns-then-not-is_within-2
unfolding Says
returns-then-not-is_within-2 c =
    let narrow = c.if-m-gt31.false in (
      no_wider _ _ narrow,
      outside_up _ _ _ _ _ (tested _ _ _ narrow c.is_within-2.ensures ∙ c.if-not-is_within-2.true),
    )

pub overflow_sub-x : goal.overflow_sub-x
overflow_sub-x c = (within_says _ _ _ (tested _ _ _ c.if-m-gt31.false c.is_within.ensures ∙ c.if-not-is_within.false)).0

pub overflow_sub-y : goal.overflow_sub-y
overflow_sub-y c =
    (within_says _ _ _ (tested _ _ _ c.if-m-gt31.false c.is_within-2.ensures ∙ c.if-not-is_within-2.false)).0

pub returns : goal.returns
unfolding Says inside
returns c =
    record {
      accepted = no_wider _ _ c.if-m-gt31.false;
      shown = both_is (tested _ _ _ c.if-m-gt31.false c.is_within.ensures ∙ c.if-not-is_within.false)
          (tested _ _ _ c.if-m-gt31.false c.is_within-2.ensures ∙ c.if-not-is_within-2.false);
      across = c.scaled.ensures;
      up = c.scaled-2.ensures;
    }
