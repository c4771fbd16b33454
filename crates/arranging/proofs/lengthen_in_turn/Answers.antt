-- The lengthens before the i-th are made, and none of them is refused.
use mathlib.Core.Path.{refl, sym, ap, ◌∙◌}
use native.Mathlib.Omega.{arith}
use Rattle.std.proofs.Common.{None}
use Rattle.std.proofs.lemmas.Iterator.{empty_from_Zip}
use Rattle.std.specs.Iterator.Adapters.{enumerate_source}
use Rattle.drawing.specs.Drawing.{frame}
use Rattle.drawing.specs.Parts.{framable}
use Rattle.arranging.specs.Arranging.{at_place}
use Rattle.arranging.proofs.Turns.{turning_step, turning_refused, turning_end}
use Rattle.arranging.proofs.lengthen_in_turn.Goals as goal

pub frame-requires : goal.frame-requires
frame-requires c = framable c.requires.0 c.loop-i.invariant.0.opened.inspected.sound.drawn c.read.ensures

pub returns-in-Err : goal.returns-in-Err
returns-in-Err c =
    let next = c.in-Some.ensures.steps in
    let before = c.loop-i.invariant.1 in
    let here = c.in-Err.ensures.lists in
    record {
      turns = turning_refused c.loop-i.invariant.0 next.0.0 next.0.1 (omega (arith, next.1))
          c.in-Err.ensures.lengthened refl;
      lists = (here.0 ∙ before.0, here.1 ∙ before.1, here.2 ∙ before.2);
    }

pub loop-i-preserved : goal.loop-i-preserved
loop-i-preserved c =
    let next = c.in-Some.ensures.steps in
    let before = c.loop-i.invariant.1 in
    let here = c.in_default.ensures.lists in (
      turning_step c.loop-i.invariant.0 next.0.0 next.0.1 next.2 c.in_default.ensures.lengthened refl,
      (here.0 ∙ before.0, here.1 ∙ before.1, here.2 ∙ before.2),
    )

pub returns : goal.returns
unfolding at_place
returns c =
    let pairs = enumerate_source c.loop-i.i-iterator in
    let spent = empty_from_Zip pairs pairs None refl c.in-None.ensures.steps.0 (sym c.loop-i.invariant.0.same) in
    record {
      turns = turning_end c.loop-i.invariant.0 spent.0 (c.frame.ensures ∙ ap frame c.read.ensures) refl;
      lists = c.loop-i.invariant.1;
    }
