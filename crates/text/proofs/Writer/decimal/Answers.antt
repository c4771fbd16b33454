-- The number without its last digits is written; the power d of ten says how many.
use Rattle.std.proofs.Common.{◌∙◌, refl, arith}
use Rattle.text.proofs.Spelling.{first_digit, spelling_start, spelling_room, spelling_step}
use Rattle.text.proofs.Spelling.{spelling_end}
use Rattle.text.proofs.Spelling.{power_positive, power_before}
use Rattle.text.proofs.Writer.decimal.Goals as goal

pub digit-first-requires : goal.digit-first-requires
digit-first-requires c = power_positive c.unit-d.ensures.power

pub loop-d-init : goal.loop-d-init
loop-d-init c = record { spelled = spelling_start _ _ c.unit-d.ensures; same = refl }

pub digit-next-requires : goal.digit-next-requires
digit-next-requires c = power_positive (power_before c.loop-d.invariant.spelled.power c.loop-d-test.true).1

pub byte-requires-in-loop-d : goal.byte-requires-in-loop-d
byte-requires-in-loop-d c =
    let first = first_digit c.unit-d.ensures c.digit-first.ensures c.byte.ensures.text in
    omega (
      arith,
      c.requires,
      spelling_room c.loop-d.invariant.spelled c.requires.1 c.loop-d-test.true first,
      c.loop-d.invariant.spelled.text.long,
      first.long,
    )

pub loop-d-preserved : goal.loop-d-preserved
loop-d-preserved c = record {
  spelled = spelling_step c.loop-d.invariant.spelled c.requires.1 c.loop-d-test.true c.digit-next.ensures
      c.byte-in-loop-d.ensures.text;
  same = c.byte-in-loop-d.ensures.same ∙ c.loop-d.invariant.same;
}

pub returns : goal.returns
returns c = record {
  text = spelling_end (first_digit c.unit-d.ensures c.digit-first.ensures c.byte.ensures.text)
      c.loop-d.invariant.spelled (omega arith);
  same = c.loop-d.invariant.same ∙ c.byte.ensures.same;
}
