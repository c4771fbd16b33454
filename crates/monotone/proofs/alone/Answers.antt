-- A part that is not zero makes a vector that is not; its bits say so, since it is small.
use mathlib.Core.Path.{refl}
use Rattle.monotone.specs.Cones.{none, one}
use Rattle.monotone.proofs.Wide.{zero_bits, bits_zero}
use Rattle.monotone.proofs.alone.Goals as goal

pub returns-then-across-ne0 : goal.returns-then-across-ne0
returns-then-across-ne0 c = one (λ h. c.if-across-ne0.true (bits_zero _ h.0)) refl

pub returns-then-up-ne0 : goal.returns-then-up-ne0
returns-then-up-ne0 c = one (λ h. c.if-up-ne0.true (bits_zero _ h.1)) refl

pub returns : goal.returns
returns c =
    none (
      zero_bits _ c.requires.0.across_near c.if-across-ne0.false,
      zero_bits _ c.requires.0.up_near
          c.if-up-ne0.false,
    ) refl
