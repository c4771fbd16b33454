-- Five numbers, one after the other.
use Rattle.text.specs.Parts.{line_of}
use Rattle.text.proofs.Listing.{puts_on}
use Rattle.text.proofs.Writer.line.Goals as goal

pub returns : goal.returns
unfolding line_of
returns c =
    puts_on c.field.ensures.0
    (puts_on c.field-2.ensures.0 (puts_on c.field-3.ensures.0 (puts_on c.field-4.ensures.0 c.field-5.ensures.0)))
