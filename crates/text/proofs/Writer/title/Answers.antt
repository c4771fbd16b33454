-- The word, then the number.
use Rattle.text.specs.Parts.{title_of}
use Rattle.text.proofs.Listing.{puts_on}
use Rattle.text.proofs.Writer.title.Goals as goal

pub returns : goal.returns
unfolding title_of
returns c = puts_on c.word.ensures c.field.ensures.0
