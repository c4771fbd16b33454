-- The word, then two numbers.
use Rattle.std.proofs.Common.{rules}
use Rattle.text.specs.Text.{refusal_of}
use Rattle.text.proofs.Listing.{puts_on}
use Rattle.text.proofs.put_refusal.Goals as goal

pub returns : goal.returns
unfolding refusal_of
returns c =
    let whole = puts_on c.word.ensures (puts_on c.field.ensures.0 c.field-2.ensures.0) in
    search (rules, whole)
