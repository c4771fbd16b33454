-- The number, then the byte.
use Rattle.std.proofs.Common.{arith}
use Rattle.text.specs.Text.{field}
use Rattle.text.proofs.TextLaws.{length-decimal, length-field}
use Rattle.text.proofs.Listing.{puts_on}
use Rattle.text.proofs.Writer.field.Goals as goal

pub byte-requires : goal.byte-requires
byte-requires c =
    let put = c.decimal.ensures.text in
    omega (arith, c.requires, put.ends, put.long, length-decimal c.args.n)

pub returns : goal.returns
unfolding field
returns c =
    let whole = puts_on c.decimal.ensures c.byte.ensures in
    (whole, omega (arith, whole.text.ends, length-field c.args.n c.args.after))
