-- The negation of a number below 2^31 fits.
use Rattle.direction.proofs.Signs32.{minus_fits, minus_is}
use Rattle.direction.proofs.minus.Goals as goal

pub overflow_sub-result : goal.overflow_sub-result
overflow_sub-result c = minus_fits c.args.n c.requires

pub returns : goal.returns
returns c = minus_is c.args.n c.requires
