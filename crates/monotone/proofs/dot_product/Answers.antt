-- The parts are small, so nothing wraps.
use Rattle.monotone.proofs.Wide.{product_fits, sum_fits, sum_is}
use Rattle.monotone.proofs.dot_product.Goals as goal

pub overflow_mul-result : goal.overflow_mul-result
overflow_mul-result c =
    product_fits c.args.a.across c.args.b.across c.requires.0.across_near
    c.requires.1.across_near

pub overflow_mul-result-2 : goal.overflow_mul-result-2
overflow_mul-result-2 c = product_fits c.args.a.up c.args.b.up c.requires.0.up_near c.requires.1.up_near

pub overflow_add-result : goal.overflow_add-result
overflow_add-result c =
    sum_fits c.args.a.across c.args.b.across c.args.a.up c.args.b.up
    c.requires.0.across_near c.requires.1.across_near c.requires.0.up_near c.requires.1.up_near

pub returns : goal.returns
returns c =
    sum_is c.args.a.across c.args.b.across c.args.a.up c.args.b.up
    c.requires.0.across_near c.requires.1.across_near c.requires.0.up_near c.requires.1.up_near
