-- Both parts are small, so they are read back as they are.
use mathlib.Core.Path.{◌∙◌}
use native.Mathlib.Omega.{arith}
use Rattle.monotone.proofs.Wide.{small-back, back-small}
use Rattle.monotone.proofs.edge.Goals as goal

pub part-across-requires : goal.part-across-requires
part-across-requires c = (omega arith, (c.requires.0.across c.args.z c.requires.1 c.requires.2).least)

pub part-up-requires : goal.part-up-requires
part-up-requires c = (omega arith, (c.requires.0.up c.args.z c.requires.1 c.requires.2).least)

pub returns : goal.returns
returns c = (
  λ i. record {
    across = (small-back c.part-across.result c.part-across.ensures.1 ∙ c.part-across.ensures.0) i;
    up = (small-back c.part-up.result c.part-up.ensures.1 ∙ c.part-up.ensures.0) i;
  },
  record {
    across_near = back-small c.part-across.result c.part-across.ensures.1;
    up_near = back-small c.part-up.result c.part-up.ensures.1;
  },
)
