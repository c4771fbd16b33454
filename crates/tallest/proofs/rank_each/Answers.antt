-- The whole list is zeroed.
use native.Mathlib.Omega.{arith}
use lib.ListN.{length}
use Rattle.laws.specs.SearchLaws.{tabulate_is}
use Rattle.tallest.specs.Tallest.{chain_of}
use Rattle.tallest.proofs.rank_each.Goals as goal

pub returns : goal.returns
unfolding chain_of
returns c =
    let zeroed = c.clear.ensures.0 in
    tabulate_is _ (length c.args.rank.now) (λ v. 0) c.clear.ensures.1.long (λ i l. zeroed.at i (omega arith) l)
