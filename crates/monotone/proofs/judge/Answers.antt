-- The edges and the order stand in their regions, so the pairs can be gone through.
use Rattle.monotone.proofs.Judging.{with_edges, ordered}
use Rattle.monotone.proofs.judge.Goals as goal

pub pairs-requires : goal.pairs-requires
pairs-requires c = (
  (with_edges c.requires c.number.ensures c.offsets.ensures.drawn_part
      c.offsets.ensures.only
      c.offsets-2.ensures.drawn_part c.offsets-2.ensures.only),
  (ordered c.requires c.number.ensures c.offsets.ensures.drawn_part c.offsets.ensures.only
      c.offsets-2.ensures.drawn_part c.offsets-2.ensures.only),
)
