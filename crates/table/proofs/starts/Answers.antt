-- Zeroes, then tallies, then their sums.
use mathlib.Core.Path.{◌∙◌}
use Rattle.table.proofs.FirstSlots.{started_all, scratch_kept}
use Rattle.table.proofs.starts.Goals as goal

pub tally-requires : goal.tally-requires
tally-requires c = (scratch_kept c.requires c.clear.ensures.1.long, c.clear.ensures.0)

pub accumulate-requires : goal.accumulate-requires
accumulate-requires c = (
  scratch_kept c.requires (c.tally.ensures.1.long
      ∙ c.clear.ensures.1.long),
  c.tally.ensures.0,
)

pub returns : goal.returns
returns c =
    started_all c.requires c.clear.ensures c.tally.ensures
    c.accumulate.ensures
