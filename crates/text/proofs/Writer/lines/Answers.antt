-- The lines of the lots below v are written.
use Rattle.std.proofs.Common.{◌∙◌, refl, arith}
use Rattle.text.proofs.Listing.{listing_start, listing_step, listing_room}
use Rattle.text.proofs.Writer.lines.Goals as goal

pub loop-v-init : goal.loop-v-init
loop-v-init c = record { listed = listing_start _ _ _ _; same = refl }

pub line-requires : goal.line-requires
line-requires c = (listing_room _ _ c.requires c.loop-v.invariant.listed c.loop-v-test.true, omega arith)

pub loop-v-preserved : goal.loop-v-preserved
loop-v-preserved c = record {
  listed = listing_step _ _ c.loop-v.invariant.listed c.loop-v-test.true refl refl refl refl c.line.ensures.text;
  same = c.line.ensures.same ∙ c.loop-v.invariant.same;
}
