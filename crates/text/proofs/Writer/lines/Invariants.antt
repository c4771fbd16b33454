-- The lines of the lots below v are written.
use Rattle.std.proofs.Common.{◌≡◌, length}
use Rattle.text.specs.Parts.{places_of}
use Rattle.text.proofs.Listing.{Listing}
use Rattle.text.proofs.Writer.lines.Given as goal

abbrev pub invariant-loop-v : goal.invariant-loop-v
invariant-loop-v l = record {
  listed : Listing (places_of l.x l.y l.u l.w) (length l.x) l.initial.self.out.now l.self.out.now
      l.initial.self.at l.self.at l.v;
  same : l.self.out.ghost_name ≡ l.initial.self.out.ghost_name;
}
