-- The number without its last digits is written; the power d of ten says how many.
use Rattle.std.proofs.Common.{◌≡◌}
use Rattle.text.proofs.Spelling.{Spelling}
use Rattle.text.proofs.Writer.decimal.Given as goal

abbrev pub invariant-loop-d : goal.invariant-loop-d
invariant-loop-d l = record {
  spelled : Spelling l.initial.self.out.now l.self.out.now l.initial.self.at l.self.at l.n l.initial.d l.d;
  same : l.self.out.ghost_name ≡ l.initial.self.out.ghost_name;
}

abbrev pub decreases-loop-d : goal.decreases-loop-d
decreases-loop-d l = l.d
