-- No node below v has a parent that is no node.
use Rattle.std.proofs.Common.{false, ◌≡◌, ◌<◌, ℕ}
use Rattle.table.specs.Table.{stray_parent}
use Rattle.table.proofs.test_parents.Given as goal

abbrev pub invariant-loop-v : goal.invariant-loop-v
invariant-loop-v l = (k : ℕ) → k < l.v → stray_parent l.parent k ≡ false
