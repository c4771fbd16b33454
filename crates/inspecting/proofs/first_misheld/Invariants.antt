-- No entry below z is wrong.
use Rattle.std.proofs.Common.{false, ◌≡◌, ◌<◌, ℕ}
use Rattle.inspecting.specs.Parts.{misheld}
use Rattle.inspecting.proofs.first_misheld.Given as goal

abbrev pub invariant-loop-z : goal.invariant-loop-z
invariant-loop-z l = (k : ℕ) → k < l.z → misheld l.held k ≡ false
