-- No node below v has a place beyond the limit.
use Rattle.std.proofs.Common.{false, ◌≡◌, ◌<◌, ℕ}
use Rattle.monotone.specs.Monotone.{place_beyond}
use Rattle.monotone.proofs.test_places.Given as goal

abbrev pub invariant-loop-v : goal.invariant-loop-v
invariant-loop-v l = (k : ℕ) → k < l.v → place_beyond l.limits.place l.x l.y k ≡ false
