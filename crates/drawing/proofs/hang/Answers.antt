-- One store.
use mathlib.Core.Path.{ap, ◌∙◌}
use Prim.Native.Nat.{ℕ, ◌+◌}
use lib.ListN.{set}
use Rattle.drawing.proofs.hang.Goals as goal

pub returns : goal.returns
returns c =
    c.put.ensures ∙ ap (λ (k : ℕ). set c.args.places.now c.args.v (k + c.args.part))
    c.get.ensures.0
