-- The number read is the one that is stored turned round.
use mathlib.Core.Path.{◌∙◌, ap}
use Prim.Native.Nat.{ℕ, ◌-◌}
use lib.ListN.{set}
use Rattle.monotone.proofs.flip.Goals as goal

pub returns : goal.returns
returns c =
    c.put.ensures
    ∙ ap (λ (k : ℕ). set c.args.work.now c.args.i (4294967296 - k))
    c.get-number.ensures.0
