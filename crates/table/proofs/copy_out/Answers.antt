-- The first i numbers are copied.
use Rattle.std.proofs.Common.{◌∙◌, ap, sym, get_or, ℕ, arith}
use Rattle.laws.specs.Filling.{zero_plus}
use Rattle.table.proofs.copy_out.Goals as goal

pub returns : goal.returns
returns c = (
  record {
    same = λ k l. sym
        (ap (λ (j : ℕ). get_or c.loop-i.list j 0) (zero_plus k)
        ∙ c.loop-i.invariant.done k (omega arith));
  },
  c.loop-i.invariant.kept.long,
)
