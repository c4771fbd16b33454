-- `slopes::bordered` meets its contract: both ends apart, the rest as fractions.
use mathlib.Core.Path.{◌≡◌, sym, ap, ◌∙◌}
use Prim.Native.Nat.{ℕ, ◌*◌, ◌%◌, ◌^◌, ◌≤◌}
use native.Mathlib.Omega.{arith}
use lib.Pow.{shl_exact}
use Rattle.slopes.specs.Neighbours.{bordered}
use Rattle.slopes.proofs.NeighbourLaws.{bordered_last, bordered_is}
use Rattle.slopes.specs.Slopes.{flat, upright}
use Rattle.slopes.proofs.bordered.Goals as goal

one_shifted : (k : ℕ) → k ≤ 32 → 1 * 2 ^ k % 2 ^ 64 ≡ 2 ^ k
one_shifted k h = shl_exact 1 k 64 (omega arith) (omega arith) ∙ omega arith

pub returns-then-j-eq0 : goal.returns-then-j-eq0
returns-then-j-eq0 c = sym (ap (bordered c.args.k flat upright) c.if-j-eq0.true)

pub returns-then-j-k : goal.returns-then-j-k
returns-then-j-k c = sym (bordered_last _ _ (c.if-j-k.true ∙ one_shifted c.args.k c.requires.0))

pub fraction-requires : goal.fraction-requires
fraction-requires c =
    let power = one_shifted c.args.k c.requires.0 in
    (c.requires.0, omega arith, omega arith)

pub returns : goal.returns
returns c =
    let power = one_shifted c.args.k c.requires.0 in
    c.fraction.ensures ∙ sym (bordered_is c.args.k c.args.j (omega arith) (omega arith))
