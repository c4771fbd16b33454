-- `slopes::fraction` meets its contract: of ten levels every 2^(10 - k)-th slope is one of k levels.
use mathlib.Core.Path.{◌≡◌, ap, ◌∙◌}
use Prim.Native.Nat.{ℕ, ◌-◌, ◌*◌, ◌%◌, ◌^◌, ◌<◌}
use native.Mathlib.Nat.{mod-eq_of_lt}
use native.Mathlib.Omega.{arith}
use Rattle.slopes.specs.Rows.{ten_at}
use Rattle.slopes.proofs.TenLaws.{ten_holds, ten_walk}
use Rattle.slopes.proofs.fraction.Goals as goal

-- a position in the table of ten levels does not wrap
unwrapped : (p : ℕ) → p < 2 ^ 10 → p % 2 ^ 64 ≡ p
unwrapped p low = mod-eq_of_lt (omega arith)

pub ten_at-requires : goal.ten_at-requires
ten_at-requires c =
    let holds = ten_holds _ _ c.if-k-le10.true c.requires.1 c.requires.2 in
    rw (unwrapped (c.args.j * 2 ^ (10 - c.args.k)) holds.1) holds

pub returns-then-k-le10 : goal.returns-then-k-le10
returns-then-k-le10 c =
    let low = (ten_holds _ _ c.if-k-le10.true c.requires.1 c.requires.2).1 in
    c.ten_at.ensures ∙ ap ten_at (unwrapped (c.args.j * 2 ^ (10 - c.args.k)) low)
    ∙ ten_walk _ _ c.if-k-le10.true c.requires.1 c.requires.2
