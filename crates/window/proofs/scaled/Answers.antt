-- Both numbers are floats exactly, and so is their quotient.
use mathlib.Core.Path.{sym, subst}
use Prim.Native.Nat.{ℕ}
use native.Mathlib.Omega.{arith}
use lib.IntN.{pos}
use lib.Ieee.{binary64, div, of_int}
use Rattle.window.specs.Window.{Exact}
use Rattle.window.proofs.WindowLaws.{exact_quotient}
use Rattle.window.proofs.Sides.{side}
use Rattle.window.proofs.scaled.Goals as goal

pub returns : goal.returns
returns c =
    let d = c.args.d in
    let m = c.args.m in
    subst (λ (s : ℕ). Exact (div binary64 (of_int binary64 (pos d)) (of_int binary64 (pos s))) d m)
    (sym (side m c.requires)) (exact_quotient d m (omega arith) (omega arith))
