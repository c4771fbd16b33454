-- The first test that fails decides.
use mathlib.Core.Path.{sym, ap, ◌∙◌}
use Prim.Native.Nat.{ℕ, ◌+◌}
use lib.Dec.{leb}
use borrow.Author.Tests.{eq-eqb, ne_eqb}
use Rattle.laws.specs.Tests.{first_fails, first_holds}
use Rattle.inspecting.proofs.placed.Goals as goal

pub returns-then-place-get : goal.returns-then-place-get
returns-then-place-get c =
    let there = ap (λ (k : ℕ). k + c.args.step) c.get.ensures.0 in
    first_fails _ (ne_eqb _ _ (λ e. c.if-place-get.true (c.get-place.ensures.0 ∙ e ∙ sym there)))

pub returns : goal.returns
returns c =
    let there = ap (λ (k : ℕ). k + c.args.step) c.get.ensures.0 in
    ap (λ (k : ℕ). leb k c.args.limit) c.get-place.ensures.0
    ∙ first_holds _ (eq-eqb _ _ (sym c.get-place.ensures.0 ∙ c.if-place-get.false ∙ there))
