-- The first test that fails decides.
use mathlib.Core.Path.{sym, ap, ◌∙◌}
use Prim.Native.Nat.{ℕ}
use lib.Dec.{eqb}
use borrow.Author.Tests.{eq-eqb, ne_eqb}
use Rattle.laws.specs.Tests.{first_fails, first_holds}
use Rattle.inspecting.proofs.root_fits.Goals as goal

pub returns-then-get-ne1 : goal.returns-then-get-ne1
returns-then-get-ne1 c = first_fails _ (ne_eqb _ _ (λ e. c.if-get-ne1.true (c.get.ensures.0 ∙ e)))

pub returns-then-get-ne0 : goal.returns-then-get-ne0
returns-then-get-ne0 c =
    first_fails _ (ne_eqb _ _ (λ e. c.if-get-ne0.true (c.get-2.ensures.0 ∙ e)))
    ∙ first_holds _ (eq-eqb _ _ (sym c.get.ensures.0 ∙ c.if-get-ne1.false))

pub returns : goal.returns
returns c =
    ap (λ (k : ℕ). eqb k 0) c.get-3.ensures.0 ∙ first_holds _
    (eq-eqb _ _ (sym c.get-2.ensures.0 ∙ c.if-get-ne0.false))
    ∙ first_holds _ (eq-eqb _ _ (sym c.get.ensures.0 ∙ c.if-get-ne1.false))
