-- A known cone stays; an unknown one grows from the parent's.
use mathlib.Core.Path.{refl, sym, ap, subst, subst⁻¹, ◌∙◌}
use Prim.Native.Nat.{ℕ}
use native.Mathlib.Omega.{arith}
use lib.ListN.{length, get_or}
use Rattle.monotone.specs.Cones.{edge_at, Formed, Grown}
use Rattle.monotone.specs.Parts.{known, grown}
use Rattle.monotone.proofs.visit.Goals as goal

pub returns-then-known-ne0 : goal.returns-then-known-ne0
returns-then-known-ne0 c = known (λ e. c.if-known-ne0.true (c.get-known.ensures.0 ∙ e)) refl

pub get-cone-requires : goal.get-cone-requires
get-cone-requires c =
    let inside = c.requires.0.tree.inside c.args.v c.requires.1.inside in
    omega arith

pub grow-next-requires : goal.grow-next-requires
grow-next-requires c =
    let unknown = sym c.get-known.ensures.0 ∙ c.if-known-ne0.false in
    record {
      edges = c.requires.0.edges;
      some = c.requires.1.some unknown;
      inside = c.requires.1.inside;
      formed = subst⁻¹ (Formed (length c.args.parent.now))
          (c.get-cone.ensures.0 ∙ ap (λ (p : ℕ). get_or c.args.work.now p 0) c.get-p.ensures.0)
          (c.requires.1.formed unknown);
    }

pub returns : goal.returns
returns c =
    grown c.grow-next.result (sym c.get-known.ensures.0 ∙ c.if-known-ne0.false)
    (subst (λ (k : ℕ). Grown (length c.args.parent.now) (edge_at (length c.args.parent.now) c.args.work.now) k
    c.args.v c.grow-next.result)
    (c.get-cone.ensures.0 ∙ ap (λ (p : ℕ). get_or c.args.work.now p 0) c.get-p.ensures.0) c.grow-next.ensures)
    c.put.ensures
