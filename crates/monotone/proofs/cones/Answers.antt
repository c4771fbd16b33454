-- The list is cleared, climbed, spread over and turned back; each step says which region it leaves alone.
use mathlib.Core.Path.{subst, subst⁻¹, ◌∙◌}
use Prim.Native.Nat.{ℕ}
use native.Mathlib.Omega.{arith}
use Rattle.monotone.specs.Parts.{Reached, ConeKnown}
use Rattle.monotone.proofs.Spreading.{spreading_start, spreading_reached, spreading_step, coned}
use Rattle.monotone.proofs.Spreading.{ordered_kept, edges_stay, edges_away}
use Rattle.monotone.proofs.cones.Goals as goal

pub loop-j-init : goal.loop-j-init
loop-j-init c =
    spreading_start (ordered_kept (λ j h. c.cones_up.ensures.only.above j h ∙ c.clear.ensures.1.above j (omega arith))
    c.requires.1) c.cones_up.ensures.row

pub visit-requires : goal.visit-requires
visit-requires c =
    let climbed = edges_away c.cones_up.ensures.away c.cones_up.ensures.only.long
    (edges_stay c.clear.ensures.1 c.requires.0) in (
      edges_stay c.loop-j.invariant.only climbed,
      subst⁻¹ (Reached c.args.parent.now c.loop-j.work) c.get-v.ensures.0
          (spreading_reached c.requires.0.tree c.requires.2 climbed.edges c.loop-j-test.true c.loop-j.invariant),
    )

pub loop-j-preserved : goal.loop-j-preserved
loop-j-preserved c =
    let climbed = edges_away c.cones_up.ensures.away c.cones_up.ensures.only.long
    (edges_stay c.clear.ensures.1 c.requires.0) in
    spreading_step c.requires.0.tree c.requires.2 climbed.edges c.loop-j-test.true c.loop-j.invariant
    (subst (λ (v : ℕ). ConeKnown c.args.parent.now c.loop-j.work v c.visit.new.work)
    c.get-v.ensures.0 c.visit.ensures)

pub returns : goal.returns
returns c =
    coned c.clear.ensures.1 c.cones_up.ensures c.loop-j-test.false c.loop-j.invariant c.turn.ensures
