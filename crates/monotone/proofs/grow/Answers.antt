-- Each return is a case of `Growth`: a shut cone stays shut, the first edge is a cone of its own, else the move says.
use mathlib.Core.Path.{subst}
use Rattle.monotone.specs.Plane.{Vec}
use Rattle.monotone.specs.Cones.{Alone}
use Rattle.monotone.proofs.Growth.{grow_shut, grow_first, grow_keep, grow_high, grow_low, grow_never, moved_to}
use Rattle.monotone.proofs.grow.Goals as goal

pub returns-then-cone-eq-SHUT : goal.returns-then-cone-eq-SHUT
returns-then-cone-eq-SHUT c = grow_shut c.requires c.if-cone-eq-SHUT.true

pub returns-then-cone-eq-EMPTY : goal.returns-then-cone-eq-EMPTY
returns-then-cone-eq-EMPTY c =
    grow_first c.requires c.if-cone-eq-EMPTY.true
    (subst (λ (e : Vec). Alone c.args.z e c.alone.result) c.edge-e.ensures.0 c.alone.ensures)

pub edge-a-requires : goal.edge-a-requires
edge-a-requires c =
    let pair = c.requires.formed.pair c.if-cone-eq-EMPTY.false c.if-cone-eq-SHUT.false in
    (c.requires.edges, pair.low, pair.low_in)

pub edge-b-requires : goal.edge-b-requires
edge-b-requires c =
    let pair = c.requires.formed.pair c.if-cone-eq-EMPTY.false c.if-cone-eq-SHUT.false in
    (c.requires.edges, pair.high, pair.high_in)

pub returns-in-Keep : goal.returns-in-Keep
returns-in-Keep c =
    grow_keep c.requires c.step.result (moved_to c.edge-a.ensures.0 c.edge-b.ensures.0 c.edge-e.ensures.0
    c.step.ensures) (c.requires.formed.pair c.if-cone-eq-EMPTY.false c.if-cone-eq-SHUT.false) c.in-Keep.is

pub returns-in-High : goal.returns-in-High
returns-in-High c =
    grow_high c.requires c.step.result (moved_to c.edge-a.ensures.0 c.edge-b.ensures.0 c.edge-e.ensures.0
    c.step.ensures) (c.requires.formed.pair c.if-cone-eq-EMPTY.false c.if-cone-eq-SHUT.false) c.in-High.is

pub returns-in-Low : goal.returns-in-Low
returns-in-Low c =
    grow_low c.requires c.step.result (moved_to c.edge-a.ensures.0 c.edge-b.ensures.0 c.edge-e.ensures.0
    c.step.ensures) (c.requires.formed.pair c.if-cone-eq-EMPTY.false c.if-cone-eq-SHUT.false) c.in-Low.is

pub returns-in-Never : goal.returns-in-Never
returns-in-Never c =
    grow_never c.requires c.step.result (moved_to c.edge-a.ensures.0 c.edge-b.ensures.0 c.edge-e.ensures.0
    c.step.ensures) (c.requires.formed.pair c.if-cone-eq-EMPTY.false c.if-cone-eq-SHUT.false) c.in-Never.is
