-- v's slot is below the first slot of the next node's children exactly when v's rank is below its parent's number of
-- children.
use native.Mathlib.Omega.{arith}
use Rattle.laws.specs.Regions.{only_refl}
use Rattle.table.proofs.Seats.{turn, seat_room, seating_none, seating_few, seating_step}
use Rattle.table.proofs.tree.Tree.seat.Goals as goal

pub get-requires : goal.get-requires
get-requires c = omega (arith, c.requires.0.scratch.nodes.inside _ c.requires.1, c.requires.0.scratch.room)

pub get-e-requires : goal.get-e-requires
get-e-requires c = omega (arith, c.requires.0.scratch.nodes.inside _ c.requires.1, c.requires.0.scratch.room)

pub returns-then-e-s : goal.returns-then-e-s
returns-then-e-s c = (
  seating_none c.requires.0 c.requires.1
      (turn c.get-p.ensures.0 c.get-r.ensures.0 c.get.ensures.0
      c.get-e.ensures.0) c.if-e-s.true,
  only_refl _ _ _,
)

pub get-o-requires : goal.get-o-requires
get-o-requires c =
    seat_room {R = c.args.self.now.rank.now} c.requires.0.scratch c.requires.0.started c.requires.1
    (turn c.get-p.ensures.0 c.get-r.ensures.0 c.get.ensures.0
    c.get-e.ensures.0) c.if-e-s.false

pub put-requires : goal.put-requires
put-requires c = (
  seat_room {R = c.args.self.now.rank.now} c.requires.0.scratch c.requires.0.started
      c.requires.1 (turn c.get-p.ensures.0 c.get-r.ensures.0 c.get.ensures.0
      c.get-e.ensures.0) c.if-e-s.false,
  omega (
    arith,
    seating_few c.requires.0 c.requires.1
        (turn c.get-p.ensures.0 c.get-r.ensures.0 c.get.ensures.0
        c.get-e.ensures.0) c.if-e-s.false c.get-o.ensures.0,
    c.requires.0.scratch.few,
  ),
)

pub returns : goal.returns
returns c =
    seating_step c.requires.0 c.requires.1
    (turn c.get-p.ensures.0 c.get-r.ensures.0 c.get.ensures.0
    c.get-e.ensures.0) c.if-e-s.false c.get-o.ensures.0 c.put.ensures
