-- No node below v has a rank that is too high or a sibling's too.
use native.Mathlib.Omega.{arith}
use Rattle.table.proofs.Seats.{turn, seat_room, ranking_start, ranking_high, ranking_shared}
use Rattle.table.proofs.Seats.{ranking_step, ranking_end}
use Rattle.std.proofs.Common.{sym, ap}
use Rattle.table.specs.Acceptance.{validity}
use Rattle.table.specs.Validity.{told}
use Rattle.table.proofs.Validation.{validity_of}
use Rattle.table.proofs.tree.Tree.test_ranks.Goals as goal

pub loop-v-init : goal.loop-v-init
loop-v-init c = ranking_start _

pub get-requires : goal.get-requires
get-requires c =
    omega (
      arith,
      c.requires.scratch.0.nodes.inside _ c.loop-v-test.true,
      c.requires.scratch.0.room,
      c.get-p.ensures,
    )

pub get-requires-in-loop-v : goal.get-requires-in-loop-v
get-requires-in-loop-v c =
    omega (
      arith,
      c.requires.scratch.0.nodes.inside _ c.loop-v-test.true,
      c.requires.scratch.0.room,
      c.get-p.ensures,
    )

pub returns-then-get-s : goal.returns-then-get-s
returns-then-get-s c =
    told c.at.ensures (validity_of (ranking_high c.requires.scratch.0 c.requires.started.0 c.requires.started.1
    c.loop-v.invariant c.loop-v.auto.v c.loop-v-test.true
    (turn c.get-p.ensures.0 c.get-r.ensures.0 c.get.ensures.0
    c.get-in-loop-v.ensures.0) c.if-get-s.true))

pub get-requires-in-loop-v-2 : goal.get-requires-in-loop-v-2
get-requires-in-loop-v-2 c =
    seat_room {R = c.args.self.now.rank.now} c.requires.scratch.0 c.requires.started.0
    c.loop-v-test.true (turn c.get-p.ensures.0 c.get-r.ensures.0
    c.get.ensures.0 c.get-in-loop-v.ensures.0) c.if-get-s.false

pub returns-then-get-gt1 : goal.returns-then-get-gt1
returns-then-get-gt1 c =
    told c.at-then-get-gt1.ensures (validity_of (ranking_shared c.requires.scratch.0 c.requires.started.0 c.requires.started.1
    c.loop-v.invariant c.loop-v.auto.v c.loop-v-test.true
    (turn c.get-p.ensures.0 c.get-r.ensures.0 c.get.ensures.0
    c.get-in-loop-v.ensures.0) c.if-get-s.false c.get-in-loop-v-2.ensures.0 c.if-get-gt1.true))

pub loop-v-preserved : goal.loop-v-preserved
loop-v-preserved c =
    ranking_step c.requires.scratch.0 c.requires.started.0 c.requires.started.1
    c.loop-v.invariant c.loop-v.auto.v c.loop-v-test.true
    (turn c.get-p.ensures.0 c.get-r.ensures.0 c.get.ensures.0
    c.get-in-loop-v.ensures.0) c.if-get-s.false c.get-in-loop-v-2.ensures.0 c.if-get-gt1.false

pub returns : goal.returns
unfolding validity
returns c = sym (ap validity (ranking_end c.loop-v.invariant c.loop-v-test.false))
