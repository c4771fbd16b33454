-- A refused table leaves the lists; an accepted one is numbered, and its numbers are copied out.
use Rattle.std.proofs.Common.{refl}
use Rattle.std.proofs.lemmas.Result.{err_from_is_err_and}
use native.Mathlib.Omega.{arith}
use Rattle.numbers.specs.PostNumbers.{spans}
use Rattle.numbers.proofs.Spanning.{room, refused, copied}
use Rattle.numbers.proofs.post_numbers.Goals as goal

pub copy_out-requires : goal.copy_out-requires
copy_out-requires c =
    let long = (room _ _ (spans c.args.first.now c.args.last.now) c.limits.ensures c.both_long-long.ensures
    c.in_ok-prepare.ensures refl) in
    omega arith

pub copy_out-requires-2 : goal.copy_out-requires-2
copy_out-requires-2 c =
    let long = (room _ _ (spans c.args.first.now c.args.last.now) c.limits.ensures c.both_long-long.ensures
    c.in_ok-prepare.ensures refl) in
    omega arith

pub overflow_cast-result : goal.overflow_cast-result
overflow_cast-result c =
    let long = (room _ _ (spans c.args.first.now c.args.last.now) c.limits.ensures c.both_long-long.ensures
    c.in_ok-prepare.ensures refl) in
    omega arith

pub returns-in_err-prepare : goal.returns-in_err-prepare
returns-in_err-prepare c =
    let p = err_from_is_err_and c.from_residual.result c.from_residual.ensures.1 in
    rw (p.1, p.2) (refused _ _ (spans c.args.first.now c.args.last.now) c.limits.ensures c.both_long-long.ensures
    c.in_err-prepare.ensures refl)

pub returns : goal.returns
returns c =
    copied _ _ (spans c.args.first.now c.args.last.now) c.limits.ensures
    c.both_long-long.ensures c.in_ok-prepare.ensures refl
    c.copy_out.ensures c.copy_out-2.ensures
