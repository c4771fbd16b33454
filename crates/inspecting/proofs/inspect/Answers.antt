-- Refusals 1 to 7, then 8, of the drawing and of held.
use Rattle.std.proofs.Common.{refl}
use Rattle.std.proofs.lemmas.Result.{err_from_is_err_and}
use native.Mathlib.Omega.{arith}
use Rattle.inspecting.proofs.Inspecting.{first_fault, inspecting_table, inspecting_8, inspecting_all}
use Rattle.inspecting.proofs.inspect.Goals as goal

pub first_misfit-u-requires : goal.first_misfit-u-requires
first_misfit-u-requires c = (c.in_ok-prepare.ensures.left refl).sized

pub first_misheld-requires : goal.first_misheld-requires
first_misheld-requires c =
    let lists = c.in_ok-prepare.ensures.left refl in
    omega (arith, lists.held, lists.sized.numbered.tree.some)

pub at-requires : goal.at-requires
at-requires c =
    let few = (c.in_ok-prepare.ensures.left refl).sized.numbered.few in
    omega arith

pub returns-then-v-n : goal.returns-then-v-n
returns-then-v-n c =
    rw c.at.ensures (inspecting_8 _ c.in_ok-prepare.ensures refl
    (first_fault _ _ _ _ _ c.first_misfit-u.ensures c.first_misheld.ensures
    (c.in_ok-prepare.ensures.left refl).held c.min-v.ensures)
    c.if-v-n.true)

pub returns-in_err-prepare : goal.returns-in_err-prepare
returns-in_err-prepare c =
    let p = err_from_is_err_and c.from_residual.result c.from_residual.ensures.1 in
    rw (p.1, p.2) (inspecting_table _ c.in_err-prepare.ensures refl)

pub returns : goal.returns
returns c =
    inspecting_all _ c.in_ok-prepare.ensures refl
    (first_fault _ _ _ _ _ c.first_misfit-u.ensures c.first_misheld.ensures
    (c.in_ok-prepare.ensures.left refl).held c.min-v.ensures)
    c.if-v-n.false
