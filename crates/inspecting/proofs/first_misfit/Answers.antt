-- The root by itself, then the others in either order.
use mathlib.Core.Path.{sym, ◌∙◌}
use Rattle.inspecting.proofs.Fitting.{misfit_root, none-misfit}
use Rattle.inspecting.proofs.first_misfit.Goals as goal

pub returns-then-not-root : goal.returns-then-not-root
returns-then-not-root c =
    misfit_root _ _ _ _ _ c.requires.numbered.tree.some c.root_fits-root.ensures
    c.if-not-root.true

pub misfit_by_node-requires : goal.misfit_by_node-requires
misfit_by_node-requires c = (c.requires, sym c.root_fits-root.ensures ∙ c.if-not-root.false)

pub all_fit-fit-requires : goal.all_fit-fit-requires
all_fit-fit-requires c = (c.requires, sym c.root_fits-root.ensures ∙ c.if-not-root.false)

pub returns-then-fit : goal.returns-then-fit
returns-then-fit c = none-misfit c.all_fit-fit.ensures c.if-fit.true

pub misfit_by_node-requires-in-Balanced : goal.misfit_by_node-requires-in-Balanced
misfit_by_node-requires-in-Balanced c = (c.requires, sym c.root_fits-root.ensures ∙ c.if-not-root.false)
