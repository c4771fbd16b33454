-- Each refusal is decided over all nodes before the next.
use Rattle.std.proofs.Common.{sym, ◌∙◌, arith}
use Rattle.std.proofs.lemmas.Result.{err_from_is_err_and}
use Rattle.table.specs.Acceptance.{validity-accepted, validity_refused}
use Rattle.table.proofs.FirstSlots.{scratch_kept}
use Rattle.table.proofs.Validation.{structured_5, scratch_of, started_kept, structured_6, structured_7}
use Rattle.table.proofs.tree.Tree.structure.Goals as goal

pub returns-in_err-test_parents : goal.returns-in_err-test_parents
returns-in_err-test_parents c =
    let p = err_from_is_err_and c.from_residual.result c.from_residual.ensures.1 in
    rw (p.1, p.2) (structured_5 c.requires (validity_refused _ _ _ (sym c.in_err-test_parents.ensures)))

pub starts-requires : goal.starts-requires
starts-requires c = scratch_of c.requires (validity-accepted _ (sym c.in_ok-test_parents.ensures))

pub occupy-requires-clause-scratch : goal.occupy-requires-clause-scratch
occupy-requires-clause-scratch c = (
  scratch_kept (scratch_of c.requires (validity-accepted _ (sym c.in_ok-test_parents.ensures))) c.starts.ensures.2.long,
  c.requires.lengths.ranks,
)

pub test_ranks-requires-clause-scratch : goal.test_ranks-requires-clause-scratch
test_ranks-requires-clause-scratch c = (
  scratch_kept (scratch_of c.requires (validity-accepted _ (sym c.in_ok-test_parents.ensures)))
      (c.occupy.ensures.1.long ∙ c.starts.ensures.2.long),
  c.requires.lengths.ranks,
)

pub test_ranks-requires-clause-started : goal.test_ranks-requires-clause-started
test_ranks-requires-clause-started c = (
  started_kept c.requires (validity-accepted _ (sym c.in_ok-test_parents.ensures)) c.starts.ensures c.occupy.ensures,
  c.occupy.ensures.0,
)

pub returns-in_err-test_ranks : goal.returns-in_err-test_ranks
returns-in_err-test_ranks c =
    let p = err_from_is_err_and c.from_residual-in_err-test_ranks.result c.from_residual-in_err-test_ranks.ensures.1 in
    rw (p.1, p.2) (structured_6 c.requires (validity-accepted _ (sym c.in_ok-test_parents.ensures)) c.starts.ensures
    c.occupy.ensures (validity_refused _ _ _ (sym c.in_err-test_ranks.ensures)))

pub test_paths-requires : goal.test_paths-requires
test_paths-requires c =
    let no_5 = validity-accepted _ (sym c.in_ok-test_parents.ensures) in
    let started = started_kept c.requires no_5 c.starts.ensures c.occupy.ensures in (
      scratch_kept (scratch_of c.requires no_5)
          (c.clear.ensures.1.long ∙ c.occupy.ensures.1.long ∙ c.starts.ensures.2.long),
      record { at = λ p l. c.clear.ensures.1.below p (omega arith) ∙ started.at p l },
      c.clear.ensures.0,
    )

pub returns : goal.returns
returns c =
    structured_7 c.requires (validity-accepted _ (sym c.in_ok-test_parents.ensures)) c.starts.ensures c.occupy.ensures
    (validity-accepted _ (sym c.in_ok-test_ranks.ensures)) c.clear.ensures.1 c.test_paths.ensures
