-- No node below v has a parent that is no node.
use Rattle.std.proofs.Common.{sym, ap, arith, below_more, below_none}
use Rattle.laws.specs.Refusals.{refuse_least_all, refuse_least_yes}
use Rattle.laws.specs.SearchLaws.{least_is}
use Rattle.table.specs.Acceptance.{validity}
use Rattle.table.specs.TableLaws.{stray_root, stray_yes, stray_no}
use Rattle.table.specs.Validity.{told}
use Rattle.table.proofs.Validation.{validity_of}
use Rattle.table.proofs.test_parents.Goals as goal

pub loop-v-init : goal.loop-v-init
loop-v-init c = below_more _ 0 (below_none _) (stray_root _)

pub returns-then-n-get : goal.returns-then-n-get
returns-then-n-get c =
    told c.at.ensures (validity_of (refuse_least_yes 5 _ _ _ (least_is _ _ _ (omega arith) c.loop-v.invariant
    (λ l. stray_yes _ _ (omega arith) (omega arith))) (omega arith)))

pub loop-v-preserved : goal.loop-v-preserved
loop-v-preserved c = below_more _ _ c.loop-v.invariant (stray_no _ _ (omega arith))

pub returns : goal.returns
unfolding validity
returns c =
    sym (ap validity (refuse_least_all 5 _ _ (λ k l. c.loop-v.invariant k (omega arith))))
