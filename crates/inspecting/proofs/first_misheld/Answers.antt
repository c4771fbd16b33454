-- No entry below z is wrong.
use native.Mathlib.Omega.{arith}
use borrow.Author.Count.{below_more, below_none}
use Rattle.laws.specs.SearchLaws.{least_is}
use Rattle.inspecting.proofs.Fitting.{root_misheld, root_unheld, node_misheld, node_well}
use Rattle.inspecting.proofs.first_misheld.Goals as goal

pub returns-then-get-ne0 : goal.returns-then-get-ne0
returns-then-get-ne0 c =
    least_is _ _ _ (omega arith) (λ k l. absurd (omega arith))
    (λ l. root_misheld _ c.get.ensures.0 c.if-get-ne0.true)

pub loop-z-init : goal.loop-z-init
loop-z-init c = below_more _ 0 (below_none _) (root_unheld _ c.get.ensures.0 c.if-get-ne0.false)

pub returns-then-get-gt1 : goal.returns-then-get-gt1
returns-then-get-gt1 c =
    least_is _ _ _ (omega arith) c.loop-z.invariant
    (λ l. node_misheld _ _ c.loop-z.auto.z c.get-in-loop-z.ensures.0 c.if-get-gt1.true)

pub loop-z-preserved : goal.loop-z-preserved
loop-z-preserved c =
    below_more _ _ c.loop-z.invariant (node_well _ _ c.loop-z.auto.z c.get-in-loop-z.ensures.0 c.if-get-gt1.false)

pub returns : goal.returns
returns c = least_is _ _ _ (omega arith) (λ k l. c.loop-z.invariant k (omega arith)) (λ l. absurd (omega arith))
