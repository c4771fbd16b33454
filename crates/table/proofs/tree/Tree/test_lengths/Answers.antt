-- One test after the other.
use Rattle.table.proofs.Validation.{refused_1, refused_2, refused_3_ranks, refused_3_others, refused_3_work}
use Rattle.table.proofs.Validation.{lengths_right}
use Rattle.table.specs.Validity.{told}
use Rattle.table.proofs.tree.Tree.test_lengths.Goals as goal

pub returns-then-self-n : goal.returns-then-self-n
returns-then-self-n c =
    told c.at-then-self-n.ensures (refused_3_ranks c.args.limits _ _ _ _ c.if-n-eq0.false c.if-most-n.false c.if-self-n.true)

pub returns-then-not-long : goal.returns-then-not-long
returns-then-not-long c =
    told c.at-then-not-long.ensures (refused_3_others c.args.limits _ _ _ _ c.if-n-eq0.false c.if-most-n.false
    c.if-not-long.true)

pub returns-then-work-n : goal.returns-then-work-n
returns-then-work-n c =
    told c.at-then-work-n.ensures (refused_3_work c.args.limits _ _ _ _ c.if-n-eq0.false c.if-most-n.false c.if-work-n.true)

pub returns : goal.returns
returns c =
    lengths_right c.args.limits _ _ _ _ c.if-n-eq0.false c.if-most-n.false c.if-self-n.false c.if-not-long.false
    c.if-work-n.false

pub returns-then-n-eq0 : goal.returns-then-n-eq0
returns-then-n-eq0 c = told c.at.ensures (refused_1 c.args.limits _ _ _ _ c.if-n-eq0.true)

pub returns-then-most-n : goal.returns-then-most-n
returns-then-most-n c =
    told c.at-then-most-n.ensures (refused_2 c.args.limits _ _ _ _ c.if-n-eq0.false c.if-most-n.true)
