-- The tests in document 01's order, then the table by `load`.
use borrow.Author.Rules.{rules}
use Rattle.treefile.proofs.Opening.{refused_16, refused_1, refused_2, refused_17, refused_3_parents}
use Rattle.treefile.proofs.Opening.{refused_3_ranks, refused_3_work, opened, read}
use Rattle.treefile.proofs.read_tree.Goals as goal

pub returns-then-bytes-lt4 : goal.returns-then-bytes-lt4
returns-then-bytes-lt4 c =
    rw c.at.ensures (refused_16 _ _ _ _ _ c.if-bytes-lt4.true)

pub returns-then-n-eq0 : goal.returns-then-n-eq0
returns-then-n-eq0 c =
    rw c.at-then-n-eq0.ensures (refused_1 _ _ _ _ _ c.if-bytes-lt4.false c.word-n.ensures.0 c.if-n-eq0.true)

pub returns-then-most-n : goal.returns-then-most-n
returns-then-most-n c =
    rw c.at-then-most-n.ensures (refused_2 _ _ _ _ _ c.if-bytes-lt4.false c.word-n.ensures.0 c.if-n-eq0.false
    c.if-most-n.true)

pub returns-then-bytes-n : goal.returns-then-bytes-n
returns-then-bytes-n c =
    rw c.at-then-bytes-n.ensures (refused_17 _ _ _ _ _ c.if-bytes-lt4.false c.word-n.ensures.0 c.if-n-eq0.false
    c.if-most-n.false c.if-bytes-n.true)

pub returns-then-parent-n : goal.returns-then-parent-n
returns-then-parent-n c =
    rw c.at-then-parent-n.ensures (refused_3_parents _ _ _ _ _ c.if-bytes-lt4.false c.word-n.ensures.0 c.if-n-eq0.false
    c.if-most-n.false c.if-bytes-n.false c.if-parent-n.true)

pub returns-then-rank-n : goal.returns-then-rank-n
returns-then-rank-n c =
    rw c.at-then-rank-n.ensures (refused_3_ranks _ _ _ _ _ c.if-bytes-lt4.false c.word-n.ensures.0 c.if-n-eq0.false
    c.if-most-n.false c.if-bytes-n.false c.if-rank-n.true)

pub returns-then-work-n : goal.returns-then-work-n
returns-then-work-n c =
    rw c.at-then-work-n.ensures (refused_3_work _ _ _ _ _ c.if-bytes-lt4.false c.word-n.ensures.0 c.if-n-eq0.false
    c.if-most-n.false c.if-bytes-n.false c.if-work-n.true)

pub load-requires : goal.load-requires
load-requires c =
    opened _ _ _ _ _ c.if-bytes-lt4.false c.word-n.ensures.0 c.if-n-eq0.false
    c.if-most-n.false c.if-bytes-n.false c.word-n.ensures.1 c.if-parent-n.false
    c.if-rank-n.false c.if-work-n.false

pub returns : goal.returns
returns c =
    read _ _ _ _ _ c.if-bytes-lt4.false c.word-n.ensures.0 c.if-n-eq0.false
    c.if-most-n.false c.if-bytes-n.false c.word-n.ensures.1 c.if-parent-n.false
    c.if-rank-n.false c.if-work-n.false (search rules) c.load.ensures
