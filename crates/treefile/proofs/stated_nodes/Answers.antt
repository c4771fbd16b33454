-- By the test on the length.
use mathlib.Core.Path.{refl}
use borrow.Author.Tests.{lt-ltb, le-ltb}
use Rattle.treefile.specs.TreeFile.{stated_nodes, stated_or_zero}
use Rattle.treefile.proofs.stated_nodes.Goals as goal

pub returns-then-size-lt4 : goal.returns-then-size-lt4
unfolding stated_or_zero
returns-then-size-lt4 c = rw (lt-ltb _ 4 c.if-size-lt4.true) refl

pub returns : goal.returns
unfolding stated_or_zero stated_nodes
returns c = rw (le-ltb _ 4 c.if-size-lt4.false) c.word.ensures.0
