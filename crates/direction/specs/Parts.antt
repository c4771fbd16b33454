-- What the inner functions of the direction call require and give.
--
--   TwoNodes P u v      == u and v are nodes
--   Apart P u v         == and v is not in u's subtree
--   TwoEdges P u v      == u and v are nodes, and neither is the root: each has an edge
--   SmallSlope s        == the parts of the slope s are below the largest number of nodes
--   PairAnswered .. r   == r is the answer for an accepted table
use Rattle.std.specs.Prelude.{false, List, ◌≡◌, ℕ, ◌<◌, length}
use Rattle.laws.specs.Search.{refused_or}
use Rattle.table.specs.Table.{under, large}
use Rattle.slopes.specs.declared.Rule.{Rule}
use Rattle.slopes.specs.declared.Slope.{Slope}
use Rattle.direction.specs.Heading.{Heading}
use Rattle.direction.specs.Heading.{Refused}
use Rattle.direction.specs.Direction.{course, pair_fault}

pub record TwoNodes (P : List ℕ) (u v : ℕ) : Type 0 where
  pub first : u < length P
  pub second : v < length P

pub record Apart (P : List ℕ) (u v : ℕ) : Type 0 where
  pub pair : TwoNodes P u v
  pub not_over : under P u v ≡ false

pub record TwoEdges (P : List ℕ) (u v : ℕ) : Type 0 where
  pub pair : TwoNodes P u v
  pub first : 0 < u
  pub second : 0 < v

pub record SmallSlope (s : Slope) : Type 0 where
  pub across : s.across < large.nodes
  pub up : s.up < large.nodes

pub record PairAnswered (P R : List ℕ) (rule : Rule) (u v : ℕ) (r : Heading) : Type 0 where
  pub answer : r ≡ refused_or Refused (pair_fault (length P) u v) (course P R rule u v)
