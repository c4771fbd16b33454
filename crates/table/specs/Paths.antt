-- Edges and tree paths of a drawing (document 01, "Direction", "Lists of calls").
--
-- A drawing gives each node a place: its numbers in the lists x and y. Slopes and rules play no part here.
--
--   step c a b                     == end minus start of the way from node a to node b, in the coordinate c
--   Rises x y d e a b              == the edge walked from node a to node b rises along (d, e)
--   PathRises P x y d e u v        == so does every edge of the tree path from u to v, walked that way: up to the
--                                     lowest common ancestor, then down
--   along c m i a b                == m × A + i × (B - A) in the coordinate c, for A at node a and B at node b
--   SharePoint x y a b c d m i j   == the edges from a to b and from c to d share the point that m, i and j give
--   CommonEnd x y a b c d m i      == that point is m × the place of a node that is an end of both
use Rattle.std.specs.Prelude.{List, ◌⊎◌, ◌≡◌, ℕ, suc, ◌*◌, ◌≤◌, ◌<◌, ℤ, pos, ◌+ℤ◌, ◌-ℤ◌, ◌*ℤ◌, get_or, ◌<ℤ◌}
use Rattle.table.specs.Table.{climb, steps_up}

------------------------------------------------------------------------
-- Rising

abbrev pub step : List ℕ → ℕ → ℕ → ℤ
step c a b = pos (get_or c b 0) -ℤ pos (get_or c a 0)

pub record Rises (x y : List ℕ) (d e : ℤ) (a b : ℕ) : Type 0 where
  pub above_0 : pos 0 <ℤ (d *ℤ step x a b +ℤ e *ℤ step y a b)

pub record PathRises (P x y : List ℕ) (d e : ℤ) (u v : ℕ) : Type 0 where
  pub going_up : (i : ℕ) → i < steps_up P u v → Rises x y d e (climb P i u) (climb P (suc i) u)
  pub going_down : (j : ℕ) → j < steps_up P v u → Rises x y d e (climb P (suc j) v) (climb P j v)

------------------------------------------------------------------------
-- Shared points

abbrev pub along : List ℕ → ℕ → ℕ → ℕ → ℕ → ℤ
along c m i a b = pos m *ℤ pos (get_or c a 0) +ℤ pos i *ℤ step c a b

pub record SharePoint (x y : List ℕ) (a b c d m i j : ℕ) : Type 0 where
  pub whole : 1 ≤ m
  pub i_in : i ≤ m
  pub j_in : j ≤ m
  pub same_x : along x m i a b ≡ along x m j c d
  pub same_y : along y m i a b ≡ along y m j c d

pub record CommonEnd (x y : List ℕ) (a b c d m i : ℕ) : Type 0 where
  pub node : ℕ
  pub end_of_first : (node ≡ a) ⊎ (node ≡ b)
  pub end_of_second : (node ≡ c) ⊎ (node ≡ d)
  pub at_x : along x m i a b ≡ pos (m * get_or x node 0)
  pub at_y : along y m i a b ≡ pos (m * get_or y node 0)
