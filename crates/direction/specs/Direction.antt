-- The direction of a tree path (document 01, "Direction"; document 02, request 109; refusal 9).
--
-- s gives each node the slope of its edge.
--
--   left_of t, right_of t      == (-b, a) and (b, -a), for t = (a, b): t turned left, and right, by a right angle
--   sideways R s u v p q     == the direction from u to v where neither is an ancestor of the other; p and q are the
--                               children of their lowest common ancestor towards u and towards v
--   heading P R s u v i j    == the direction from u to v; i and j are the steps from u and from v to that ancestor
--   course P R rule u v      == the direction from u to v under the rule
--   pair_fault n u v          == refusal 9
--   direction L ..           == the call: refusals 1 to 7 at the limits L, then 9, or the direction, from a node to
--                               itself too
--   Directed ..              == the call's contract
use Rattle.std.specs.Prelude.{true, cond, ◌||◌, List, ◌≡◌, ℕ, zero, suc, ltb, leb, pos, neg_ℤ, length}
use Rattle.std.proofs.Math.Option.{Option}
use Rattle.laws.specs.Search.{Refusal, refuse, ◌or_else◌, refused_or}
use Rattle.table.specs.declared.Limits.{Limits}
use Rattle.table.specs.Table.{rank, climb, steps_up, shape_fault, table_fault, Called}
use Rattle.slopes.specs.declared.Rule.{Rule}
use Rattle.slopes.specs.declared.Slope.{Slope}
use Rattle.slopes.specs.Slopes.{◌⊕◌, edge}
use Rattle.direction.specs.Heading.{Heading}
use Rattle.direction.specs.Heading.{Along, Refused}

------------------------------------------------------------------------
-- From one node to another

abbrev pub left_of : Slope → Heading
left_of t = Along (neg_ℤ (pos t.up)) (pos t.across)

abbrev pub right_of : Slope → Heading
right_of t = Along (pos t.up) (neg_ℤ (pos t.across))

unfoldable pub sideways : List ℕ → (ℕ → Slope) → ℕ → ℕ → ℕ → ℕ → Heading
sideways R s u v p q = cond (ltb (rank R p) (rank R q)) (left_of (s p ⊕ s v)) (right_of (s q ⊕ s u))

unfoldable pub heading : List ℕ → List ℕ → (ℕ → Slope) → ℕ → ℕ → ℕ → ℕ → Heading
heading P R s u v zero j = Along (pos 1) (pos 1)
heading P R s u v (suc i) zero = Along (neg_ℤ (pos 1)) (neg_ℤ (pos 1))
heading P R s u v (suc i) (suc j) = sideways R s u v (climb P i u) (climb P j v)

abbrev pub course : List ℕ → List ℕ → Rule → ℕ → ℕ → Heading
course P R rule u v = heading P R (edge P R rule) u v (steps_up P u v) (steps_up P v u)

------------------------------------------------------------------------
-- The call

unfoldable pub pair_fault : ℕ → ℕ → ℕ → Option Refusal
pair_fault n u v = refuse (leb n u || leb n v) 9 0

-- work: the length of the work list, whose contents don't matter
unfoldable pub direction : Limits → List ℕ → List ℕ → Rule → ℕ → ℕ → ℕ → Heading
direction L P R rule work u v =
    refused_or Refused (table_fault L P R true work or_else pair_fault (length P) u v) (course P R rule u v)

-- W and X are the work list before and after
abbrev pub Directed : Limits → List ℕ → List ℕ → Rule → List ℕ → List ℕ → ℕ → ℕ → Heading → Type 0
Directed L P R rule W X u v r =
    Called (shape_fault L P R true (length W)) W X (r ≡ direction L P R rule (length W) u v)
