-- Directions that are easy to get wrong, computed: one table, one theorem.
use Rattle.std.specs.Prelude.{List, [], ◌∷◌, map, ◌≡◌, refl, ℕ, pos, neg_ℤ}
use Rattle.laws.specs.Search.{count, least}
use Rattle.table.specs.Table.{climb, leads, is_child, children, is_child_at, child_at, under, steps_up}
use Rattle.table.specs.Table.{forest, postorder, place, order, post_number}
use Rattle.table.specs.Table.{stray_parent, bad_rank, adrift, large, shape_fault, tree_fault, table_fault}
use Rattle.slopes.specs.declared.Rule.TheVariants.{Steep}
use Rattle.slopes.specs.Slopes.{slope_at, edge}
use Rattle.direction.specs.Heading.{Heading}
use Rattle.direction.specs.Heading.{Along, Refused}
use Rattle.direction.specs.Direction.{sideways, heading, pair_fault, direction}

pub record Case : Type 0 where
  pub start : ℕ
  pub end : ℕ
  pub answer : Heading

-- of the five-lot table under the steep rule
unfoldable pub cases : List Case
cases =
    -- up to an ancestor
    record { start = 4; end = 0; answer = Along (neg_ℤ (pos 1)) (neg_ℤ (pos 1)) }
    -- from the root to itself
    ∷ record { start = 0; end = 0; answer = Along (pos 1) (pos 1) }
    -- to lot n, which there is not, from itself and from a lot
    ∷ record { start = 5; end = 5; answer = Refused 9 0 }
    ∷ record { start = 4; end = 5; answer = Refused 9 0 }
    ∷ []

unfoldable pub five : ℕ → ℕ → Heading
unfolding count least climb leads is_child children is_child_at child_at under steps_up forest postorder place order
    post_number stray_parent bad_rank adrift shape_fault tree_fault table_fault slope_at edge sideways heading pair_fault
    direction
five u v = direction large (0 ∷ 0 ∷ 0 ∷ 1 ∷ 1 ∷ []) (0 ∷ 0 ∷ 1 ∷ 0 ∷ 1 ∷ []) Steep 20 u v

pub cases_right : map (λ (c : Case). five c.start c.end) cases ≡ map (λ (c : Case). c.answer) cases
unfolding cases five
cases_right = refl
