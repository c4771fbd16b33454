-- Tables that are easy to get wrong, computed: one table of cases, one theorem.
use Rattle.std.specs.Prelude.{List, [], ◌∷◌, map, true, ◌≡◌, refl, ℕ, ◌*◌, length}
use Rattle.std.proofs.Math.Option.{Option, none}
use Rattle.laws.specs.Refusals.{refusal}
use Rattle.laws.specs.Search.{count, least, Refusal}
use Rattle.table.specs.Table.{climb, leads, is_child, children, is_child_at, stray_parent, bad_rank, adrift, large}
use Rattle.table.specs.Table.{shape_fault, tree_fault, table_fault}

unfoldable pub fault : List ℕ → List ℕ → Option Refusal
unfolding table_fault shape_fault tree_fault count least climb leads is_child children is_child_at stray_parent bad_rank adrift
fault P R = table_fault large P R true (4 * length P)

pub record Case : Type 0 where
  pub parents : List ℕ
  pub ranks : List ℕ
  pub answer : Option Refusal

unfoldable pub cases : List Case
cases =
    -- the five lots
    record { parents = 0 ∷ 0 ∷ 0 ∷ 1 ∷ 1 ∷ []; ranks = 0 ∷ 0 ∷ 1 ∷ 0 ∷ 1 ∷ []; answer = none }
    -- one lot; no lot
    ∷ record { parents = 0 ∷ []; ranks = 0 ∷ []; answer = none }
    ∷ record { parents = []; ranks = []; answer = refusal 1 0 }
    -- a parent above its child
    ∷ record { parents = 0 ∷ 2 ∷ 0 ∷ []; ranks = 0 ∷ 0 ∷ 0 ∷ []; answer = none }
    -- a rank list of another length
    ∷ record { parents = 0 ∷ 0 ∷ []; ranks = 0 ∷ []; answer = refusal 3 0 }
    -- the root's parent, and its rank
    ∷ record { parents = 1 ∷ 0 ∷ []; ranks = 0 ∷ 0 ∷ []; answer = refusal 4 0 }
    ∷ record { parents = 0 ∷ 0 ∷ []; ranks = 1 ∷ 0 ∷ []; answer = refusal 4 0 }
    -- a lot that hangs on a loop
    ∷ record { parents = 0 ∷ 3 ∷ 0 ∷ 3 ∷ []; ranks = 0 ∷ 0 ∷ 0 ∷ 1 ∷ []; answer = refusal 7 1 }
    -- a lot that is its own parent is its own child
    ∷ record { parents = 0 ∷ 0 ∷ 2 ∷ []; ranks = 0 ∷ 0 ∷ 0 ∷ []; answer = refusal 7 2 }
    -- the first holder of a doubled rank is named
    ∷ record { parents = 0 ∷ 0 ∷ 0 ∷ []; ranks = 0 ∷ 1 ∷ 1 ∷ []; answer = refusal 6 1 }
    -- a doubled rank and one out of range: the smaller lot of either kind
    ∷ record { parents = 0 ∷ 0 ∷ 0 ∷ 0 ∷ []; ranks = 0 ∷ 0 ∷ 3 ∷ 0 ∷ []; answer = refusal 6 1 }
    ∷ record { parents = 0 ∷ 0 ∷ 0 ∷ 0 ∷ []; ranks = 0 ∷ 3 ∷ 0 ∷ 0 ∷ []; answer = refusal 6 1 }
    -- 5 is decided over all lots before 6, 6 before 7, 4 before all
    ∷ record { parents = 0 ∷ 0 ∷ 9 ∷ []; ranks = 0 ∷ 7 ∷ 0 ∷ []; answer = refusal 5 2 }
    ∷ record { parents = 0 ∷ 1 ∷ 0 ∷ []; ranks = 0 ∷ 0 ∷ 5 ∷ []; answer = refusal 6 2 }
    ∷ record { parents = 1 ∷ 9 ∷ 2 ∷ []; ranks = 0 ∷ 7 ∷ 0 ∷ []; answer = refusal 4 0 }
    ∷ []

pub cases_right : map (λ (c : Case). fault c.parents c.ranks) cases ≡ map (λ (c : Case). c.answer) cases
unfolding fault cases
cases_right = refl
