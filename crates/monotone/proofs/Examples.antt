-- Drawings that the check can get wrong, computed: one table of cases, one theorem.
use Rattle.std.specs.Prelude.{List, [], ◌∷◌, map, ◌≡◌, refl, ℕ, ◌*◌, length}
use Rattle.laws.specs.Search.{count, least}
use Rattle.table.specs.Table.{climb, leads, is_child, children, is_child_at, under, steps_up, stray_parent, bad_rank}
use Rattle.table.specs.Table.{adrift}
use Rattle.table.specs.Table.{all_long, shape_fault, tree_fault, table_fault, checked}
use Rattle.monotone.specs.declared.Verdict.{Verdict}
use Rattle.monotone.specs.declared.Verdict.TheVariants.{Monotone, Turns, Refused}
use Rattle.monotone.specs.Monotone.{place_beyond, check_fault, Says}
use Rattle.monotone.specs.MonotoneLaws.{says_one}
use Rattle.monotone.proofs.Decision.{widen, span, upward, downward, path_vectors, turns_at, second_node, first_node}
use Rattle.monotone.proofs.Decision.{decide, decide_says}

pub record Case : Type 0 where
  pub parents : List ℕ
  pub ranks : List ℕ
  pub x : List ℕ
  pub y : List ℕ
  pub work : ℕ
  pub answer : Verdict

unfoldable pub decided : Case → Verdict
unfolding count least climb leads is_child children is_child_at under steps_up stray_parent bad_rank adrift all_long
    shape_fault tree_fault table_fault place_beyond check_fault
    widen span upward downward path_vectors turns_at second_node first_node decide
decided c = decide checked c.parents c.ranks c.x c.y c.work

-- a table with its places, and a work list of 4n
abbrev drawing : List ℕ → List ℕ → List ℕ → List ℕ → Verdict → Case
drawing P R x y r = record { parents = P; ranks = R; x = x; y = y; work = 4 * length P; answer = r }

unfoldable pub cases : List Case
cases =
    -- one lot alone
    drawing (0 ∷ []) (0 ∷ []) (5 ∷ []) (7 ∷ []) Monotone
    -- there and back: the edges are opposite
    ∷ drawing (0 ∷ 0 ∷ 1 ∷ []) (0 ∷ 0 ∷ 0 ∷ []) (0 ∷ 2 ∷ 1 ∷ []) (0 ∷ 4 ∷ 2 ∷ []) (Turns 0 2)
    -- a parent above its child
    ∷ drawing (0 ∷ 2 ∷ 0 ∷ []) (0 ∷ 0 ∷ 0 ∷ []) (0 ∷ 0 ∷ 1 ∷ []) (0 ∷ 0 ∷ 0 ∷ []) (Turns 0 1)
    -- (0, 3) comes before (1, 2)
    ∷ drawing (0 ∷ 0 ∷ 0 ∷ 0 ∷ []) (0 ∷ 0 ∷ 1 ∷ 2 ∷ []) (0 ∷ 1 ∷ 2 ∷ 0 ∷ []) (0 ∷ 0 ∷ 0 ∷ 0 ∷ []) (Turns 0 3)
    -- half a turn is no open half plane, and less than half a turn is one
    ∷ drawing (0 ∷ 0 ∷ 0 ∷ []) (0 ∷ 0 ∷ 1 ∷ []) (3 ∷ 4 ∷ 5 ∷ []) (0 ∷ 0 ∷ 0 ∷ []) (Turns 1 2)
    ∷ drawing (0 ∷ 0 ∷ 0 ∷ []) (0 ∷ 0 ∷ 1 ∷ []) (3 ∷ 4 ∷ 5 ∷ []) (0 ∷ 0 ∷ 1 ∷ []) Monotone
    -- no lot; a list or the work list of another length
    ∷ drawing [] [] [] [] (Refused 1 0)
    ∷ drawing (0 ∷ 0 ∷ []) (0 ∷ 0 ∷ []) (0 ∷ 1 ∷ []) (0 ∷ []) (Refused 3 0)
    ∷ record { parents = 0 ∷ []; ranks = 0 ∷ []; x = 0 ∷ []; y = 0 ∷ []; work = 5; answer = Refused 3 0 }
    -- the largest place; the smallest lot beyond it; 7 before 15
    ∷ drawing (0 ∷ 0 ∷ []) (0 ∷ 0 ∷ []) (0 ∷ 2147483647 ∷ []) (0 ∷ 2147483647 ∷ []) Monotone
    ∷ drawing (0 ∷ 0 ∷ 0 ∷ []) (0 ∷ 0 ∷ 1 ∷ []) (0 ∷ 0 ∷ 2147483648 ∷ []) (0 ∷ 2147483648 ∷ 0 ∷ []) (Refused 15 1)
    ∷ drawing (0 ∷ 2 ∷ 1 ∷ []) (0 ∷ 0 ∷ 0 ∷ []) (2147483648 ∷ 0 ∷ 0 ∷ []) (0 ∷ 0 ∷ 0 ∷ []) (Refused 7 1)
    ∷ []

pub cases_right : map decided cases ≡ map (λ (c : Case). c.answer) cases
unfolding decided cases
cases_right = refl

-- and so of whatever the check says
pub says_decided : (c : Case) (r : Verdict)
    → Says checked c.parents c.ranks c.x c.y c.work r → r ≡ decided c
unfolding decided
says_decided c r s =
    says_one checked c.parents c.ranks c.x c.y c.work r _ s
    (decide_says checked c.parents c.ranks c.x c.y c.work)
