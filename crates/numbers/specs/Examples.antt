-- Calls that are easy to get wrong, computed: one table of cases, one theorem.
use Rattle.std.specs.Prelude.{List, [], ◌∷◌, map, ◌≡◌, refl, ℕ, ◌*◌, length}
use Rattle.laws.specs.Search.{count, least, tabulate, Outcome}
use Rattle.table.specs.Counted.{Counted}
use Rattle.table.specs.Counted.{Nodes, Refused}
use Rattle.table.specs.Table.{climb, leads, is_child, children, is_child_at, child_at, under, forest, postorder, order}
use Rattle.table.specs.Table.{place, post_number, has_number, first_number, large, stray_parent, bad_rank, adrift}
use Rattle.table.specs.Table.{all_long}
use Rattle.table.specs.Table.{shape_fault, tree_fault, table_fault}
use Rattle.numbers.specs.PostNumbers.{Spans, spans, spans_of, post_numbers}

pub record Case : Type 0 where
  pub parents : List ℕ
  pub ranks : List ℕ
  pub before : Spans
  pub after : Outcome Counted Spans

unfoldable pub cases : List Case
cases =
    -- one lot
    record {
      parents = 0 ∷ [];
      ranks = 0 ∷ [];
      before = spans (7 ∷ []) (8 ∷ []);
      after = record { answer = Nodes 1; left = spans (1 ∷ []) (1 ∷ []) };
    }
    -- a parent above its child: lots 1 and 3 hang on 2
    ∷ record {
      parents = 0 ∷ 2 ∷ 0 ∷ 2 ∷ [];
      ranks = 0 ∷ 1 ∷ 0 ∷ 0 ∷ [];
      before = spans (7 ∷ 7 ∷ 7 ∷ 7 ∷ []) (8 ∷ 8 ∷ 8 ∷ 8 ∷ []);
      after = record { answer = Nodes 4; left = spans (1 ∷ 2 ∷ 1 ∷ 1 ∷ []) (4 ∷ 2 ∷ 3 ∷ 1 ∷ []) };
    }
    -- a list of last numbers that is too long, and a loop: the lists stay
    ∷ record {
      parents = 0 ∷ [];
      ranks = 0 ∷ [];
      before = spans (7 ∷ []) (8 ∷ 8 ∷ []);
      after = record { answer = Refused 3 0; left = spans (7 ∷ []) (8 ∷ 8 ∷ []) };
    }
    ∷ record {
      parents = 0 ∷ 1 ∷ [];
      ranks = 0 ∷ 0 ∷ [];
      before = spans (7 ∷ 7 ∷ []) (8 ∷ 8 ∷ []);
      after = record { answer = Refused 7 1; left = spans (7 ∷ 7 ∷ []) (8 ∷ 8 ∷ []) };
    }
    ∷ []

pub cases_right : map (λ (c : Case). post_numbers large c.parents c.ranks c.before (4 * length c.parents))
    cases ≡ map (λ (c : Case). c.after) cases
unfolding cases post_numbers spans_of table_fault shape_fault tree_fault count least tabulate climb leads is_child children
    is_child_at child_at under forest postorder order place post_number has_number first_number stray_parent bad_rank adrift
    all_long
cases_right = refl
