-- The call that fills in post numbers (document 02, request 107; refusals 1 to 7).
--
--   spans first last  == the two lists that are lent
--   both_long P s      == they are as long as P
--   spans_of P R       == the first and the last post number in each node's subtree; a node's own is the last
--   post_numbers L ..  == the call: what it answers, and the lists that it leaves
--   Spanned L .. r    == its contract
use Rattle.std.specs.Prelude.{Bool, List, [], ◌∷◌, ◌≡◌, ℕ, length}
use Rattle.laws.specs.Search.{tabulate, Outcome, settle}
use Rattle.table.specs.Counted.{Counted}
use Rattle.table.specs.Counted.{Nodes, Refused}
use Rattle.table.specs.declared.Limits.{Limits}
use Rattle.table.specs.Table.{post_number, first_number, all_long, shape_fault, table_fault, Called}

pub record Spans : Type 0 where
  pub first : List ℕ
  pub last : List ℕ

abbrev pub spans : List ℕ → List ℕ → Spans
spans first last = record { first = first; last = last }

abbrev pub both_long : List ℕ → Spans → Bool
both_long P s = all_long (length P) (s.first ∷ s.last ∷ [])

unfoldable pub spans_of : List ℕ → List ℕ → Spans
spans_of P R = spans (tabulate (length P) (first_number P R)) (tabulate (length P) (post_number P R))

-- work: the length of the work list, whose contents don't matter
unfoldable pub post_numbers : Limits → List ℕ → List ℕ → Spans → ℕ → Outcome Counted Spans
post_numbers L P R s work =
    settle Refused (table_fault L P R (both_long P s) work) s (Nodes (length P)) (spans_of P R)

-- s and W are the lists and the work list at entry, t and X those at exit
abbrev pub Spanned : Limits → List ℕ → List ℕ → Spans → List ℕ → Spans → List ℕ → Counted → Type 0
Spanned L P R s W t X r =
    Called (shape_fault L P R (both_long P s) (length W)) W X
    (record { answer = r; left = t } ≡ post_numbers L P R s (length W))
