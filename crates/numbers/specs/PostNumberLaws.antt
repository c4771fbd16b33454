-- What an accepted call leaves in its two lists.
--
--   Given P R n t  == P and R are a tree of n nodes, and t its first and last numbers
--   filled         == a call that answers n nodes leaves these
--   last_is_own    == a node's last number is its post number of document 01
--   leaf_both      == a node has both numbers equal exactly when it is a leaf
--   between        == z is in v's subtree exactly when its last number lies between v's first and last
use Rattle.std.specs.Prelude.{true, List, ◌↔◌, ◌≡◌, ℕ, ◌≤◌, ◌<◌, length}
use Rattle.std.proofs.Common.{sym, ◌∙◌, arith}
use Rattle.std.proofs.Math.Path.{ap}
use Rattle.std.proofs.Math.ListN.{get_or}
use Rattle.laws.specs.Refusals.{settle-accepted}
use Rattle.laws.specs.SearchLaws.{get_d_tabulate}
use Rattle.laws.specs.Tests.{by_lt}
use Rattle.table.specs.Acceptance.{accepting}
use Rattle.table.specs.Counted.{Nodes, Refused}
use Rattle.table.specs.declared.Limits.{Limits}
use Rattle.table.proofs.NumberingLaws.{numbering, number_start, first_child, leaf_number, first_is, in_subtree}
use Rattle.table.proofs.Postorder.{child_at_lem}
use Rattle.table.specs.Table.{under, children, child_at, post_number, first_number, table_fault}
use Rattle.table.specs.TableLaws.{Tree}
use Rattle.numbers.specs.PostNumbers.{Spans, both_long, spans_of, post_numbers}

pub record Given (P R : List ℕ) (n : ℕ) (t : Spans) : Type 0 where
  pub tree : Tree P R
  pub nodes : length P ≡ n
  pub is : spans_of P R ≡ t

pub filled : (L : Limits) (P R : List ℕ) (s : Spans) (work : ℕ) {n : ℕ} {t : Spans}
    → post_numbers L P R s work ≡ record { answer = Nodes n; left = t } → Given P R n t
unfolding post_numbers
filled L P R s work {n} {t} e =
    let none_and = settle-accepted Refused s (Nodes (length P)) (spans_of P R) (table_fault L P R (both_long P s) work)
    (λ k v q. absurd (let z : ◌≡◌ {A = ℕ} 0 1 = cc in omega arith)) e in
    let count : Nodes (length P) ≡ Nodes n = none_and.1 in
    record {
      tree = (accepting L P R (both_long P s) work none_and.0).tree;
      nodes = cc;
      is = none_and.2;
    }

module _ {P R : List ℕ} {n : ℕ} {t : Spans} (g : Given P R n t) where
  first_at : (v : ℕ) → v < length P → get_or t.first v 0 ≡ first_number P R v
  unfolding spans_of
  first_at v l =
      ap (λ (s : Spans). get_or s.first v 0) (sym g.is) ∙ get_d_tabulate (length P) (first_number P R) v l

  pub last_is_own : (v : ℕ) → v < length P → get_or t.last v 0 ≡ post_number P R v
  unfolding spans_of
  last_is_own v l =
      ap (λ (s : Spans). get_or s.last v 0) (sym g.is) ∙ get_d_tabulate (length P) (post_number P R) v l

  pub leaf_both : (v : ℕ) → v < length P → (children P v ≡ 0) ↔ (get_or t.first v 0 ≡ get_or t.last v 0)
  leaf_both v l = (
    (λ e. omega (arith, first_at v l, last_is_own v l, first_is g.tree v l, leaf_number g.tree v l e)),
    (λ e.
        by_lt 0 (children P v)
        (λ some.
        let c = child_at_lem g.tree v 0 some in
        absurd (omega (
          arith,
          first_at v l,
          last_is_own v l,
          first_is g.tree v l,
          first_child g.tree v l some,
          number_start g.tree (child_at P R v 0) c.inside,
          (numbering g.tree).parent_later (child_at P R v 0) c.above c.inside,
          ap (post_number P R) c.up,
        )))
        (λ none. omega arith)),
  )

  pub between : (v z : ℕ) → v < length P → z < length P
      → (under P v z ≡ true)
      ↔ ((get_or t.first v 0 ≤ get_or t.last z 0) × (get_or t.last z 0 ≤ get_or t.last v 0))
  between v z lv lz =
      let exact = in_subtree g.tree v z lv lz in (
        (λ e.
            let b = exact.0 e in (
              omega (arith, b.0, first_at v lv, last_is_own z lz),
              omega (arith, b.1, last_is_own v lv, last_is_own z lz),
            )),
        (λ b. exact.1 (
          omega (arith, b.0, first_at v lv, last_is_own z lz),
          omega (arith, b.1, last_is_own v lv, last_is_own z lz),
        )),
      )
