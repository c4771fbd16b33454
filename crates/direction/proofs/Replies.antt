-- From refusals and headings to the call's answer.
use mathlib.Core.Bool.{true, false, ◌||◌}
use mathlib.Core.List.{List}
use mathlib.Core.Option.{Option}
use mathlib.Core.Path.{◌≡◌, sym, ap, subst, ◌∙◌}
use Prim.Native.Nat.{ℕ, ◌≤◌, ◌<◌}
use lib.Dec.{leb}
use lib.ListN.{length}
use native.Mathlib.Omega.{arith}
use Rattle.laws.specs.Refusals.{or_else_first, or_else_second, refuse-none}
use Rattle.laws.specs.Search.{Refusal, refused_or}
use Rattle.table.specs.declared.Limits.{Limits}
use Rattle.table.specs.Validity.{Validity}
use Rattle.table.specs.Validity.{Accepted, Refused as Invalid}
use Rattle.table.specs.Numbering.{NumberedTree}
use Rattle.table.specs.Table.{large}
use Rattle.table.specs.Acceptance.{accepting, validity, validity_refused, validity-accepted}
use Rattle.table.specs.Parts.{Prepared, fault, no_fault}
use Rattle.slopes.specs.declared.Rule.{Rule}
use Rattle.direction.specs.Heading.{Heading}
use Rattle.direction.specs.Heading.{Refused}
use Rattle.direction.specs.Direction.{course, pair_fault, direction, Directed}
use Rattle.direction.specs.Parts.{PairAnswered}

------------------------------------------------------------------------
-- Refusal 9, and none

module _ (P R : List ℕ) (rule : Rule) (u v : ℕ) where
  pub no_node : {k z : ℕ} → Invalid k z ≡ validity (pair_fault (length P) u v) → PairAnswered P R rule u v (Refused k z)
  no_node {k} {z} e = record {
    answer = ap (λ (f : Option Refusal). refused_or Refused f (course P R rule u v))
        (sym (validity_refused _ k z (sym e)));
  }

  pub both_nodes : Accepted ≡ validity (pair_fault (length P) u v) → {r : Heading} → r ≡ course P R rule u v
      → PairAnswered P R rule u v r
  both_nodes e q = record {
    answer = q ∙ ap (λ (f : Option Refusal). refused_or Refused f (course P R rule u v))
        (sym (validity-accepted _ (sym e)));
  }

pub inside : (n u v : ℕ) → Accepted ≡ validity (pair_fault n u v) → (u < n) × (v < n)
unfolding pair_fault
inside n u v e = outside_neither n u v (refuse-none _ 9 0 (validity-accepted _ (sym e)))
  where
    outside_neither : (n u v : ℕ) → leb n u || leb n v ≡ false → (u < n) × (v < n)
    outside_neither n u v h = grind arith

------------------------------------------------------------------------
-- After the tests, which leave X in the work list W

module _ (P R : List ℕ) (rule : Rule) (u v : ℕ) {L : Limits} (is_large : L ≡ large) {W X : List ℕ} {r : Validity}
    (given : Prepared L P R true W X r) where
  prepared : Prepared large P R true W X r
  prepared = subst (λ (l : Limits). Prepared l P R true W X r) is_large given

  pub table_refused : {k z : ℕ} → r ≡ Invalid k z → Directed large P R rule W X u v (Refused k z)
  unfolding direction
  table_refused e = record {
    says = ap (λ f. refused_or Refused f (course P R rule u v)) (sym (or_else_first _ _ (fault prepared e)));
    spared = prepared.spared;
    long = prepared.long;
  }

  module _ (ok : r ≡ Accepted) where
    pub table_numbered : NumberedTree P R X
    table_numbered = prepared.left ok

    pub table_few : length P ≤ large.nodes
    table_few = (accepting large P R true (length W) (no_fault prepared ok)).shape.few

    pub table_accepted : {a : Heading} → PairAnswered P R rule u v a → Directed large P R rule W X u v a
    unfolding direction
    table_accepted q = record {
      says = q.answer ∙ ap (λ f. refused_or Refused f (course P R rule u v))
          (sym (or_else_second _ _ (no_fault prepared ok)));
      spared = prepared.spared;
      long = prepared.long;
    }
