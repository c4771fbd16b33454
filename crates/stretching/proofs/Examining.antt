-- Refusals 9 and 10, then 22, behind 1 to 8, from what the tests say.
use mathlib.Core.Bool.{Bool}
use mathlib.Core.List.{List}
use mathlib.Core.Option.{Option, none}
use mathlib.Core.Path.{◌≡◌, sym, ap, ap₂, ◌∙◌}
use Prim.Native.Nat.{ℕ, ◌≤◌, ◌<◌}
use lib.Dec.{eqb}
use lib.ListN.{length, get_or}
use borrow.Author.Tests.{le-leb, lt-leb, eq-eqb, ne_eqb}
use Rattle.laws.specs.Refusals.{or_else_first, or_else_second, refuse_yes, refuse_no}
use Rattle.laws.specs.Search.{Refusal, refuse, ◌or_else◌}
use Rattle.table.specs.Acceptance.{validity, validity-accepted, validity_refused}
use Rattle.table.specs.declared.Limits.{Limits}
use Rattle.table.specs.Validity.{Validity}
use Rattle.table.specs.Validity.{Accepted, Refused}
use Rattle.table.specs.Parts.{Tested, fault, no_fault, refused_later}
use Rattle.slopes.specs.declared.Rule.{Rule}
use Rattle.drawing.specs.Drawing.{Sheet, sheet_fault}
use Rattle.inspecting.specs.Parts.{Inspecting}
use Rattle.stretching.proofs.CallLaws.{edge_none}
use Rattle.stretching.specs.Parts.{free_fault}
use Rattle.stretching.specs.Parts.{Examining, Unheld}
use Rattle.stretching.specs.Stretching.{edge_fault, lot_fault, is_held, stretch_fault}

-- once a test passes, the rest of the refusals is what the next one says
next_said : {L : Limits} {P R : List ℕ} {others : Bool} {W X : List ℕ} {f g h : Option Refusal} {Left : Type 0}
    {r a : Validity} → Tested L P R others W X f Left r → r ≡ Accepted → g ≡ h → a ≡ validity h
    → Tested L P R others W X g Left a
next_said p ok e is =
    record { answer = is ∙ ap validity (sym e); spared = p.spared; long = p.long; left = λ q. p.left ok }

-- 9 and 10
module _ (n v : ℕ) where
  pub edge_9 : n ≤ v → Refused 9 0 ≡ validity (edge_fault n v)
  unfolding validity edge_fault
  edge_9 h = sym (ap validity (or_else_first _ _ (refuse_yes _ 9 0 (le-leb n v h))))

  module _ (inside : v < n) where
    past_9 : edge_fault n v ≡ refuse (eqb v 0) 10 0
    unfolding edge_fault
    past_9 = or_else_second _ _ (refuse_no _ 9 0 (lt-leb n v inside))

    pub edge_10 : v ≡ 0 → Refused 10 0 ≡ validity (edge_fault n v)
    unfolding validity
    edge_10 e = sym (ap validity (past_9 ∙ refuse_yes _ 10 0 (eq-eqb v 0 e)))

    pub edge_all : (v ≡ 0 → ⊥) → Accepted ≡ validity (edge_fault n v)
    unfolding validity
    edge_all ne = sym (ap validity (past_9 ∙ refuse_no _ 10 0 (ne_eqb v 0 ne)))

pub has_edge : (n v : ℕ) {r : Validity} → r ≡ validity (edge_fault n v) → r ≡ Accepted → v < n
has_edge n v is ok = (edge_none n v (validity-accepted _ (sym is ∙ ok))).1

-- then 22
module _ (held : List ℕ) (v : ℕ) {r : Validity} (is : r ≡ validity (edge_fault (length held) v)) where
  pub free-edge : {k z : ℕ} → r ≡ Refused k z → Refused k z ≡ validity (free_fault held v)
  unfolding validity free_fault
  free-edge {k} {z} e =
      sym (ap validity (or_else_first (edge_fault (length held) v) (refuse (eqb (get_or held v 0) 1) 22 v)
      (validity_refused _ k z (sym is ∙ e))))

  module _ (ok : r ≡ Accepted) where
    past_10 : free_fault held v ≡ refuse (eqb (get_or held v 0) 1) 22 v
    unfolding free_fault
    past_10 = or_else_second _ _ (validity-accepted _ (sym is ∙ ok))

    module _ {h : ℕ} (at : h ≡ get_or held v 0) where
      pub free_22 : h ≡ 1 → Refused 22 v ≡ validity (free_fault held v)
      unfolding validity
      free_22 e = sym (ap validity (past_10 ∙ refuse_yes _ 22 v (eq-eqb (get_or held v 0) 1 (sym at ∙ e))))

      pub free_all : (h ≡ 1 → ⊥) → Accepted ≡ validity (free_fault held v)
      unfolding validity
      free_all ne = sym (ap validity (past_10 ∙ refuse_no _ 22 v (ne_eqb (get_or held v 0) 1 (λ e. ne (at ∙ e)))))

-- of a sheet that is accepted they are what is left of 1 to 10 and 22
pub on_sheet_lem : (L : Limits) (P R : List ℕ) (rule : Rule) (s : Sheet) (work v : ℕ)
    → sheet_fault L P R rule s work ≡ none → length s.held ≡ length P
    → stretch_fault L P R rule s work v ≡ free_fault s.held v
unfolding stretch_fault lot_fault free_fault
on_sheet_lem L P R rule s work v e long =
    ap₂ (λ f n. (f or_else edge_fault n v) or_else refuse (is_held s v) 22 v) e (sym long)

module _ {L : Limits} {P R : List ℕ} (rule : Rule) {s : Sheet} {W X : List ℕ} {r : Validity}
    (p : Inspecting L P R rule s W X r) (v : ℕ) where
  pub examining_sheet : {k z : ℕ} → r ≡ Refused k z → Examining L P R rule s W v X (Refused k z)
  unfolding lot_fault
  examining_sheet e = refused_later p (or_else_first _ _ (fault p e))

  pub examining_edge : {a : Validity} → r ≡ Accepted → a ≡ validity (edge_fault (length P) v)
      → Examining L P R rule s W v X a
  unfolding lot_fault
  examining_edge ok = next_said p ok (or_else_second _ _ (no_fault p ok))

  pub unheld_sheet : {k z : ℕ} → r ≡ Refused k z → Unheld L P R rule s W v X (Refused k z)
  unfolding stretch_fault lot_fault
  unheld_sheet e = refused_later p (or_else_first _ _ (or_else_first _ _ (fault p e)))

  pub unheld_free : {a : Validity} → r ≡ Accepted → a ≡ validity (free_fault s.held v) → Unheld L P R rule s W v X a
  unheld_free ok = next_said p ok (on_sheet_lem L P R rule s (length W) v (no_fault p ok) (p.left ok).held)
