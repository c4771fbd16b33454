-- Refusals 1 to 3, then 19, then the rest of 1 to 8, and the outcome of the call.
use mathlib.Core.Bool.{Bool, false, not}
use mathlib.Core.List.{List}
use mathlib.Core.Option.{Option, none, some}
use mathlib.Core.Path.{◌≡◌, refl, sym, ap, subst, ◌∙◌}
use Prim.Native.Nat.{ℕ}
use native.Mathlib.Omega.{arith}
use lib.Dec.{eqb}
use lib.ListN.{length}
use borrow.Author.Tests.{eq-eqb, ne_eqb}
use Rattle.laws.specs.Refusals.{refusal, or_else_first, or_else_second, refuse_yes, settle-none, settle_some}
use Rattle.laws.specs.Search.{Refusal, refuse, refuse_least, ◌or_else◌, Outcome}
use Rattle.table.specs.Acceptance.{validity, validity-accepted, validity_refused}
use Rattle.table.specs.declared.Limits.{Limits}
use Rattle.table.specs.Validity.{Validity}
use Rattle.table.specs.Validity.{Accepted, Refused}
use Rattle.table.specs.Table.{shape_fault, tree_fault, table_fault, Called}
use Rattle.slopes.specs.declared.Rule.{Rule}
use Rattle.drawing.specs.Drawing.{Drawing, Sheet, sheet_of, lengths_fit, lot_fits, sheet_fault}
use Rattle.inspecting.specs.Parts.{Inspecting}
use Rattle.stretching.proofs.Openings.{opened}
use Rattle.arranging.specs.Arranged.{Arranged}
use Rattle.arranging.specs.Arranged as answer
use Rattle.arranging.specs.Arranging.{lists_fault, each_fault, in_turn, lengthen_each}
use Rattle.arranging.specs.Parts.{Listed}

or_none : (f : Option Refusal) → f or_else none ≡ f
or_none none = refl
or_none (some r) = refl

-- a refusal that has been asked for once is not there a second time
asked_once : (f g h : Option Refusal) → (f or_else none) or_else (f or_else g) or_else h ≡ (f or_else g) or_else h
asked_once none g h = refl
asked_once (some r) g h = refl

module _ (L : Limits) (P R : List ℕ) (rule : Rule) (s : Sheet) (W lots counts : List ℕ) where
  abbrev shape : Option Refusal
  shape = shape_fault L P R (lengths_fit P s) (length W)

  ------------------------------------------------------------------------
  -- Lists of one length

  no_19 : length lots ≡ length counts → not (eqb (length lots) (length counts)) ≡ false
  no_19 same = ap not (eq-eqb (length lots) (length counts) same)

  module _ (same : length lots ≡ length counts) {X : List ℕ} {r : Validity} (p : Inspecting L P R rule s W X r) where
    pub listed_same : Listed L P R rule s W lots counts X r
    unfolding lists_fault each_fault sheet_fault table_fault
    listed_same = record {
      answer = p.answer ∙ ap validity (sym (
          ap (λ b. (shape or_else refuse b 19 0) or_else sheet_fault L P R rule s (length W)) (no_19 same)
          ∙ asked_once shape (tree_fault P R) (refuse_least 8 (length P) (λ z. not (lot_fits L.place P R rule s z)))
          ));
      spared = λ f e. p.spared f (sym (ap (λ b. shape or_else refuse b 19 0) (no_19 same) ∙ or_none shape) ∙ e);
      long = p.long;
      same = λ ok. sym same;
      opened = opened p;
    }

  ------------------------------------------------------------------------
  -- Lists of different lengths, with the work list as it was

  module _ (differ : length lots ≡ length counts → ⊥) {long : Bool} (fit : long ≡ lengths_fit P s) {r : Validity}
      (is : r ≡ validity (shape_fault L P R long (length W))) where
    tested : r ≡ validity shape
    tested = is ∙ ap (λ b. validity (shape_fault L P R b (length W))) fit

    unlisted : {k z : ℕ} → lists_fault L P R s (length W) lots counts ≡ refusal k z
        → Listed L P R rule s W lots counts W (Refused k z)
    unfolding each_fault validity
    unlisted e = record {
      answer = sym (ap validity (or_else_first _ (sheet_fault L P R rule s (length W)) e));
      spared = λ f q. refl;
      long = refl;
      same = λ a. absurd (let q : ◌≡◌ {A = ℕ} 0 1 = cc in omega arith);
      opened = λ a. absurd (let q : ◌≡◌ {A = ℕ} 0 1 = cc in omega arith);
    }

    pub listed_lengths : {k z : ℕ} → r ≡ Refused k z → Listed L P R rule s W lots counts W (Refused k z)
    unfolding lists_fault
    listed_lengths {k} {z} e = unlisted (or_else_first _ _ (validity_refused _ k z (sym tested ∙ e)))

    pub listed_19 : r ≡ Accepted → Listed L P R rule s W lots counts W (Refused 19 0)
    unfolding lists_fault
    listed_19 ok =
        unlisted (or_else_second _ _ (validity-accepted _ (sym tested ∙ ok))
        ∙ refuse_yes _ 19 0 (ap not (ne_eqb (length lots) (length counts) differ)))

------------------------------------------------------------------------
-- The outcome

module _ {L : Limits} {P R : List ℕ} {rule : Rule} {s : Sheet} {W : List ℕ} (lots counts : List ℕ) {X : List ℕ}
    {r : Validity} (p : Listed L P R rule s W lots counts X r) where
  abbrev Outcomes : Sheet → Arranged → Type 0
  Outcomes t a =
      Called (lists_fault L P R s (length W) lots counts) W X
      (record { answer = a; left = t } ≡ lengthen_each L P R rule s (length W) lots counts)

  abbrev turns : Outcome Arranged Sheet
  turns = in_turn L P R rule (length W) s 1 lots counts

  pub each_refused : {k z : ℕ} → r ≡ Refused k z → Outcomes s (answer.Refused k z 0)
  unfolding lengthen_each
  each_refused {k} {z} e = record {
    says = sym (settle_some (λ k z. answer.Refused k z 0) s _ _ _ (validity_refused _ k z (sym p.answer ∙ e)));
    spared = p.spared;
    long = p.long;
  }

  pub each_made : {t : Sheet} {a : Arranged} → r ≡ Accepted
      → record { answer = a; left = t } ≡ in_turn L P R rule (length X) s 1 lots counts → Outcomes t a
  unfolding lengthen_each
  each_made ok made = record {
    says = made
        ∙ ap (λ n. in_turn L P R rule n s 1 lots counts) p.long
        ∙ sym (settle-none (λ k z. answer.Refused k z 0) s turns.answer turns.left _
        (validity-accepted _ (sym p.answer ∙ ok)));
    spared = p.spared;
    long = p.long;
  }

-- of the drawing in the same lists, read another way
pub listed_as : (rule : Rule) {L : Limits} {P R : List ℕ} {d e : Drawing} {H W X : List ℕ} {r : Validity} → d ≡ e
    → (lots counts : List ℕ) → Listed L P R rule (sheet_of d H) W lots counts X r
    → Listed L P R rule (sheet_of e H) W lots counts X r
listed_as rule {L} {P} {R} {H = H} {W} {X} {r} is lots counts p =
    subst (λ (d : Drawing). Listed L P R rule (sheet_of d H) W lots counts X r) is p
