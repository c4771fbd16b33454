-- Refusals in order: what each test says of the definition.
use mathlib.Core.Bool.{Bool, true, false, not, ◌&&◌, and-false}
use Rattle.std.proofs.Common.{Result, Ok, Err}
use Rattle.std.specs.Prelude.{⊤}
use mathlib.Core.List.{List}
use mathlib.Core.Option.{Option, none}
use mathlib.Core.Path.{◌≡◌, refl, sym, ap, ◌∙◌}
use Prim.Native.Nat.{ℕ, ◌+◌, ◌*◌, ◌^◌, ◌≤◌, ◌<◌}
use native.Mathlib.Omega.{arith}
use lib.Dec.{eqb}
use lib.ListN.{length}
use borrow.Author.Tests.{eqb-true, eq-eqb, ne_eqb, lt-ltb, le-ltb}
use Rattle.faults.specs.declared.Refusal as told
use Rattle.faults.specs.Numbers.{number}
use Rattle.laws.specs.Refusals.{refusal, some_not_none, or_else_first, or_else_second, refuse_yes, refuse_no}
use Rattle.laws.specs.Refusals.{refuse_least-none}
use Rattle.laws.specs.Regions.{Only, only_refl, only_trans, only_within}
use Rattle.laws.specs.Search.{Refusal, refuse, refuse_least}
use Rattle.laws.specs.Tests.{by_lt, differ, false_of, both, both_is}
use Rattle.table.specs.Acceptance.{shaped, shape_fits, not_spared, validity-accepted, validity_refused, validity}
use Rattle.table.specs.declared.Limits.{Limits}
use Rattle.table.specs.Validity.{Validity, valid}
use Rattle.table.specs.Validity.{Accepted, Refused}
use Rattle.table.specs.Table.{parent, rank, stray_parent, bad_rank, adrift, shape_fault, tree_fault, table_fault}
use Rattle.table.specs.TableLaws.{stray_yes}
use Rattle.table.specs.Numbering.{Numbered}
use Rattle.table.specs.Parts.{Scratch, Zeroed, Started, Occupied, Lengths, Rooted, Structured, Validated}
use Rattle.table.specs.Parts.{ready, Prepared}

pub validity_of : {f : Option Refusal} {k v : ℕ} → f ≡ refusal k v → Refused k v ≡ validity f
unfolding validity
validity_of e = sym (ap validity e)

-- what a result says of the refusals whose answer it is
module _ {r : Result ⊤ told.Refusal} {f : Option Refusal} (says : valid r ≡ validity f) where
  pub passed : {u : ⊤} → r ≡ Ok u → f ≡ none
  passed e = validity-accepted f (sym says ∙ ap valid e)

  pub refused : {e : told.Refusal} → r ≡ Err e → f ≡ refusal (number e.fault) e.lot
  refused {e} is = validity_refused f (number e.fault) e.lot (sym says ∙ ap valid is)

refused_not_accepted : {k v : ℕ} → Refused k v ≡ Accepted → ⊥
refused_not_accepted e = let z : ◌≡◌ {A = ℕ} 0 1 = cc in omega arith

------------------------------------------------------------------------
-- Refusals 4 to 7

module _ {P R W : List ℕ} (s : Rooted P R W) where
  root_right : refuse (not (eqb (parent P 0) 0 && eqb (rank R 0) 0)) 4 0 ≡ none
  root_right =
      refuse_no _ 4 0 (ap not (both_is (eq-eqb (parent P 0) 0 s.parent) (eq-eqb (rank R 0) 0 s.rank)))

  pub structured_5 : {k v : ℕ} → refuse_least 5 (length P) (stray_parent P) ≡ refusal k v
      → Structured P R W W (Refused k v)
  unfolding tree_fault
  structured_5 e = record {
    answer = validity_of (or_else_second _ _ root_right ∙ or_else_first _ _ e);
    kept = only_refl _ _ W;
    started = λ a. absurd (refused_not_accepted a);
  }

  module _ (no_5 : refuse_least 5 (length P) (stray_parent P) ≡ none) where
    pub scratch_of : Scratch P W
    scratch_of = record {
      nodes = record {
        some = s.lengths.some;
        root = s.parent;
        inside = λ u l. by_lt (parent P u) (length P) (λ h. h)
            (λ h. by_lt 0 u
            (λ a. absurd (differ (stray_yes P u a h) (refuse_least-none 5 (length P) (stray_parent P) no_5 u l)))
            (λ a. let z : u ≡ 0 = omega arith in absurd (omega (arith, ap (parent P) z, s.parent, s.lengths.some))));
      };
      few = s.lengths.few;
      room = omega (arith, s.lengths.long);
    }

    module _ {X : List ℕ} (d : Started P X × Zeroed (length P + 1) (2 * length P) X × Only 0 (2 * length P) W X)
        {Y : List ℕ} (o : Occupied P R Y × Only (length P + 1) (2 * length P) X Y) where
      pub started_kept : Started P Y
      started_kept = record { at = λ p l. o.1.below p (omega arith) ∙ d.0.at p l }

      pub structured_6 : {k u : ℕ} → refuse_least 6 (length P) (bad_rank P R) ≡ refusal k u
          → Structured P R W Y (Refused k u)
      unfolding tree_fault
      structured_6 e = record {
        answer = validity_of (or_else_second _ _ root_right ∙ or_else_second _ _ no_5 ∙ or_else_first _ _ e);
        kept = only_trans d.2 (only_within o.1 (omega arith) (omega arith));
        started = λ a. absurd (refused_not_accepted a);
      }

      pub structured_7 : refuse_least 6 (length P) (bad_rank P R) ≡ none → {Z U : List ℕ} {r : Validity}
          → Only (length P + 1) (2 * length P) Y Z
          → (r ≡ validity (refuse_least 7 (length P) (adrift P))) × Only (length P + 1) (2 * length P) Z U
          → Structured P R W U r
      unfolding tree_fault
      structured_7 no_6 c m = record {
        answer =
            m.0 ∙ ap validity (sym (or_else_second _ _ root_right ∙ or_else_second _ _ no_5 ∙ or_else_second _ _ no_6));
        kept = only_trans d.2 (only_within (only_trans o.1 (only_trans c m.1)) (omega arith) (omega arith));
        started = λ a. record {
          at = λ p b. m.1.below p (omega arith) ∙ c.below p (omega arith) ∙ started_kept.at p b;
        };
      }

-- 4
pub structured_4 : {P R W : List ℕ} → (parent P 0 ≡ 0 → rank R 0 ≡ 0 → ⊥) → Structured P R W W (Refused 4 0)
unfolding tree_fault
structured_4 {P} {R} {W} ne = record {
  answer = validity_of (or_else_first _ _ (refuse_yes _ 4 0 (ap not (false_of (λ t.
      let b = both (eqb (parent P 0) 0) (eqb (rank R 0) 0) t in ne (eqb-true _ _ b.0) (eqb-true _ _ b.1))))));
  kept = only_refl _ _ W;
  started = λ a. absurd (refused_not_accepted a);
}

------------------------------------------------------------------------
-- Refusals 1 to 3

module _ (L : Limits) (P R : List ℕ) (long : Bool) (work : ℕ) where
  abbrev answer : Validity
  answer = validity (shape_fault L P R long work)

  pub refused_1 : length P ≡ 0 → Refused 1 0 ≡ answer
  unfolding shape_fault
  refused_1 e = validity_of (or_else_first _ _ (refuse_yes _ 1 0 (eq-eqb (length P) 0 e)))

  module _ (full : length P ≡ 0 → ⊥) where
    no_1 : refuse (eqb (length P) 0) 1 0 ≡ none
    no_1 = refuse_no _ 1 0 (ne_eqb (length P) 0 full)

    pub refused_2 : L.nodes < length P → Refused (number L.many) 0 ≡ answer
    unfolding shape_fault
    refused_2 h =
        validity_of (or_else_second _ _ no_1
        ∙ or_else_first _ _ (refuse_yes _ (number L.many) 0 (lt-ltb L.nodes (length P) h)))

    module _ (few : length P ≤ L.nodes) where
      wrong_lengths : eqb (length R) (length P) && (long && eqb work (4 * length P)) ≡ false → Refused 3 0 ≡ answer
      unfolding shape_fault
      wrong_lengths e =
          validity_of (or_else_second _ _ no_1
          ∙ or_else_second _ _ (refuse_no _ (number L.many) 0 (le-ltb L.nodes (length P) few))
          ∙ refuse_yes _ 3 0 (ap not e))

      pub refused_3_ranks : (length R ≡ length P → ⊥) → Refused 3 0 ≡ answer
      refused_3_ranks ne = wrong_lengths (rw (ne_eqb (length R) (length P) ne) refl)

      pub refused_3_others : long ≡ false → Refused 3 0 ≡ answer
      refused_3_others e = wrong_lengths (rw e (and-false (eqb (length R) (length P))))

      pub refused_3_work : (work ≡ 4 * length P → ⊥) → Refused 3 0 ≡ answer
      refused_3_work ne =
          wrong_lengths (rw (ne_eqb work (4 * length P) ne, and-false long) (and-false (eqb (length R) (length P))))

      pub lengths_right : length R ≡ length P → long ≡ true → work ≡ 4 * length P → Accepted ≡ answer
      unfolding validity
      lengths_right ranks others room =
          ap validity (sym (shape_fits (record {
            some = omega arith;
            few = few;
            ranks = ranks;
            others = others;
            work_long = room;
          })))

------------------------------------------------------------------------
-- One after the other

module _ (L : Limits) (P R : List ℕ) (long : Bool) (W : List ℕ) {r : Validity}
    (is : r ≡ validity (shape_fault L P R long (length W))) where
  pub validated_lengths : {k v : ℕ} → r ≡ Refused k v → Validated L P R long W W (Refused k v)
  unfolding table_fault
  validated_lengths {k} {v} e = record {
    answer = validity_of (or_else_first _ _ (validity_refused _ k v (sym is ∙ e)));
    spared = λ f h. refl;
    kept = only_refl _ _ W;
    started = λ a. absurd (refused_not_accepted a);
  }

  module _ (ok : r ≡ Accepted) where
    no_fault : shape_fault L P R long (length W) ≡ none
    no_fault = validity-accepted _ (sym is ∙ ok)

    pub lengths_of : L.nodes < 2 ^ 32 → Lengths P R W
    lengths_of few =
        let s = shaped L P R long (length W) no_fault in
        record { some = s.some; few = omega arith; ranks = s.ranks; long = s.work_long }

    pub validated_tree : {X : List ℕ} {q : Validity} → Structured P R W X q → Validated L P R long W X q
    unfolding table_fault
    validated_tree t = record {
      answer = t.answer ∙ ap validity (sym (or_else_second _ _ no_fault));
      spared = λ f h. absurd (some_not_none (sym h ∙ no_fault));
      kept = t.kept;
      started = t.started;
    }

------------------------------------------------------------------------
-- The table is tested, then numbered

module _ (L : Limits) (P R : List ℕ) {long : Bool} {W X : List ℕ} {r : Validity} (v : Validated L P R long W X r) where
  pub prepared_refused : {k z : ℕ} → r ≡ Refused k z → Prepared L P R long W X (Refused k z)
  prepared_refused e = record {
    answer = sym e ∙ v.answer;
    spared = v.spared;
    long = v.kept.long;
    left = λ a. absurd (refused_not_accepted a);
  }

  pub prepared_accepted : {Y : List ℕ} → L.nodes < 2 ^ 32 → r ≡ Accepted → Numbered P R Y
      → Prepared L P R long W Y Accepted
  prepared_accepted few e n =
      let none_left = validity-accepted (table_fault L P R long (length W)) (sym v.answer ∙ e) in
      let a = ready v few e in
      record {
        answer = sym e ∙ v.answer;
        spared = λ f g. absurd (not_spared L P R long (length W) none_left g);
        long = n.long ∙ sym a.long ∙ v.kept.long;
        left = λ q. record { tree = a.tree; few = a.few; numbers = n };
      }
