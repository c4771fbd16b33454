-- Refusals 16, 1, 2, 17 and 3: what each test says of the definition.
use mathlib.Core.Bool.{false, not, ◌&&◌, and-false}
use mathlib.Core.List.{List}
use mathlib.Core.Option.{Option, none}
use mathlib.Core.Path.{◌≡◌, refl, sym, ap, ◌∙◌}
use Prim.Native.Nat.{ℕ, ◌+◌, ◌*◌, ◌^◌, ◌≤◌, ◌<◌}
use native.Mathlib.Omega.{arith}
use lib.Dec.{ltb, eqb}
use lib.ListN.{length}
use borrow.Author.Tests.{lt-ltb, le-ltb, eq-eqb, ne_eqb}
use Rattle.faults.specs.Numbers.{number}
use Rattle.laws.specs.Refusals.{refusal, some_not_none, or_else_first, or_else_second, refuse_yes, refuse_no}
use Rattle.laws.specs.Search.{Refusal, refuse}
use Rattle.laws.specs.Tests.{both_is}
use Rattle.table.specs.Counted.{Counted}
use Rattle.table.specs.Counted.{Refused}
use Rattle.table.specs.declared.Limits.{Limits}
use Rattle.treefile.specs.Parts.{Opened, Tabled}
use Rattle.treefile.specs.TreeFile.{word_at, stated_nodes, open_fault, loaded, read_tree, Read}

module _ (L : Limits) (B P R W : List ℕ) where
  shut : {k v : ℕ} → open_fault L B (length P) (length R) (length W) ≡ refusal k v → Read L B P R W P R W (Refused k v)
  unfolding read_tree loaded
  shut e = record {
    says = sym (ap (λ (f : Option Refusal). loaded f B P R) (or_else_first _ _ e));
    long = refl;
    spared = λ f h. refl;
  }

  pub refused_16 : length B < 4 → Read L B P R W P R W (Refused 16 0)
  unfolding open_fault
  refused_16 h = shut (or_else_first _ _ (refuse_yes _ 16 0 (lt-ltb (length B) 4 h)))

  module _ {n : ℕ} (h16 : 4 ≤ length B) (en : n ≡ word_at B 0) where
    stated : stated_nodes B ≡ n
    unfolding stated_nodes
    stated = sym en

    no_16 : refuse (ltb (length B) 4) 16 0 ≡ none
    no_16 = refuse_no _ 16 0 (le-ltb (length B) 4 h16)

    pub refused_1 : n ≡ 0 → Read L B P R W P R W (Refused 1 0)
    unfolding open_fault
    refused_1 e =
        shut (or_else_second _ _ no_16 ∙ or_else_first _ _ (refuse_yes _ 1 0 (eq-eqb (stated_nodes B) 0 (stated ∙ e))))

    module _ (h1 : n ≡ 0 → ⊥) where
      no_1 : refuse (eqb (stated_nodes B) 0) 1 0 ≡ none
      no_1 = refuse_no _ 1 0 (ne_eqb (stated_nodes B) 0 (λ e. h1 (sym stated ∙ e)))

      pub refused_2 : L.nodes < n → Read L B P R W P R W (Refused (number L.many) 0)
      unfolding open_fault
      refused_2 h =
          shut (or_else_second _ _ no_16 ∙ or_else_second _ _ no_1
          ∙ or_else_first _ _ (refuse_yes _ (number L.many) 0 (lt-ltb L.nodes (stated_nodes B) (omega (arith, stated)))))

      module _ (h2 : n ≤ L.nodes) where
        no_2 : refuse (ltb L.nodes (stated_nodes B)) (number L.many) 0 ≡ none
        no_2 = refuse_no _ (number L.many) 0 (le-ltb L.nodes (stated_nodes B) (omega (arith, stated)))

        pub refused_17 : (length B ≡ 4 + 8 * n → ⊥) → Read L B P R W P R W (Refused 17 0)
        unfolding open_fault
        refused_17 ne =
            shut (or_else_second _ _ no_16 ∙ or_else_second _ _ no_1 ∙ or_else_second _ _ no_2
            ∙ or_else_first _ _ (refuse_yes _ 17 0 (ap not
            (ne_eqb (length B) (4 + 8 * stated_nodes B) (λ e. ne (e ∙ ap (λ (x : ℕ). 4 + 8 * x) stated))))))

        module _ (h17 : length B ≡ 4 + 8 * n) where
          no_17 : refuse (not (eqb (length B) (4 + 8 * stated_nodes B))) 17 0 ≡ none
          no_17 =
              refuse_no _ 17 0 (ap not
              (eq-eqb (length B) (4 + 8 * stated_nodes B) (h17 ∙ ap (λ (x : ℕ). 4 + 8 * x) (sym stated))))

          refused_3 : eqb (length P) (stated_nodes B)
              && (eqb (length R) (stated_nodes B) && eqb (length W) (4 * stated_nodes B)) ≡ false
              → Read L B P R W P R W (Refused 3 0)
          unfolding open_fault
          refused_3 e =
              shut (or_else_second _ _ no_16 ∙ or_else_second _ _ no_1 ∙ or_else_second _ _ no_2 ∙ or_else_second _ _ no_17
              ∙ refuse_yes _ 3 0 (ap not e))

          pub refused_3_parents : (length P ≡ n → ⊥) → Read L B P R W P R W (Refused 3 0)
          refused_3_parents ne = refused_3 (rw (ne_eqb (length P) (stated_nodes B) (λ e. ne (e ∙ stated))) refl)

          pub refused_3_ranks : (length R ≡ n → ⊥) → Read L B P R W P R W (Refused 3 0)
          refused_3_ranks ne =
              refused_3 (rw (ne_eqb (length R) (stated_nodes B) (λ e. ne (e ∙ stated)))
              (and-false (eqb (length P) (stated_nodes B))))

          pub refused_3_work : (length W ≡ 4 * n → ⊥) → Read L B P R W P R W (Refused 3 0)
          refused_3_work ne =
              refused_3 (rw (
                ne_eqb (length W) (4 * stated_nodes B) (λ e. ne (e ∙ ap (λ (x : ℕ). 4 * x) stated)),
                and-false (eqb (length R) (stated_nodes B)),
              ) (and-false (eqb (length P) (stated_nodes B))))

          module _ (small : n < 2 ^ 32) (p : length P ≡ n) (r : length R ≡ n) (w : length W ≡ 4 * n) where
            pub opened : Opened L B P R W
            opened = record {
              some = omega arith;
              few = omega arith;
              small = omega arith;
              stated = stated ∙ sym p;
              long = h17 ∙ ap (λ (x : ℕ). 4 + 8 * x) (sym p);
              ranks = r ∙ sym p;
              work = w ∙ ap (λ (x : ℕ). 4 * x) (sym p);
            }

            fits : open_fault L B (length P) (length R) (length W) ≡ none
            unfolding open_fault
            fits =
                or_else_second _ _ no_16 ∙ or_else_second _ _ no_1 ∙ or_else_second _ _ no_2 ∙ or_else_second _ _ no_17
                ∙ refuse_no _ 3 0 (ap not (both_is (eq-eqb (length P) (stated_nodes B) (p ∙ sym stated))
                (both_is (eq-eqb (length R) (stated_nodes B) (r ∙ sym stated))
                (eq-eqb (length W) (4 * stated_nodes B) (w ∙ ap (λ (x : ℕ). 4 * x) (sym stated))))))

            pub read : {X Y Z : List ℕ} {a : Counted} → length Z ≡ length W → Tabled B P R X Y a
                → Read L B P R W X Y Z a
            unfolding read_tree
            read same c = record {
              long = same;
              says = c.outcome ∙ sym (ap (λ (f : Option Refusal). loaded f B P R) (or_else_second _ _ fits));
              spared = λ f h. absurd (some_not_none (sym h ∙ fits));
            }
