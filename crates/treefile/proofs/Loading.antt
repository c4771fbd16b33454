-- Loading: the lists hold the file's table, the work list what they held before, and a refusal brings that back.
use mathlib.Core.Bool.{true}
use mathlib.Core.List.{List}
use mathlib.Core.Option.{Option}
use mathlib.Core.Path.{◌≡◌, refl, sym, ap, ap₂, ◌∙◌}
use Prim.Native.Nat.{ℕ, ◌+◌, ◌*◌, ◌≤◌, ◌<◌}
use native.Mathlib.Omega.{arith}
use lib.ListN.{length, get_or}
use lib.Seq.{ext_get_or}
use Rattle.laws.specs.Refusals.{or_else_second}
use Rattle.laws.specs.Regions.{Only}
use Rattle.laws.specs.Search.{Refusal}
use Rattle.laws.specs.SearchLaws.{length-tabulate}
use Rattle.table.specs.Acceptance.{Shape, shape_fits, validity-accepted, validity_refused}
use Rattle.table.specs.Counted.{Nodes, Refused}
use Rattle.table.specs.declared.Limits.{Limits}
use Rattle.table.specs.Validity.{Validity}
use Rattle.table.specs.Validity.{Accepted}
use Rattle.table.specs.Table.{tree_fault, table_fault}
use Rattle.table.specs.Parts.{Copied, Validated}
use Rattle.treefile.specs.Parts.{Opened, Tabled}
use Rattle.treefile.specs.TreeFile.{word_at, words, file_parents, file_ranks, loaded}

pub length-words : (B : List ℕ) (i n : ℕ) → length (words B i n) ≡ n
unfolding words
length-words B i n = length-tabulate n (λ v. word_at B (i + 4 * v))

-- what was copied out, with stores elsewhere, and copied back is the same list
restored : {l m W X : List ℕ} {a : ℕ} → Copied l W a
    → ((i : ℕ) → i < length l → get_or X (a + i) 0 ≡ get_or W (a + i) 0)
    → Copied m X a → length m ≡ length l → m ≡ l
restored {l} {m} c kept d e =
    ext_get_or 0 m l e (λ i b. sym (d.same i b) ∙ kept i (omega arith) ∙ c.same i (omega arith))

module _ {L : Limits} {B P R W W₁ W₂ : List ℕ} (o : Opened L B P R W)
    (s : Copied P W₁ (2 * length P) × Only (2 * length P) (2 * length P + length P) W W₁)
    (t : Copied R W₂ (3 * length P) × Only (3 * length P) (3 * length P + length R) W₁ W₂) where
  pub saved_long : length W₂ ≡ 4 * length P
  saved_long = t.1.long ∙ s.1.long ∙ o.work

  module _ {P₁ R₁ : List ℕ} (p : P₁ ≡ words B 4 (length P)) (r : R₁ ≡ words B (4 + 4 * length P) (length R)) where
    parents_are : P₁ ≡ file_parents B
    unfolding file_parents
    parents_are = p ∙ ap (words B 4) (sym o.stated)

    ranks_are : R₁ ≡ file_ranks B
    unfolding file_ranks
    ranks_are =
        r ∙ ap₂ (λ (x y : ℕ). words B (4 + 4 * x) y) (sym o.stated) (o.ranks ∙ sym o.stated)

    parents_long : length P₁ ≡ length P
    parents_long = ap length p ∙ length-words B 4 (length P)

    ranks_long : length R₁ ≡ length P
    ranks_long = ap length r ∙ length-words B (4 + 4 * length P) (length R) ∙ o.ranks

    shape : Shape L P₁ R₁ true (length W₂)
    shape = record {
      some = omega (arith, parents_long, o.some);
      few = omega (arith, parents_long, o.few);
      ranks = ranks_long ∙ sym parents_long;
      others = refl;
      work_long = saved_long ∙ ap (λ (x : ℕ). 4 * x) (sym parents_long);
    }

    module _ {W₃ : List ℕ} {v : Validity} (c : Validated L P₁ R₁ true W₂ W₃ v) where
      fault_is : table_fault L P₁ R₁ true (length W₂) ≡ tree_fault (file_parents B) (file_ranks B)
      unfolding table_fault
      fault_is = or_else_second _ _ (shape_fits shape) ∙ ap₂ tree_fault parents_are ranks_are

      pub loaded-accepted : v ≡ Accepted → Tabled B P R P₁ R₁ (Nodes (length P))
      unfolding loaded
      loaded-accepted e = record {
        outcome =
            (λ i. record { answer = Nodes (sym o.stated i); parents = parents_are i; ranks = ranks_are i })
            ∙ sym (ap (λ (f : Option Refusal). loaded f B P R)
            (sym fault_is ∙ validity-accepted _ (sym c.answer ∙ e)));
      }

      still : (a : ℕ) → 2 * length P ≤ a → get_or W₃ a 0 ≡ get_or W₂ a 0
      still a l = c.kept.above a (omega (arith, parents_long))

      pub parents_room : 2 * length P + length P₁ ≤ length W₃
      parents_room = omega (arith, c.kept.long, saved_long, parents_long)

      pub ranks_room : 3 * length P + length R₁ ≤ length W₃
      ranks_room = omega (arith, c.kept.long, saved_long, ranks_long)

      module _ {P₂ R₂ : List ℕ} (x : Copied P₂ W₃ (2 * length P) × (length P₂ ≡ length P₁))
          (y : Copied R₂ W₃ (3 * length P) × (length R₂ ≡ length R₁)) where
        pub parents_back : P₂ ≡ P
        parents_back =
            restored s.0
            (λ i l. still (2 * length P + i) (omega arith) ∙ t.1.below (2 * length P + i) (omega arith))
            x.0 (x.1 ∙ parents_long)

        pub ranks_back : R₂ ≡ R
        ranks_back =
            restored t.0 (λ i l. still (3 * length P + i) (omega arith)) y.0 (y.1 ∙ ranks_long ∙ sym o.ranks)

        pub loaded_refused : {k u : ℕ} → v ≡ Rattle.table.specs.Validity.Refused k u
            → Tabled B P R P₂ R₂ (Refused k u)
        unfolding loaded
        loaded_refused {k} {u} e = record {
          outcome =
              (λ i. record { answer = Refused k u; parents = parents_back i; ranks = ranks_back i })
              ∙ sym (ap (λ (f : Option Refusal). loaded f B P R)
              (sym fault_is ∙ validity_refused _ k u (sym c.answer ∙ e)));
        }
