-- From the refusals to the pairs: what an accepted table and its places give, and what each answer of the check says.
use mathlib.Core.Bool.{Bool}
use mathlib.Core.List.{List, [], ◌∷◌}
use mathlib.Core.Option.{none, some}
use mathlib.Core.Path.{◌≡◌, refl, sym, ap, subst, subst⁻¹, ◌∙◌}
use Prim.Native.Nat.{ℕ, ◌+◌, ◌*◌, ◌≤◌, ◌<◌}
use native.Mathlib.Omega.{arith}
use lib.ListN.{length, get_or}
use Rattle.faults.specs.Numbers.{number}
use Rattle.laws.specs.Refusals.{refusal, or_else_first, or_else_second, refuse_least-none}
use Rattle.laws.specs.Regions.{Only}
use Rattle.laws.specs.Search.{Refusal, refuse_least}
use Rattle.table.specs.Acceptance.{Accepting, accepting, two_long, not_spared, validity-accepted, validity_refused}
use Rattle.table.specs.declared.Limits.{Limits}
use Rattle.table.specs.Validity.{Accepted, Refused}
use Rattle.table.specs.Numbering.{Numbering, Numbered}
use Rattle.table.proofs.NumberingLaws.{numbering, number_at}
use Rattle.table.specs.Table.{order, post_number, all_long, shape_fault, table_fault, large, farthest}
use Rattle.table.specs.Parts.{Validated, ready}
use Rattle.monotone.specs.declared.Verdict.{Verdict}
use Rattle.monotone.specs.declared.Verdict.TheVariants as verdict
use Rattle.monotone.specs.Monotone.{place_beyond, check_fault, Says, Checked}
use Rattle.monotone.specs.Parts.{WithEdges, ChildrenFirst, DrawnPart, DrawnEdges, Found, Judged}
use Rattle.monotone.proofs.Places.{both-within, drawn_small}

------------------------------------------------------------------------
-- The work list for the pairs

-- W, numbered to A, with x's parts to B, with y's parts to C
module _ {P R x y W A B C : List ℕ} (j : Judged P R x y W) (numbered : Numbered P R A)
    (x_drawn : DrawnPart P x (length P) B) (x_only : Only (length P) (length P + length P) A B)
    (y_drawn : DrawnPart P y (2 * length P) C) (y_only : Only (2 * length P) (2 * length P + length P) B C) where
  pub drawn : DrawnEdges P x y C
  drawn = record {
    across = record { drawn = λ z l. omega (arith, y_only.below (length P + z) (omega arith), x_drawn.drawn z l) };
    up = y_drawn;
  }

  pub with_edges : WithEdges P C
  with_edges = record {
    ranks = R;
    tree = j.ready.tree;
    edges = record {
      few = j.few;
      long = y_only.long ∙ x_only.long ∙ numbered.long;
      across = λ z s l. drawn_small j.across drawn.across z l;
      up = λ z s l. drawn_small j.up drawn.up z l;
    };
  }

  node : (i : ℕ) → i < length P → get_or C (3 * length P + i) 0 ≡ get_or (order P R) i 0
  node i l =
      y_only.above (3 * length P + i) (omega arith) ∙ x_only.above (3 * length P + i) (omega arith)
      ∙ numbered.node i l

  pub ordered : ChildrenFirst P C
  ordered =
      let laws : Numbering P R (post_number P R) = numbering j.ready.tree in
      record {
        number = post_number P R;
        inside = λ i l. subst⁻¹ (λ (v : ℕ). v < length P) (node i l) (number_at j.ready.tree i l).0;
        place = λ i l. ap (post_number P R) (node i l) ∙ (number_at j.ready.tree i l).1;
        once = laws.once;
        least = laws.from_1;
        most = laws.to_n;
        later = laws.parent_later;
      }

------------------------------------------------------------------------
-- The answers

module _ (x y : List ℕ) {L : Limits} {P R : List ℕ} {long : Bool} {W X : List ℕ}
    (lengths : long ≡ all_long (length P) (x ∷ y ∷ [])) where
  -- a refusal of the table
  pub checked_table : {k v : ℕ} → Validated L P R long W X (Refused k v) → Checked L P R x y W X (verdict.Refused k v)
  unfolding Says check_fault
  checked_table {k} {v} t = record {
    says = or_else_first _ _ (subst (λ (b : Bool). table_fault L P R b (length W) ≡ refusal k v) lengths
        (validity_refused (table_fault L P R long (length W)) k v (sym t.answer)));
    spared = λ f e. t.spared f (subst⁻¹ (λ (b : Bool). shape_fault L P R b (length W) ≡ some f) lengths e);
    long = t.kept.long;
  }

  module _ (t : Validated L P R long W X Accepted) where
    accepted : table_fault L P R (all_long (length P) (x ∷ y ∷ [])) (length W) ≡ none
    accepted = subst (λ (b : Bool). table_fault L P R b (length W) ≡ none) lengths
        (validity-accepted (table_fault L P R long (length W)) (sym t.answer))

    known : Accepting L P R (all_long (length P) (x ∷ y ∷ [])) (length W)
    known = accepting L P R _ (length W) accepted

    -- the refusals that spare the work list have passed
    passed : {Y : List ℕ} (f : Refusal) → shape_fault L P R (all_long (length P) (x ∷ y ∷ [])) (length W) ≡ some f → Y ≡ W
    passed f e = absurd (not_spared L P R _ (length W) accepted e)

    pub x_long : length x ≡ length P
    x_long = (two_long (length P) x y known.shape.others).0

    pub y_long : length y ≡ length P
    y_long = (two_long (length P) x y known.shape.others).1

    pub few_nodes : L.nodes ≤ large.nodes → length P ≤ large.nodes
    few_nodes nodes = omega (arith, known.shape.few)

    -- the nodes of x are those of P
    over : refuse_least (number L.far) (length x) (place_beyond L.place x y)
        ≡ refuse_least (number L.far) (length P) (place_beyond L.place x y)
    over = ap (λ n. refuse_least (number L.far) n (place_beyond L.place x y)) x_long

    -- refusal 15
    pub checked_far : {Y : List ℕ} {k v : ℕ} → length Y ≡ length W
        → refuse_least (number L.far) (length x) (place_beyond L.place x y) ≡ refusal k v
        → Checked L P R x y W Y (verdict.Refused k v)
    unfolding Says check_fault
    checked_far same is = record {
      says = or_else_second _ _ accepted ∙ sym over ∙ is;
      spared = passed;
      long = same;
    }

    module _ (near : refuse_least (number L.far) (length x) (place_beyond L.place x y) ≡ none) where
      no_fault : check_fault L P R x y (length W) ≡ none
      unfolding check_fault
      no_fault = or_else_second _ _ accepted ∙ sym over ∙ near

      -- no refusal
      pub checked-found : {Y : List ℕ} → length Y ≡ length W → (r : Verdict) → Found P x y r → Checked L P R x y W Y r
      unfolding Says
      checked-found same r f = record { says = says r f; spared = passed; long = same }
        where
          says : (r : Verdict) → Found P x y r → Says L P R x y (length W) r
          says verdict.Monotone f = (no_fault, f)
          says (verdict.Turns u w) f = (no_fault, f)
          says (verdict.Refused k w) f = absurd f

      within : (w : ℕ) → w < length P → (get_or x w 0 ≤ L.place) × (get_or y w 0 ≤ L.place)
      within w l =
          both-within L.place x y w
          (refuse_least-none (number L.far) (length P) (place_beyond L.place x y) (sym over ∙ near) w l)

      pub judged : L.nodes ≤ large.nodes → L.place ≤ farthest → Judged P R x y X
      judged nodes place = record {
        ready = ready t (omega arith) refl;
        few = few_nodes nodes;
        across = record { inside = known.tree.inside; long = x_long; within = λ w l. omega (arith, (within w l).0) };
        up = record { inside = known.tree.inside; long = y_long; within = λ w l. omega (arith, (within w l).1) };
      }
