-- What refusals leave: a table that none of 1 to 7 refuses is a tree.
--
--   Shape L ..       == what refusals 1 to 3 leave
--   Accepting L ..   == what refusals 1 to 7 leave
--   validity f       == whether a table is one: refusal f, or accepted
--   tree_of          == a table that passes 4 to 7 is a tree,
--   tree_fits           and a tree passes them
--   two_long         == two lists that are lent besides, by their test
--   not_spared       == an accepted table has none of the refusals that leave the work list alone
--   table_number     == the number of its refusal is at most 7, or the one for too many nodes
--   RanksUsedOnce    == the ranks of a node's children are 0, 1, .., each used by one
use Rattle.std.specs.Prelude.{Bool, true, false, not, ◌&&◌, List, [], ◌∷◌, ◌⊎◌, ◌↔◌, ◌≡◌, refl, ℕ, ◌*◌, ◌≤◌, ◌<◌, ltb}
use Rattle.std.specs.Prelude.{eqb, length}
use Rattle.std.proofs.Common.{inl, inr, sym, ap, ap₂, subst, ◌∙◌, arith, eqb-true, ltb-false, le-ltb, eq-eqb, ne_eqb}
use Rattle.std.proofs.Math.Option.{Option, none, some}
use Rattle.std.proofs.lemmas.Bool.{eqb-false, not-false}
use Rattle.faults.specs.Numbers.{number}
use Rattle.laws.specs.Refusals.{refusal, some_not_none, or_else_second, or_else_none, refuse_no, refuse-none}
use Rattle.laws.specs.Refusals.{or_else_some, refuse_number, refuse_some, refuse_least_all, refuse_least-none}
use Rattle.laws.specs.Refusals.{refuse_least_some}
use Rattle.laws.specs.Search.{least, Refusal, refused_or}
use Rattle.laws.specs.SearchLaws.{count-two}
use Rattle.laws.specs.Tests.{by_eq, by_lt, differ, both, both_is, trichotomy}
use Rattle.table.specs.Ancestry.{climb_root, leads_in_n, leads_steps}
use Rattle.table.specs.Children.{Nodes, Child, child_at_test, one_child_a_rank, child_at_is}
use Rattle.table.specs.declared.Limits.{Limits}
use Rattle.table.specs.Validity.{Validity}
use Rattle.table.specs.Validity.{Accepted, Refused}
use Rattle.table.specs.Table.{parent, rank, climb, leads, children, child_at, stray_parent, bad_rank, adrift}
use Rattle.table.specs.Table.{all_long, shape_fault, tree_fault, table_fault}
use Rattle.table.specs.TableLaws.{Tree, tree_ranked, stray_yes, stray_no, bad_root, bad_high, bad_shared, bad_no}
use Rattle.table.specs.TableLaws.{adrift_yes, adrift_no}

unfoldable pub validity : Option Refusal → Validity
validity f = refused_or Refused f Accepted

------------------------------------------------------------------------
-- The shape

pub record Shape (L : Limits) (P R : List ℕ) (long : Bool) (work : ℕ) : Type 0 where
  pub some : 0 < length P
  pub few : length P ≤ L.nodes
  pub ranks : length R ≡ length P
  pub others : long ≡ true
  pub work_long : work ≡ 4 * length P

pub shaped : (L : Limits) (P R : List ℕ) (long : Bool) (work : ℕ) → shape_fault L P R long work ≡ none
    → Shape L P R long work
unfolding shape_fault
shaped L P R long work e =
    let a = or_else_none _ _ e in
    let b = or_else_none _ _ a.1 in
    let lengths = not-false _ (refuse-none _ 3 0 b.1) in
    let c = both _ _ lengths in
    let d = both _ _ c.1 in
    record {
      some = some_node (length P) (eqb-false _ _ (refuse-none _ 1 0 a.0));
      few = ltb-false _ _ (refuse-none _ (number L.many) 0 b.0);
      ranks = eqb-true _ _ c.0;
      others = d.0;
      work_long = eqb-true _ _ d.1;
    }
  where
    some_node : (n : ℕ) → (n ≡ 0 → ⊥) → 0 < n
    some_node n ne = omega arith

pub shape_fits : {L : Limits} {P R : List ℕ} {long : Bool} {work : ℕ} → Shape L P R long work
    → shape_fault L P R long work ≡ none
unfolding shape_fault
shape_fits {L} {P} {R} {long} {work} s =
    or_else_second _ _ (refuse_no _ 1 0 (ne_eqb (length P) 0 (λ e. omega arith)))
    ∙ or_else_second _ _ (refuse_no _ (number L.many) 0 (le-ltb L.nodes (length P) s.few))
    ∙ refuse_no _ 3 0 (ap not (both_is (eq-eqb (length R) (length P) s.ranks)
    (both_is s.others (eq-eqb work (4 * length P) s.work_long))))

pub two_long : (n : ℕ) (a b : List ℕ) → all_long n (a ∷ b ∷ []) ≡ true → (length a ≡ n) × (length b ≡ n)
unfolding all_long
two_long n a b e =
    let first = both _ _ e in
    (eqb-true _ _ first.0, eqb-true _ _ (both _ _ first.1).0)

------------------------------------------------------------------------
-- The tree

pub tree_of : (P R : List ℕ) → 0 < length P → length R ≡ length P → tree_fault P R ≡ none → Tree P R
unfolding tree_fault
tree_of P R full long e =
    let a = or_else_none _ _ e in
    let b = or_else_none _ _ a.1 in
    let c = or_else_none _ _ b.1 in
    let root = both (eqb (parent P 0) 0) (eqb (rank R 0) 0) (not-false _ (refuse-none _ 4 0 a.0)) in
    record {
      some = full;
      long = long;
      root = eqb-true _ _ root.0;
      inside = λ v l. inside (eqb-true _ _ root.0) (refuse_least-none 5 (length P) (stray_parent P) b.0) v l;
      rank_low = λ v u l. by_lt (rank R v) (children P (parent P v)) (λ h. h)
          (λ h. absurd (differ (bad_high P R v u h) (refuse_least-none 6 (length P) (bad_rank P R) c.0 v l)));
      ranks_differ = λ v w u l m p r. differ
          (bad_shared P R v u (count-two _ (length P) v w l m
          (child_at_test P R (parent P v) (rank R v) v (record { above = u; up = refl }) refl)
          (child_at_test P R (parent P v) (rank R v) w (record { above = omega arith; up = sym p }) (sym r))))
          (refuse_least-none 6 (length P) (bad_rank P R) c.0 v (omega arith));
      leads_home = λ v l. home (eqb-true _ _ root.0) (refuse_least-none 7 (length P) (adrift P) c.1) v l;
    }
  where
    inside : parent P 0 ≡ 0 → ((v : ℕ) → v < length P → stray_parent P v ≡ false)
        → (v : ℕ) → v < length P → parent P v < length P
    inside root fine v l =
        by_lt (parent P v) (length P) (λ h. h)
        (λ h.
        by_lt 0 v (λ u. absurd (differ (stray_yes P v u h) (fine v l)))
        (λ u. let z : v ≡ 0 = omega arith in absurd (omega (arith, ap (parent P) z, root))))

    home : parent P 0 ≡ 0 → ((v : ℕ) → v < length P → adrift P v ≡ false)
        → (v : ℕ) → v < length P → climb P (length P) v ≡ 0
    home root fine v l =
        by_eq (climb P (length P) v) 0 (λ e. e)
        (λ ne.
        by_lt 0 v (λ u. absurd (differ (adrift_yes P v u ne) (fine v l)))
        (λ u. let z : v ≡ 0 = omega arith in absurd (ne (ap (climb P (length P)) z ∙ climb_root P root (length P)))))

-- and a tree whose root has rank 0 passes
pub tree_fits : {P R : List ℕ} → Tree P R → rank R 0 ≡ 0 → tree_fault P R ≡ none
unfolding tree_fault
tree_fits {P} {R} t root =
    or_else_second _ _ (refuse_no _ 4 0 (ap not (both_is (eq-eqb (parent P 0) 0 t.root) (eq-eqb (rank R 0) 0 root))))
    ∙ or_else_second _ _ (refuse_least_all 5 (length P) (stray_parent P) (λ v l. stray_no P v (t.inside v l)))
    ∙ or_else_second _ _ (refuse_least_all 6 (length P) (bad_rank P R) ranked)
    ∙ refuse_least_all 7 (length P) (adrift P) (λ v l. adrift_no P v (t.leads_home v l))
  where
    ranked : (v : ℕ) → v < length P → bad_rank P R v ≡ false
    ranked v l =
        by_eq v 0 (λ e. ap (bad_rank P R) e ∙ bad_root P R)
        (λ ne. bad_no P R v (t.rank_low v (omega arith) l) (one_child_a_rank P R (tree_ranked t) _ _))

-- what an accepted call has
pub record Accepting (L : Limits) (P R : List ℕ) (long : Bool) (work : ℕ) : Type 0 where
  pub shape : Shape L P R long work
  pub tree : Tree P R

pub accepting : (L : Limits) (P R : List ℕ) (long : Bool) (work : ℕ) → table_fault L P R long work ≡ none
    → Accepting L P R long work
unfolding table_fault
accepting L P R long work e =
    let a = or_else_none (shape_fault L P R long work) (tree_fault P R) e in
    let s = shaped L P R long work a.0 in
    record { shape = s; tree = tree_of P R s.some s.ranks a.1 }

pub not_spared : (L : Limits) (P R : List ℕ) (long : Bool) (work : ℕ) {f : Refusal} → table_fault L P R long work ≡ none
    → shape_fault L P R long work ≡ some f → ⊥
unfolding table_fault
not_spared L P R long work e g = some_not_none (sym g ∙ (or_else_none _ (tree_fault P R) e).0)

pub table_number : (L : Limits) (P R : List ℕ) (long : Bool) (work : ℕ) {f : Refusal}
    → table_fault L P R long work ≡ some f → (f.number ≤ 7) ⊎ (f.number ≡ (number L.many))
unfolding table_fault shape_fault tree_fault
table_number L P R long work e =
    or_else_some (shape_fault L P R long work) (tree_fault P R) e
    (λ a. refuse_some (eqb (length P) 0) 1 0 _ a (λ q. inl (omega arith))
    (λ b. refuse_some (ltb L.nodes (length P)) (number L.many) 0 _ b inr
    (λ c.
    let lengths = eqb (length R) (length P) && (long && eqb work (4 * length P)) in
    inl (omega (arith, refuse_number (not lengths) 3 0 c)))))
    (λ a. refuse_some (not (eqb (parent P 0) 0 && eqb (rank R 0) 0)) 4 0 _ a (λ q. inl (omega arith))
    (λ b. refuse_least_some 5 (length P) (stray_parent P) _ b (λ q. inl (omega arith))
    (λ c. refuse_least_some 6 (length P) (bad_rank P R) _ c (λ q. inl (omega arith))
    (λ d. inl (omega (arith, refuse_number (ltb (least (adrift P) (length P)) (length P)) 7 _ d))))))

------------------------------------------------------------------------
-- The answer

pub validity-accepted : (f : Option Refusal) → validity f ≡ Accepted → f ≡ none
unfolding validity
validity-accepted none e = refl
validity-accepted (some r) e = absurd (let z : ◌≡◌ {A = ℕ} 0 1 = cc in omega arith)

pub validity_refused : (f : Option Refusal) (k v : ℕ) → validity f ≡ Refused k v → f ≡ refusal k v
unfolding validity
validity_refused none k v e = absurd (let z : ◌≡◌ {A = ℕ} 0 1 = cc in omega arith)
validity_refused (some r) k v e =
    let a : r.number ≡ k = cc in
    let b : r.node ≡ v = cc in
    ap₂ refusal a b

------------------------------------------------------------------------
-- Document 01's sentences about an accepted table

-- the ranks of p's children are 0 to (number of children - 1), each used by one of them
pub record RanksUsedOnce (P R : List ℕ) (p : ℕ) : Type 0 where
  pub low : (v : ℕ) → v < length P → Child P p v → rank R v < children P p
  pub used : (r : ℕ) → r < children P p → (v : ℕ) × (v < length P) × Child P p v × (rank R v ≡ r)
  pub once : (v w : ℕ) → v < length P → w < length P → Child P p v → Child P p w → rank R v ≡ rank R w → v ≡ w

pub ranks_used_once : {P R : List ℕ} → Tree P R → (p : ℕ) → RanksUsedOnce P R p
ranks_used_once {P} {R} t p = record {
  low = λ v l c. subst (λ (x : ℕ). rank R v < children P x) c.up (t.rank_low v c.above l);
  used = λ r l.
      let k = child_at_is P R (tree_ranked t) p r l in
      (child_at P R p r, k.inside, record { above = k.above; up = k.up }, k.ranked);
  once = λ v w l m c d e.
      trichotomy v w (λ b. t.ranks_differ v w c.above b m (c.up ∙ sym d.up) e)
      (λ b. t.ranks_differ w v d.above b l (d.up ∙ sym c.up) (sym e));
}

-- following parents from any node comes to node 0: some number of steps does so exactly when n steps do
pub leads_when : {P : List ℕ} → Nodes P → (v : ℕ) → v < length P → (leads P v ≡ true) ↔ ((k : ℕ) × (climb P k v ≡ 0))
leads_when {P} w v l = (
  (λ e. (length P, leads_steps P v e)),
  (λ k. leads_in_n P w.root w.inside v k.0 l k.1),
)
