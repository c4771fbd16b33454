-- Refusal 7: every node is led to a marked one, and the way there is marked; the least node that is not is adrift.
use mathlib.Core.Bool.{true, false}
use mathlib.Core.List.{List}
use mathlib.Core.Option.{none}
use mathlib.Core.Path.{◌≡◌, sym, ap, subst, subst⁻¹, ◌∙◌}
use Prim.Native.Nat.{ℕ, ◌+◌, ◌-◌, ◌*◌, ◌≤◌, ◌<◌}
use native.Mathlib.Numerals.{add-one}
use native.Mathlib.Omega.{arith}
use lib.ListN.{length, get_or, set}
use lib.Seq.{get_or-set_same, get_or-set_other}
use borrow.Author.Count.{below_more, below_none}
use borrow.Author.Tests.{ltb-true, lt-ltb, le-ltb}
use Rattle.laws.specs.Refusals.{refusal, refuse_least_yes, refuse_least_all}
use Rattle.laws.specs.Regions.{Only, only_refl, only_set, only_trans}
use Rattle.laws.specs.Search.{least, refuse_least}
use Rattle.laws.specs.SearchLaws.{least_is, least_below, least_passes}
use Rattle.laws.specs.Tests.{by_eq, by_lt, differ}
use Rattle.table.specs.Ancestry.{climb_plus, climb-inside, climb-zero, climb-suc, climb_onward, leads_in_n}
use Rattle.table.specs.Ancestry.{leads_steps}
use Rattle.table.specs.Children.{children-total}
use Rattle.table.specs.Table.{parent, climb, adrift}
use Rattle.table.specs.TableLaws.{adrift_root, adrift_yes, adrift_no}
use Rattle.table.specs.Parts.{Scratch, Zeroed, Started, marked, Marking, Reaching}
use Rattle.table.proofs.FirstSlots.{scratch_kept}

marked_yes : (P W : List ℕ) (v : ℕ) → 0 < get_or W (length P + v) 0 → marked P W v ≡ true
unfolding marked
marked_yes P W v h = lt-ltb _ _ h

marked_no : (P W : List ℕ) (v : ℕ) → get_or W (length P + v) 0 ≤ 0 → marked P W v ≡ false
unfolding marked
marked_no P W v h = le-ltb _ _ h

marked_of : (P W : List ℕ) (v : ℕ) → marked P W v ≡ true → 0 < get_or W (length P + v) 0
unfolding marked
marked_of P W v t = ltb-true _ _ t

------------------------------------------------------------------------
-- Climbing to a marked node

pub record Stepping (P W : List ℕ) (v u k : ℕ) : Type 0 where
  pub upto : k ≤ length P + 1
  pub is : u ≡ climb P k v
  pub inside : u < length P
  pub passed : (i : ℕ) → i < k → marked P W (climb P i v) ≡ false

pub stepping_start : {P : List ℕ} (W : List ℕ) {v : ℕ} → v < length P → Stepping P W v v 0
stepping_start {P} W {v} l =
    record { upto = omega arith; is = sym (climb-zero P v); inside = l; passed = λ i m. absurd (omega arith) }

module _ {P W : List ℕ} {v u k : ℕ} (w : Scratch P W) (i : Stepping P W v u k) where
  pub stepping_found : {x : ℕ} → k ≤ length P → x ≡ get_or W (length P + u) 0 → 0 < x
      → k ≡ least (λ j. marked P W (climb P j v)) (length P + 1)
  stepping_found {x} l e h =
      least_is (λ j. marked P W (climb P j v)) (length P + 1) k (omega arith) i.passed
      (λ _. subst (λ (z : ℕ). marked P W z ≡ true) i.is (marked_yes P W u (omega arith)))

  pub stepping_step : {x y : ℕ} → k ≤ length P → x ≡ get_or W (length P + u) 0 → x ≤ 0 → y ≡ parent P u
      → Stepping P W v y (k + 1)
  stepping_step {x} {y} l e h ey = record {
    upto = omega arith;
    is = ey ∙ ap (parent P) i.is ∙ sym (climb-suc P k v) ∙ ap (λ (j : ℕ). climb P j v) (sym (add-one k));
    inside = subst⁻¹ (λ (z : ℕ). z < length P) ey (w.nodes.inside u i.inside);
    passed = below_more (λ (j : ℕ). marked P W (climb P j v) ≡ false) k i.passed
        (subst (λ (z : ℕ). marked P W z ≡ false) i.is (marked_no P W u (omega arith)));
  }

  pub stepping_end : length P < k → k ≡ least (λ j. marked P W (climb P j v)) (length P + 1)
  stepping_end h =
      least_is (λ j. marked P W (climb P j v)) (length P + 1) k i.upto i.passed
      (λ l. absurd (omega arith))

------------------------------------------------------------------------
-- Marking the way

pub record Passing (P W X : List ℕ) (v k u i : ℕ) : Type 0 where
  pub is : u ≡ climb P i v
  pub marking : Marking P X
  pub still : marked P W v ≡ true → marked P X v ≡ true
  pub first : 0 < i → marked P X v ≡ true
  pub kept : Only (length P + 1) (2 * length P) W X

pub passing_start : {P W : List ℕ} {v k : ℕ} → Reaching P W v k → Passing P W W v k v 0
passing_start {P} {W} {v} r = record {
  is = sym (climb-zero P v);
  marking = r.marking;
  still = λ t. t;
  first = λ h. absurd (omega arith);
  kept = only_refl _ _ W;
}

module _ {P W X : List ℕ} {v k u i : ℕ} (r : Reaching P W v k) (p : Passing P W X v k u i) where
  pub passing_inside : u < length P
  passing_inside =
      subst⁻¹ (λ (z : ℕ). z < length P) p.is (climb-inside P r.scratch.nodes.inside i v r.inside)

  pub passing_in : length P + u < length X
  passing_in = omega (arith, r.scratch.room, p.kept.long, passing_inside)

  -- node 0 is marked, and this one was not
  above_root : i < k → 0 < u
  above_root l =
      by_lt 0 u (λ h. h)
      (λ h.
      absurd (differ (r.marking.root (omega arith))
      (subst (λ (z : ℕ). marked P W z ≡ false) (sym p.is ∙ omega arith) (r.before i l))))

  leads_on : i < k → (m : ℕ) × (climb P m u ≡ 0)
  leads_on l =
      let m = r.marking.leads (climb P k v) (climb-inside P r.scratch.nodes.inside k v r.inside)
      r.here in (
        m.0 + (k - i),
        sym (climb_plus P m.0 (k - i) u)
            ∙ ap (climb P m.0) (ap (climb P (k - i)) p.is ∙ climb_onward P k i v (omega arith))
            ∙ m.1,
      )

  pub passing_step : {Y : List ℕ} {y : ℕ} → i < k → Y ≡ set X (length P + u) 1 → y ≡ parent P u
      → Passing P W Y v k y (i + 1)
  passing_step {Y} {y} l ey eu = record {
    is = eu ∙ ap (parent P) p.is ∙ sym (climb-suc P i v) ∙ ap (λ (j : ℕ). climb P j v) (sym (add-one i));
    marking = record {
      root =
          λ h. marked_yes P Y 0
          (omega (arith, other 0 (λ e. omega (arith, above_root l)), marked_of P X 0 (p.marking.root h)));
      leads = λ z b t. by_eq z u
          (λ e. subst⁻¹ (λ (a : ℕ). (m : ℕ) × (climb P m a ≡ 0)) e (leads_on l))
          (λ ne. p.marking.leads z b (marked_yes P X z (omega (arith, other z ne, marked_of P Y z t))));
    };
    still = λ t. marked_now (λ ne. p.still t);
    first = λ h. marked_now (λ ne. p.first (later ne));
    kept = only_set (length P + u) 1 p.kept (omega (arith, above_root l)) (omega (arith, passing_inside)) ey;
  }
    where
      here : get_or Y (length P + u) 0 ≡ 1
      here = ap (λ (l : List ℕ). get_or l (length P + u) 0) ey ∙ get_or-set_same X (length P + u) 1 0 passing_in

      other : (z : ℕ) → (z ≡ u → ⊥) → get_or Y (length P + z) 0 ≡ get_or X (length P + z) 0
      other z ne =
          ap (λ (l : List ℕ). get_or l (length P + z) 0) ey
          ∙ get_or-set_other X (length P + u) (length P + z) 1 0 (λ e. ne (omega arith))

      marked_now : ((v ≡ u → ⊥) → marked P X v ≡ true) → marked P Y v ≡ true
      marked_now before =
          by_eq v u (λ e. marked_yes P Y v (omega (arith, ap (λ (a : ℕ). get_or Y (length P + a) 0) e, here)))
          (λ ne. marked_yes P Y v (omega (arith, other v ne, marked_of P X v (before ne))))

      later : (v ≡ u → ⊥) → 0 < i
      later ne =
          by_lt 0 i (λ h. h)
          (λ h. absurd (ne (sym (climb-zero P v) ∙ ap (λ (j : ℕ). climb P j v) (omega arith) ∙ sym p.is)))

  pub passing_end : k ≤ i → Marking P X × (marked P X v ≡ true)
  passing_end l = (p.marking, by_lt 0 i p.first (λ h. p.still (already (omega arith))))
    where
      already : k ≡ 0 → marked P W v ≡ true
      already e =
          subst (λ (z : ℕ). marked P W z ≡ true) (ap (λ (j : ℕ). climb P j v) e ∙ climb-zero P v) r.here

------------------------------------------------------------------------
-- The least node that is adrift

-- after the first slots nothing is marked but node 0
pub marking_start : {P W : List ℕ} → Scratch P W → Started P W → Zeroed (length P + 1) (2 * length P) W → Marking P W
marking_start {P} {W} w d z = record {
  root = λ h. marked_yes P W 0 (omega (
    arith,
    ap (λ (k : ℕ). get_or W k 0) (right (length P)),
    d.at (length P) (omega arith),
    children-total P w.nodes,
  ));
  leads = λ v l t. by_lt 0 v
      (λ a. absurd (omega (arith, marked_of P W v t, z.at (length P + v) (omega arith) (omega arith))))
      (λ a. (0, climb-zero P v ∙ omega arith));
}
  where
    right : (n : ℕ) → n + 0 ≡ n
    right n = omega arith

-- the nodes below v lead to node 0
pub record Drifting (P W X : List ℕ) (v : ℕ) : Type 0 where
  pub scratch : Scratch P X
  pub marking : Marking P X
  pub fine : (k : ℕ) → k < v → adrift P k ≡ false
  pub kept : Only (length P + 1) (2 * length P) W X

pub drifting_start : {P W : List ℕ} → Scratch P W → Started P W → Zeroed (length P + 1) (2 * length P) W
    → Drifting P W W 1
drifting_start {P} {W} w d z = record {
  scratch = w;
  marking = marking_start w d z;
  fine = below_more (λ (k : ℕ). adrift P k ≡ false) 0 (below_none (λ (k : ℕ). adrift P k ≡ false)) (adrift_root P);
  kept = only_refl _ _ W;
}

module _ {P W X : List ℕ} {v k : ℕ} (i : Drifting P W X v) (from : 1 ≤ v) (l : v < length P)
    (e : k ≡ least (λ j. marked P X (climb P j v)) (length P + 1)) where
  pub drifting_found : length P < k → refuse_least 7 (length P) (adrift P) ≡ refusal 7 v
  drifting_found h =
      refuse_least_yes 7 (length P) (adrift P) v
      (least_is (adrift P) (length P) v (omega arith) i.fine
      (λ _. adrift_yes P v from (λ home.
      differ (i.marking.root (omega arith))
      (subst (λ (z : ℕ). marked P X z ≡ false) home
      (least_below (λ j. marked P X (climb P j v)) (length P + 1) (length P) (omega arith)))))) l

  pub drifting_reaches : k ≤ length P → Reaching P X v k
  drifting_reaches h = record {
    scratch = i.scratch;
    marking = i.marking;
    above = from;
    inside = l;
    steps = h;
    here = subst⁻¹ (λ (j : ℕ). marked P X (climb P j v) ≡ true) e
        (least_passes (λ j. marked P X (climb P j v)) (length P + 1) (omega arith));
    before = λ j m. least_below (λ j. marked P X (climb P j v)) (length P + 1) j (omega arith);
  }

  pub drifting_step : {Y : List ℕ} → (Marking P Y × (marked P Y v ≡ true)) × Only (length P + 1) (2 * length P) X Y
      → Drifting P W Y (v + 1)
  drifting_step {Y} m =
      let home = m.0.0.leads v l m.0.1 in
      record {
        scratch = scratch_kept i.scratch m.1.long;
        marking = m.0.0;
        fine = below_more (λ (k : ℕ). adrift P k ≡ false) v i.fine
            (adrift_no P v (leads_steps P v
            (leads_in_n P i.scratch.nodes.root i.scratch.nodes.inside v home.0 l home.1)));
        kept = only_trans i.kept m.1;
      }

pub drifting_end : {P W X : List ℕ} {v : ℕ} → Drifting P W X v → length P ≤ v
    → refuse_least 7 (length P) (adrift P) ≡ none
drifting_end {P} i h = refuse_least_all 7 (length P) (adrift P) (λ k l. i.fine k (omega arith))
