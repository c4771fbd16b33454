-- What the direction call answers, and what that means for a drawing of an accepted table under either rule (document
-- 01, "Lists of calls"; document 02, request 109).
--
--   number_of h   == the number of the refusal h; 0 of a direction
--   opposite h   == the direction h turned round
--   Within b h   == no part of the direction h is more than b away from 0
use Rattle.std.specs.Prelude.{true, ◌||◌, List, ◌≢◌, ◌≡◌, refl, ℕ, zero, suc, ◌*◌, ◌≤◌, ◌<◌, ltb, leb, ℤ, pos, neg_ℤ}
use Rattle.std.specs.Prelude.{nat_abs, length}
use Rattle.std.proofs.Common.{⊎_elim, sym, ap, subst, ◌∙◌, arith, leb-false, lt-ltb, le-ltb, ltb-true, ltb-false}
use Rattle.std.proofs.Math.Option.{Option, none, some}
use Rattle.std.proofs.Math.IntN.{neg_ℤ-neg_ℤ}
use Rattle.std.proofs.lemmas.Bool.{lt-leb}
use Rattle.faults.specs.Numbers.{number}
use Rattle.laws.specs.Refusals.{or_else_second, or_else_some, refuse_no, refuse_number}
use Rattle.laws.specs.Search.{Refusal, refused_or, ◌or_else◌}
use Rattle.laws.specs.Tests.{by_test, neither_is}
use Rattle.table.specs.declared.Limits.{Limits}
use Rattle.table.specs.Table.{parent, rank, climb, steps_up, table_fault, large}
use Rattle.table.specs.TableLaws.{Tree}
use Rattle.table.specs.Acceptance.{accepting, table_number}
use Rattle.table.specs.Ancestry.{climb-zero, under_antisym, steps_up_way, zero-steps_up, steps_up_self}
use Rattle.table.specs.Ancestry.{steps_up_siblings}
use Rattle.table.specs.Ancestry.{siblings_ranks}
use Rattle.table.proofs.NumberingLaws.{numbering}
use Rattle.table.specs.Paths.{PathRises, SharePoint, CommonEnd}
use Rattle.slopes.specs.declared.Rule.{Rule}
use Rattle.slopes.specs.declared.Slope.{Slope}
use Rattle.slopes.specs.Slopes.{slope_at, edge}
use Rattle.slopes.proofs.SlopeLaws.{slope_positive, slope_increasing}
use Rattle.direction.specs.Heading.{Heading}
use Rattle.direction.specs.Heading.{Along, Refused}
use Rattle.direction.specs.Direction.{sideways, heading, course, pair_fault, direction, Directed}
use Rattle.direction.proofs.RisingPaths.{Rising, DrawnAlong, rising_paths}
use Rattle.direction.proofs.NoCrossing.{no_crossing}

------------------------------------------------------------------------
-- The answer

-- two nodes are refused only where the table is
pub direction_given : (L : Limits) (P R : List ℕ) (rule : Rule) (work u v : ℕ) → table_fault L P R true work ≡ none
    → u < length P → v < length P → direction L P R rule work u v ≡ course P R rule u v
unfolding direction pair_fault
direction_given L P R rule work u v fine lu lv =
    ap (λ f. refused_or Refused f (course P R rule u v))
    (or_else_second (table_fault L P R true work) _ fine
    ∙ refuse_no _ 9 0 (neither_is (lt-leb (length P) u lu) (lt-leb (length P) v lv)))

-- from a node to itself the direction is (1, 1)
pub direction_self : (L : Limits) (P R : List ℕ) (rule : Rule) (work u : ℕ) → table_fault L P R true work ≡ none
    → u < length P → direction L P R rule work u u ≡ Along (pos 1) (pos 1)
unfolding heading
direction_self L P R rule work u fine l =
    direction_given L P R rule work u u fine l l ∙ rw (steps_up_self (accepting L P R true work fine).tree u l) refl

------------------------------------------------------------------------
-- 13, once the refusal of a node named twice

abbrev pub number_of : Heading → ℕ
number_of (Along d e) = 0
number_of (Refused k v) = k

heading_number : (P R : List ℕ) (s : ℕ → Slope) (u v i j : ℕ) → number_of (heading P R s u v i j) ≡ 0
unfolding heading sideways
heading_number P R s u v zero j = refl
heading_number P R s u v (suc i) zero = refl
heading_number P R s u v (suc i) (suc j) =
    by_test (ltb (rank R (climb P i u)) (rank R (climb P j v))) (λ t. rw t refl) (λ t. rw t refl)

-- no input gets it, at any limits that have another number for too many nodes
pub direction_without_13 : (L : Limits) (P R : List ℕ) (rule : Rule) (work u v : ℕ) → (number L.many) ≢ 13
    → number_of (direction L P R rule work u v) ≢ 13
unfolding direction pair_fault
direction_without_13 L P R rule work u v many =
    go (table_fault L P R true work or_else pair_fault (length P) u v) refl
  where
    go : (f : Option Refusal) → table_fault L P R true work or_else pair_fault (length P) u v ≡ f
        → number_of (refused_or Refused f (course P R rule u v)) ≢ 13
    go none fine e = omega (arith, heading_number P R (edge P R rule) u v (steps_up P u v) (steps_up P v u))
    go (some r) refused e =
        or_else_some (table_fault L P R true work) (pair_fault (length P) u v) refused
        (λ a. ⊎_elim (λ low. omega arith) (λ same. many (sym same ∙ e)) (table_number L P R true work a))
        (λ b. omega (arith, refuse_number (leb (length P) u || leb (length P) v) 9 0 b))

-- so no answer that keeps the call's contract is refusal 13
pub never_13 : (P R : List ℕ) (rule : Rule) (W X : List ℕ) (u v : ℕ) (r : Heading) → Directed large P R rule W X u v r
    → (z : ℕ) → r ≢ Refused 13 z
never_13 P R rule W X u v r directed z e =
    direction_without_13 large P R rule (length W) u v (λ q. omega arith) (ap number_of (sym directed.says ∙ e))

------------------------------------------------------------------------
-- There and back

abbrev pub opposite : Heading → Heading
opposite (Along d e) = Along (neg_ℤ d) (neg_ℤ e)
opposite (Refused k v) = Refused k v

heading-back : {P R : List ℕ} → Tree P R → (s : ℕ → Slope) (u v : ℕ) → u < length P → v < length P → u ≢ v
    → heading P R s v u (steps_up P v u) (steps_up P u v)
    ≡ opposite (heading P R s u v (steps_up P u v) (steps_up P v u))
unfolding heading sideways
heading-back {P} {R} tree s u v lu lv ne = go (steps_up P u v) (steps_up P v u) refl refl
  where
    go : (i j : ℕ) → steps_up P u v ≡ i → steps_up P v u ≡ j → heading P R s v u j i ≡ opposite (heading P R s u v i j)
    go zero zero ei ej =
        absurd (ne (under_antisym tree u v lu lv (zero-steps_up tree u v lu lv ei) (zero-steps_up tree v u lv lu ej)))
    go zero (suc j) ei ej = refl
    go (suc i) zero ei ej = refl
    go (suc i) (suc j) ei ej =
        let p = climb P i u in
        let q = climb P j v in
        let a = rank R p in
        let b = rank R q in
        let differ = siblings_ranks tree p q (steps_up_siblings tree u v i j lu lv ei ej) in
        by_test (ltb a b)
        (λ t. rw (t, le-ltb b a (omega (arith, ltb-true a b t)), neg_ℤ-neg_ℤ) refl)
        (λ t. rw (t, lt-ltb b a (omega (arith, ltb-false a b t, differ)), neg_ℤ-neg_ℤ) refl)

-- from v back to u, which is another node, the direction is the opposite; what is refused there is refused here
pub direction-back : (L : Limits) (P R : List ℕ) (rule : Rule) (work u v : ℕ) → u ≢ v
    → direction L P R rule work v u ≡ opposite (direction L P R rule work u v)
unfolding direction pair_fault
direction-back L P R rule work u v ne = go (table_fault L P R true work) refl
  where
    go : (f : Option Refusal) → table_fault L P R true work ≡ f
        → refused_or Refused (f or_else pair_fault (length P) v u) (course P R rule v u)
        ≡ opposite (refused_or Refused (f or_else pair_fault (length P) u v) (course P R rule u v))
    go (some r) fault = refl
    go none fine =
        by_test (leb (length P) u)
        (λ t. by_test (leb (length P) v) (λ s. rw (t, s) refl) (λ s. rw (t, s) refl))
        (λ t. by_test (leb (length P) v) (λ s. rw (t, s) refl)
        (λ s. rw (t, s) (heading-back (accepting L P R true work fine).tree (edge P R rule) u v
        (leb-false _ _ t) (leb-false _ _ s) ne)))

------------------------------------------------------------------------
-- A drawing

pub rule_rises : (rule : Rule) (n : ℕ) → Rising (slope_at rule n) n
rule_rises rule n = record {
  across_from_1 = λ j h l. (slope_positive rule n j h l).0;
  up_from_1 = λ j h l. (slope_positive rule n j h l).1;
  steeper = λ i j h l g. slope_increasing rule n i j h l g;
}

module _ {P R : List ℕ} (tree : Tree P R) (rule : Rule) {t : ℕ → ℕ} {x y : List ℕ}
    (drawn : DrawnAlong P (edge P R rule) t x y) where
  -- along the direction that the call gives every edge of the path rises
  pub direction_rises : (L : Limits) (work u v : ℕ) → table_fault L P R true work ≡ none
      → u < length P → v < length P
      → (d e : ℤ) × (direction L P R rule work u v ≡ Along d e) × PathRises P x y d e u v
  unfolding edge
  direction_rises L work u v fine lu lv =
      let r = rising_paths tree (numbering tree) (rule_rises rule (length P)) drawn u v lu lv in
      (r.0, r.1, direction_given L P R rule work u v fine lu lv ∙ r.2, r.3)

  -- no two edges share a point but a common end
  pub edges_apart : (v w m i j : ℕ) → 0 < v → v < length P → 0 < w → w < length P → v ≢ w
      → SharePoint x y (parent P v) v (parent P w) w m i j → CommonEnd x y (parent P v) v (parent P w) w m i
  unfolding edge
  edges_apart = no_crossing tree (numbering tree) (rule_rises rule (length P)) drawn

------------------------------------------------------------------------
-- The size of a direction

abbrev pub Within : ℕ → Heading → Type 0
Within b (Along d e) = (nat_abs d ≤ b) × (nat_abs e ≤ b)
Within b (Refused k v) = Unit {0}

abs_minus : (n : ℕ) → nat_abs (neg_ℤ (pos n)) ≡ n
abs_minus zero = refl
abs_minus (suc n) = refl

-- no part is more than twice the largest part of a slope
pub heading-size : {P R : List ℕ} → Tree P R → (s : ℕ → Slope) (b : ℕ) → 1 ≤ b
    → ((z : ℕ) → 0 < z → z < length P → ((s z).across ≤ b) × ((s z).up ≤ b))
    → (u v : ℕ) → u < length P → v < length P → Within (2 * b) (heading P R s u v (steps_up P u v) (steps_up P v u))
unfolding heading sideways
heading-size {P} {R} tree s b one part u v lu lv = go (steps_up P u v) (steps_up P v u) refl refl
  where
    go : (i j : ℕ) → steps_up P u v ≡ i → steps_up P v u ≡ j → Within (2 * b) (heading P R s u v i j)
    go zero j ei ej = (omega arith, omega arith)
    go (suc i) zero ei ej = (omega arith, omega arith)
    go (suc i) (suc j) ei ej =
        let siblings = steps_up_siblings tree u v i j lu lv ei ej in
        let at_u = part u (subst (λ (z : ℕ). 0 < z) (climb-zero P u) (steps_up_way tree u v 0 lv (omega arith))) lu in
        let at_v = part v (subst (λ (z : ℕ). 0 < z) (climb-zero P v) (steps_up_way tree v u 0 lu (omega arith))) lv in
        let at_p = part (climb P i u) siblings.p_node siblings.p_inside in
        let at_q = part (climb P j v) siblings.q_node siblings.q_inside in
        by_test (ltb (rank R (climb P i u)) (rank R (climb P j v)))
        (λ t. rw (t, abs_minus) (omega arith))
        (λ t. rw (t, abs_minus) (omega arith))
