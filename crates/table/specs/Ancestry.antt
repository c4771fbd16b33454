-- Climbing from node to parent, subtrees, and lowest common ancestors.
--
-- The laws of climbing hold of any parent list, or of one whose parents are nodes; the rest is about an accepted table.
--
--   depth P v        == the number of steps from v up to the root
--   Siblings P p q   == p and q are different children of one node
use Rattle.std.specs.Prelude.{Bool, true, false, List, ◌≡◌}
use Rattle.std.proofs.Math.Path.{refl, sym, ap}
use Rattle.std.proofs.Common.{subst, ◌∙◌, zero-add, suc-add}
use Prim.Native.Nat.{ℕ, zero, suc, ◌+◌, ◌-◌, ◌≤◌, ◌<◌}
use native.Mathlib.Omega.{arith}
use Rattle.std.proofs.Math.Dec.{eqb}
use Rattle.std.proofs.Math.ListN.{length}
use borrow.Author.Tests.{eqb-true, eqb-false, eq-eqb, ne_eqb, leb-true, le-leb}
use Rattle.laws.specs.Search.{least}
use Rattle.laws.specs.SearchLaws.{least_below, least-found, least_is, least_passes}
use Rattle.laws.specs.Sums.{injective_le}
use Rattle.laws.specs.Tests.{by_eq, by_lt, differ, false_of}
use Rattle.table.specs.Table.{parent, rank, climb, leads, under, steps_up}
use Rattle.table.specs.TableLaws.{Tree}

------------------------------------------------------------------------
-- Climbing

pub climb-zero : (P : List ℕ) (v : ℕ) → climb P 0 v ≡ v
unfolding climb
climb-zero P v = refl

pub climb-suc : (P : List ℕ) (k v : ℕ) → climb P (suc k) v ≡ parent P (climb P k v)
unfolding climb
climb-suc P k v = refl

pub climb_shift : (P : List ℕ) (k v : ℕ) → climb P k (parent P v) ≡ parent P (climb P k v)
unfolding climb
climb_shift P zero v = refl
climb_shift P (suc k) v = ap (λ (z : ℕ). parent P z) (climb_shift P k v)

pub climb_plus : (P : List ℕ) (a b v : ℕ) → climb P a (climb P b v) ≡ climb P (a + b) v
unfolding climb
climb_plus P zero b v = rw zero-add
climb_plus P (suc a) b v = rw suc-add (ap (λ (z : ℕ). parent P z) (climb_plus P a b v))

-- from the k-th node of the way up on to the i-th
pub climb_onward : (P : List ℕ) (i k v : ℕ) → k ≤ i → climb P (i - k) (climb P k v) ≡ climb P i v
climb_onward P i k v l = climb_plus P (i - k) k v ∙ ap (λ (r : ℕ). climb P r v) (omega arith)

-- node 0 is its own parent
module _ (P : List ℕ) (root : parent P 0 ≡ 0) where
  pub climb_root : (k : ℕ) → climb P k 0 ≡ 0
  unfolding climb
  climb_root zero = refl
  climb_root (suc k) = ap (λ (z : ℕ). parent P z) (climb_root k) ∙ root

  pub climb_stays : (i k v : ℕ) → i ≤ k → climb P i v ≡ 0 → climb P k v ≡ 0
  climb_stays i k v l e = sym (climb_onward P k i v l) ∙ ap (climb P (k - i)) e ∙ climb_root (k - i)

-- parents are nodes
module _ (P : List ℕ) (inside : (v : ℕ) → v < length P → parent P v < length P) where
  pub climb-inside : (k v : ℕ) → v < length P → climb P k v < length P
  unfolding climb
  climb-inside zero v l = l
  climb-inside (suc k) v l = inside (climb P k v) (climb-inside k v l)

  -- a node that is met at all is met in fewer than n steps: otherwise n + 1 nodes are met first, not all different, and
  -- what lies between two equal ones can be left out
  pub met_below_n : (v a k : ℕ) → v < length P → climb P k v ≡ a → (i : ℕ) × (i < length P) × (climb P i v ≡ a)
  met_below_n v a k l e =
      by_lt first (length P) (λ h. (first, h, at_first))
      (λ h. absurd (omega (
        arith,
        injective_le (λ (i : ℕ). climb P i v) (suc (length P)) (length P) (λ i b. climb-inside i v l)
            (λ i j b c same. shorter i j b (omega arith) same),
      )))
    where
      meets : ℕ → Bool
      meets i = eqb (climb P i v) a

      found : (least meets (suc k) ≤ k) × (meets (least meets (suc k)) ≡ true)
      found = least-found meets (suc k) k (omega arith) (eq-eqb (climb P k v) a e)

      first : ℕ
      first = least meets (suc k)

      at_first : climb P first v ≡ a
      at_first = eqb-true (climb P first v) a found.1

      shorter : (i j : ℕ) → i < j → j ≤ first → climb P i v ≡ climb P j v → ⊥
      shorter i j b c same =
          differ
          (eq-eqb (climb P ((first - j) + i) v) a
          (sym (climb_plus P (first - j) i v) ∙ ap (climb P (first - j)) same ∙ climb_onward P first j v c ∙ at_first))
          (least_below meets (suc k) ((first - j) + i) (omega arith))

-- a node leads to the root if any number of steps does
pub leads_in_n : (P : List ℕ) → parent P 0 ≡ 0 → ((v : ℕ) → v < length P → parent P v < length P)
    → (v k : ℕ) → v < length P → climb P k v ≡ 0 → leads P v ≡ true
unfolding leads
leads_in_n P root inside v k l e =
    let met : (i : ℕ) × (i < length P) × (climb P i v ≡ 0) = met_below_n P inside v 0 k l e in
    eq-eqb (climb P (length P) v) 0 (climb_stays P root met.0 (length P) v (omega arith) met.2)

pub leads_steps : (P : List ℕ) (v : ℕ) → leads P v ≡ true → climb P (length P) v ≡ 0
unfolding leads
leads_steps P v t = eqb-true (climb P (length P) v) 0 t

------------------------------------------------------------------------
-- Subtrees

pub under_steps : (P : List ℕ) (a v : ℕ) → under P a v ≡ true → (k : ℕ) × (k ≤ length P) × (climb P k v ≡ a)
unfolding under
under_steps P a v t =
    let low : first ≤ length P = leb-true _ _ t in
    (first, low, eqb-true (climb P first v) a (least_passes meets (suc (length P)) (omega arith)))
  where
    meets : ℕ → Bool
    meets k = eqb (climb P k v) a

    first : ℕ
    first = least meets (suc (length P))

pub steps_under : (P : List ℕ) → ((v : ℕ) → v < length P → parent P v < length P)
    → (a v k : ℕ) → v < length P → climb P k v ≡ a → under P a v ≡ true
unfolding under
steps_under P inside a v k l e =
    let met : (i : ℕ) × (i < length P) × (climb P i v ≡ a) = met_below_n P inside v a k l e in
    let found = least-found meets (suc (length P)) met.0 (omega arith) (eq-eqb (climb P met.0 v) a met.2) in
    le-leb (least meets (suc (length P))) (length P) (omega arith)
  where
    meets : ℕ → Bool
    meets k = eqb (climb P k v) a

------------------------------------------------------------------------
-- Depth, siblings

pub record Siblings (P : List ℕ) (p q : ℕ) : Type 0 where
  pub p_node : 0 < p
  pub p_inside : p < length P
  pub q_node : 0 < q
  pub q_inside : q < length P
  pub one_parent : parent P p ≡ parent P q
  pub apart : p ≡ q → ⊥

unfoldable pub depth : List ℕ → ℕ → ℕ
depth P v = least (λ k. eqb (climb P k v) 0) (length P)

-- before that no node on the way up is the root
pub depth_first : (P : List ℕ) (v k : ℕ) → k < depth P v → 0 < climb P k v
unfolding depth
depth_first P v k l =
    let ne : climb P k v ≡ 0 → ⊥ = eqb-false _ _ (least_below (λ k. eqb (climb P k v) 0) (length P) k l) in
    omega arith

module _ {P R : List ℕ} (tree : Tree P R) where
  depth-found : (v : ℕ) → v < length P → (depth P v < length P) × (climb P (depth P v) v ≡ 0)
  unfolding depth
  depth-found v l =
      let met : (i : ℕ) × (i < length P) × (climb P i v ≡ 0) =
      met_below_n P tree.inside v 0 (length P) l (tree.leads_home v l) in
      let found : (depth P v ≤ met.0) × (eqb (climb P (depth P v) v) 0 ≡ true) =
      least-found (λ k. eqb (climb P k v) 0) (length P) met.0 met.1 (eq-eqb _ _ met.2) in
      (omega arith, eqb-true _ _ found.1)

  pub depth_below_n : (v : ℕ) → v < length P → depth P v < length P
  depth_below_n v l = (depth-found v l).0

  pub climb-depth : (v : ℕ) → v < length P → climb P (depth P v) v ≡ 0
  climb-depth v l = (depth-found v l).1

  pub depth-climb : (k v : ℕ) → v < length P → depth P (climb P k v) ≡ depth P v - k
  unfolding depth
  depth-climb k v l =
      sym (least_is (λ j. eqb (climb P j (climb P k v)) 0) (length P) (depth P v - k) (omega (arith, depth_below_n v l))
      (λ j b. ne_eqb _ _ (λ (e : climb P j (climb P k v) ≡ 0).
      omega (arith, depth_first P v (j + k) (omega arith), sym (climb_plus P j k v) ∙ e)))
      (λ b. eq-eqb _ _ (climb_plus P (depth P v - k) k v
      ∙ climb_stays P tree.root (depth P v) ((depth P v - k) + k) v (omega arith) (climb-depth v l))))

  pub depth-zero : (v : ℕ) → v < length P → depth P v ≡ 0 → v ≡ 0
  depth-zero v l e = sym (climb-zero P v) ∙ ap (λ (k : ℕ). climb P k v) (sym e) ∙ climb-depth v l

  pub depth-parent : (v : ℕ) → 0 < v → v < length P → depth P (parent P v) + 1 ≡ depth P v
  unfolding climb
  depth-parent v p l =
      by_eq (depth P v) 0 (λ e. absurd (omega (arith, depth-zero v l e))) (λ ne. omega (arith, depth-climb 1 v l))

  ----------------------------------------------------------------------
  -- Subtrees are ordered, with the root's as the largest

  pub under-climb : (k v : ℕ) → v < length P → under P (climb P k v) v ≡ true
  under-climb k v l = steps_under P tree.inside (climb P k v) v k l refl

  pub under-inside : (a v : ℕ) → v < length P → under P a v ≡ true → a < length P
  under-inside a v l t =
      let up : (k : ℕ) × (k ≤ length P) × (climb P k v ≡ a) = under_steps P a v t in
      subst (λ (z : ℕ). z < length P) up.2 (climb-inside P tree.inside up.0 v l)

  pub under_refl : (v : ℕ) → v < length P → under P v v ≡ true
  under_refl v l = steps_under P tree.inside v v 0 l (climb-zero P v)

  pub under_parent : (v : ℕ) → v < length P → under P (parent P v) v ≡ true
  unfolding climb
  under_parent v l = under-climb 1 v l

  pub under_root : (v : ℕ) → v < length P → under P 0 v ≡ true
  under_root v l = steps_under P tree.inside 0 v (length P) l (tree.leads_home v l)

  pub under_trans : (a b v : ℕ) → v < length P → under P a b ≡ true → under P b v ≡ true → under P a v ≡ true
  under_trans a b v l s t =
      let up : (k : ℕ) × (k ≤ length P) × (climb P k b ≡ a) = under_steps P a b s in
      let low : (k : ℕ) × (k ≤ length P) × (climb P k v ≡ b) = under_steps P b v t in
      steps_under P tree.inside a v (up.0 + low.0) l
      (sym (climb_plus P up.0 low.0 v) ∙ ap (climb P up.0) low.2 ∙ up.2)

  pub under_antisym : (a b : ℕ) → a < length P → b < length P → under P a b ≡ true → under P b a ≡ true → a ≡ b
  under_antisym a b la lb s t =
      let up : (k : ℕ) × (k ≤ length P) × (climb P k b ≡ a) = under_steps P a b s in
      let down : (k : ℕ) × (k ≤ length P) × (climb P k a ≡ b) = under_steps P b a t in
      let da : depth P a ≡ depth P b - up.0 = ap (depth P) (sym up.2) ∙ depth-climb up.0 b lb in
      let db : depth P b ≡ depth P a - down.0 = ap (depth P) (sym down.2) ∙ depth-climb down.0 a la in
      by_eq (depth P a) 0
      (λ z. depth-zero a la z ∙ sym (depth-zero b lb (omega arith)))
      (λ ne. sym (climb-zero P a) ∙ ap (λ (k : ℕ). climb P k a) (omega arith) ∙ down.2)

  pub not_under_child : (v : ℕ) → 0 < v → v < length P → under P v (parent P v) ≡ false
  not_under_child v p l = false_of (λ t.
      let up : (k : ℕ) × (k ≤ length P) × (climb P k (parent P v) ≡ v) = under_steps P v (parent P v) t in
      omega (arith, depth-parent v p l, depth-climb up.0 (parent P v) (tree.inside v l), ap (depth P) up.2))

  -- a node of a's subtree other than a has its parent there
  pub under_on : (a v : ℕ) → v < length P → under P a v ≡ true → (v ≡ a → ⊥) → under P a (parent P v) ≡ true
  under_on a v l t ne = go up.0 up.2
    where
      up : (k : ℕ) × (k ≤ length P) × (climb P k v ≡ a)
      up = under_steps P a v t

      go : (k : ℕ) → climb P k v ≡ a → under P a (parent P v) ≡ true
      go zero e = absurd (ne (sym (climb-zero P v) ∙ e))
      go (suc k) e =
          steps_under P tree.inside a (parent P v) k (tree.inside v l)
          (climb_shift P k v ∙ sym (climb-suc P k v) ∙ e)

  ----------------------------------------------------------------------
  -- Lowest common ancestors

  steps_up-found : (u v : ℕ) → u < length P → v < length P
      → (steps_up P u v ≤ depth P u) × (under P (climb P (steps_up P u v) u) v ≡ true)
  unfolding steps_up
  steps_up-found u v lu lv =
      least-found (λ k. under P (climb P k u) v) (length P) (depth P u) (depth_below_n u lu)
      (subst (λ (z : ℕ). under P z v ≡ true) (sym (climb-depth u lu)) (under_root v lv))

  pub steps_up_common : (u v : ℕ) → u < length P → v < length P → under P (climb P (steps_up P u v) u) v ≡ true
  steps_up_common u v lu lv = (steps_up-found u v lu lv).1

  pub steps_up_lowest : (u v i : ℕ) → i < steps_up P u v → under P (climb P i u) v ≡ false
  unfolding steps_up
  steps_up_lowest u v i l = least_below (λ k. under P (climb P k u) v) (length P) i l

  pub steps_up-least : (u v k : ℕ) → under P (climb P k u) v ≡ true → steps_up P u v ≤ k
  steps_up-least u v k t = by_lt k (steps_up P u v) (λ l. absurd (differ t (steps_up_lowest u v k l))) (λ l. l)

  pub steps_up_is : (u v r : ℕ) → u < length P → v < length P → under P (climb P r u) v ≡ true
      → ((i : ℕ) → i < r → under P (climb P i u) v ≡ false) → steps_up P u v ≡ r
  steps_up_is u v r lu lv t before =
      by_lt (steps_up P u v) r (λ l. absurd (differ (steps_up_common u v lu lv) (before (steps_up P u v) l)))
      (λ l. omega (arith, steps_up-least u v r t))

  pub steps_up-zero : (u v : ℕ) → u < length P → v < length P → under P u v ≡ true → steps_up P u v ≡ 0
  steps_up-zero u v lu lv t =
      steps_up_is u v 0 lu lv (subst (λ (z : ℕ). under P z v ≡ true) (sym (climb-zero P u)) t) (λ i l. absurd
      (omega arith))

  pub zero-steps_up : (u v : ℕ) → u < length P → v < length P → steps_up P u v ≡ 0 → under P u v ≡ true
  zero-steps_up u v lu lv e =
      subst (λ (z : ℕ). under P z v ≡ true) (ap (λ (k : ℕ). climb P k u) e ∙ climb-zero P u) (steps_up_common u v lu lv)

  -- the path from a node to itself has no edge
  pub steps_up_self : (u : ℕ) → u < length P → steps_up P u u ≡ 0
  steps_up_self u l = steps_up-zero u u l l (under_refl u l)

  pub steps_up_some : (u v : ℕ) → u < length P → v < length P → under P u v ≡ false → (i : ℕ) × (steps_up P u v ≡ suc i)
  steps_up_some u v lu lv f = go (steps_up P u v) refl
    where
      go : (r : ℕ) → steps_up P u v ≡ r → (i : ℕ) × (steps_up P u v ≡ suc i)
      go zero e = absurd (differ (zero-steps_up u v lu lv e) f)
      go (suc i) e = (i, e)

  -- below the lowest common ancestor there is no root
  pub steps_up_way : (u v i : ℕ) → v < length P → i < steps_up P u v → 0 < climb P i u
  steps_up_way u v i lv l =
      by_eq (climb P i u) 0
      (λ e. absurd (differ (subst (λ (z : ℕ). under P z v ≡ true) (sym e) (under_root v lv)) (steps_up_lowest u v i l)))
      (λ ne. omega arith)

  -- the ancestor that u's way up comes to is at or above the one that v's way up comes to
  steps_up_over : (u v : ℕ) → u < length P → v < length P → under P (climb P (steps_up P u v) u) (climb P
      (steps_up P v u) v) ≡ true
  steps_up_over u v lu lv =
      let way : (k : ℕ) × (k ≤ length P) × (climb P k v ≡ climb P (steps_up P u v) u) =
      under_steps P (climb P (steps_up P u v) u) v (steps_up_common u v lu lv) in
      let low : steps_up P v u ≤ way.0 =
      steps_up-least v u way.0 (subst (λ (z : ℕ). under P z u ≡ true) (sym way.2) (under-climb
      (steps_up P u v) u lu)) in
      steps_under P tree.inside (climb P (steps_up P u v) u) (climb P (steps_up P v u) v) (way.0 - steps_up P v u)
      (climb-inside P tree.inside (steps_up P v u) v lv)
      (climb_onward P way.0 (steps_up P v u) v low ∙ way.2)

  -- the lowest common ancestor is the same from both sides
  pub steps_up_meet : (u v : ℕ) → u < length P → v < length P → climb P (steps_up P u v) u ≡ climb P (steps_up P v u) v
  steps_up_meet u v lu lv =
      under_antisym (climb P (steps_up P u v) u) (climb P (steps_up P v u) v)
      (climb-inside P tree.inside (steps_up P u v) u lu) (climb-inside P tree.inside (steps_up P v u) v lv)
      (steps_up_over u v lu lv) (steps_up_over v u lv lu)

  -- where it is neither of the two, the nodes before it on either way are different children of it
  pub steps_up_siblings : (u v i j : ℕ) → u < length P → v < length P → steps_up P u v ≡ suc i → steps_up P v u ≡ suc j
      → Siblings P (climb P i u) (climb P j v)
  steps_up_siblings u v i j lu lv ei ej = record {
    p_node = steps_up_way u v i lv (omega arith);
    p_inside = climb-inside P tree.inside i u lu;
    q_node = steps_up_way v u j lu (omega arith);
    q_inside = climb-inside P tree.inside j v lv;
    one_parent = sym (climb-suc P i u) ∙ ap (λ (k : ℕ). climb P k u) (sym ei) ∙ steps_up_meet u v lu lv
        ∙ ap (λ (k : ℕ). climb P k v) ej ∙ climb-suc P j v;
    apart = λ e. differ (subst (λ (z : ℕ). under P z v ≡ true) (sym e) (under-climb j v lv))
        (steps_up_lowest u v i (omega arith));
  }

  pub siblings_ranks : (p q : ℕ) → Siblings P p q → rank R p ≡ rank R q → ⊥
  siblings_ranks p q s e =
      let ne : p ≡ q → ⊥ = s.apart in
      by_lt p q (λ l. tree.ranks_differ p q s.p_node l s.q_inside s.one_parent e)
      (λ l. tree.ranks_differ q p s.q_node (omega arith) s.p_inside (sym s.one_parent) (sym e))
