-- Children, their ranks and their slots: what refusal 6 leaves, and the pigeonhole by which every rank below the number
-- of children is a child's.
--
--   Nodes P              == what refusals 1, 4 and 5 leave: the parents are nodes, and node 0 is its own
--   Ranked P R           == what refusal 6 leaves: ranks are below the number of children, and siblings' ranks differ
--   Child P p v          == v is a child of p
--   ChildAt P R p r v    == v is the child of p with rank r
--   slot P R v           == v's place if the children of 0, of 1, .. are put one after the other, each in rank order
use Rattle.std.specs.Prelude.{true, false, List, ◌≡◌, refl, ℕ, zero, suc, ◌+◌, ◌≤◌, ◌<◌, ltb, eqb, length}
use Rattle.std.proofs.Common.{sym, ap, subst, ◌∙◌, arith, ltb-true, eqb-true, lt-ltb, le-ltb, eq-eqb}
use Rattle.laws.specs.Search.{bit, count}
use Rattle.laws.specs.SearchLaws.{count_none, count_some, least-found}
use Rattle.laws.specs.Sums.{sum, sum_term, two_ways, count-one, all_ones, count_few}
use Rattle.laws.specs.Tests.{by_test, by_eq, by_lt, differ, false_of, both, both_is, trichotomy}
use Rattle.table.specs.Table.{parent, rank, is_child, children, is_child_at, child_at}

pub record Nodes (P : List ℕ) : Type 0 where
  pub some : 0 < length P
  pub root : parent P 0 ≡ 0
  pub inside : (v : ℕ) → v < length P → parent P v < length P

------------------------------------------------------------------------
-- Children as facts

pub record Child (P : List ℕ) (p v : ℕ) : Type 0 where
  pub above : 0 < v
  pub up : parent P v ≡ p

pub child_of : (P : List ℕ) (p v : ℕ) → is_child P p v ≡ true → Child P p v
unfolding is_child
child_of P p v e =
    let b : (ltb 0 v ≡ true) × (eqb (parent P v) p ≡ true) = both _ _ e in
    record { above = ltb-true 0 v b.0; up = eqb-true (parent P v) p b.1 }

pub child_test : (P : List ℕ) (p v : ℕ) → Child P p v → is_child P p v ≡ true
unfolding is_child
child_test P p v k = both_is (lt-ltb 0 v k.above) (eq-eqb (parent P v) p k.up)

pub child_at_of : (P R : List ℕ) (p r v : ℕ) → is_child_at P R p r v ≡ true → Child P p v × (rank R v ≡ r)
unfolding is_child_at
child_at_of P R p r v e =
    let b : (is_child P p v ≡ true) × (eqb (rank R v) r ≡ true) = both _ _ e in
    (child_of P p v b.0, eqb-true _ _ b.1)

pub child_at_test : (P R : List ℕ) (p r v : ℕ) → Child P p v → rank R v ≡ r → is_child_at P R p r v ≡ true
unfolding is_child_at
child_at_test P R p r v k e = both_is (child_test P p v k) (eq-eqb (rank R v) r e)

pub root_no_child : (P : List ℕ) (p : ℕ) → is_child P p 0 ≡ false
root_no_child P p = false_of (λ t. absurd (omega (arith, (child_of P p 0 t).above)))

------------------------------------------------------------------------
-- Every node but 0 is one node's child

count_above : (k : ℕ) → count (λ (v : ℕ). ltb 0 v) (suc k) ≡ k
unfolding count
count_above zero = refl
count_above (suc k) = omega (arith, count_above k, ap bit (lt-ltb 0 (suc k) (omega arith)))

pub one_parent : (P : List ℕ) → Nodes P → (v : ℕ) → v < length P
    → count (λ (p : ℕ). is_child P p v) (length P) ≡ bit (ltb 0 v)
one_parent P w v l =
    by_lt 0 v
    (λ a.
    count-one _ (length P) (parent P v) (w.inside v l) (child_test P _ v (record { above = a; up = refl }))
    (λ p m ne. false_of (λ t. ne (sym (child_of P p v t).up)))
    ∙ sym (ap bit (lt-ltb 0 v a)))
    (λ a.
    count_none _ (length P) (λ p m. false_of (λ t. absurd (omega (arith, (child_of P p v t).above))))
    ∙ sym (ap bit (le-ltb 0 v a)))

pub children-total : (P : List ℕ) → Nodes P → sum (children P) (length P) + 1 ≡ length P
unfolding children
children-total P w =
    omega (
      arith,
      two_ways (is_child P) (λ (v : ℕ). ltb 0 v) (length P) (length P) (one_parent P w),
      above (length P) w.some,
    )
  where
    above : (n : ℕ) → 0 < n → count (λ (v : ℕ). ltb 0 v) n + 1 ≡ n
    above zero h = absurd (omega arith)
    above (suc k) h = omega (arith, count_above k)

------------------------------------------------------------------------
-- Slots

abbrev pub slot : List ℕ → List ℕ → ℕ → ℕ
slot P R v = sum (children P) (parent P v) + rank R v

pub slot_below : (P : List ℕ) (p r : ℕ) → Nodes P → p < length P → r < children P p
    → sum (children P) p + r + 1 < length P
slot_below P p r w l h = omega (arith, children-total P w, sum_term (children P) p (length P) l)

-- whatever the numbers g of children, a slot is of one parent and one rank
pub slot_once : (g : ℕ → ℕ) (p r q s : ℕ) → r < g p → s < g q → sum g p + r ≡ sum g q + s → (p ≡ q) × (r ≡ s)
slot_once g p r q s a b e =
    by_eq p q (λ x. (x, omega (arith, ap (sum g) x)))
    (λ ne.
    by_lt p q (λ l. absurd (omega (arith, sum_term g p q l)))
    (λ l. absurd (omega (arith, sum_term g q p (omega arith)))))

------------------------------------------------------------------------
-- Ranks

pub record Ranked (P R : List ℕ) : Type 0 where
  pub below : (v : ℕ) → 0 < v → v < length P → rank R v < children P (parent P v)
  pub apart : (v w : ℕ) → 0 < v → v < w → w < length P → parent P v ≡ parent P w → rank R v ≡ rank R w → ⊥

pub record ChildAt (P R : List ℕ) (p r v : ℕ) : Type 0 where
  pub above : 0 < v
  pub inside : v < length P
  pub up : parent P v ≡ p
  pub ranked : rank R v ≡ r

module _ (P R : List ℕ) (g : Ranked P R) where
  pub one_child_a_rank : (p r : ℕ) → count (is_child_at P R p r) (length P) ≤ 1
  one_child_a_rank p r =
      count_few (is_child_at P R p r) (length P)
      (λ j k a b x y.
      let c = child_at_of P R p r j x in
      let d = child_at_of P R p r k y in
      g.apart j k c.0.above a b (c.0.up ∙ sym d.0.up) (c.1 ∙ sym d.1))

  pub one-rank_a_child : (p v : ℕ) → v < length P
      → count (λ (s : ℕ). is_child_at P R p s v) (children P p) ≡ bit (is_child P p v)
  one-rank_a_child p v l =
      by_test (is_child P p v)
      (λ k.
      let c = child_of P p v k in
      count-one _ _ (rank R v) (subst (λ (x : ℕ). rank R v < children P x) c.up (g.below v c.above l))
      (child_at_test P R p _ v c refl) (λ s m ne. false_of (λ t. ne (sym (child_at_of P R p s v t).1)))
      ∙ sym (ap bit k))
      (λ k.
      count_none _ _ (λ s m. false_of (λ t. differ (child_test P p v (child_at_of P R p s v t).0) k)) ∙ sym (ap bit k))

  all_ranks : (p : ℕ) → sum (λ (s : ℕ). count (is_child_at P R p s) (length P)) (children P p) ≡ children P p
  unfolding children
  all_ranks p = two_ways (is_child_at P R p) (is_child P p) (children P p) (length P) (one-rank_a_child p)

  -- the pigeonhole
  pub rank_used : (p r : ℕ) → r < children P p → (v : ℕ) × (v < length P) × (is_child_at P R p r v ≡ true)
  rank_used p r l =
      let one : count (is_child_at P R p r) (length P) ≡ 1 =
      all_ones (λ (s : ℕ). count (is_child_at P R p s) (length P)) (children P p) (λ s m. one_child_a_rank p s)
      (all_ranks p)
      r l in
      count_some (is_child_at P R p r) (length P) (omega arith)

  pub child_at_is : (p r : ℕ) → r < children P p → ChildAt P R p r (child_at P R p r)
  unfolding child_at
  child_at_is p r l =
      let u = rank_used p r l in
      let f = least-found (is_child_at P R p r) (length P) u.0 u.1 u.2 in
      let c = child_at_of P R p r _ f.1 in
      record { above = c.0.above; inside = omega arith; up = c.0.up; ranked = c.1 }

  -- a node is the child of its rank
  pub child_at_only : (v : ℕ) → 0 < v → v < length P → child_at P R (parent P v) (rank R v) ≡ v
  child_at_only v a l =
      let k = child_at_is (parent P v) (rank R v) (g.below v a l) in
      trichotomy _ v (λ m. g.apart _ v k.above m l k.up k.ranked)
      (λ m. g.apart v _ a m k.inside (sym k.up) (sym k.ranked))
