-- The post-order of an accepted table: each subtree is a block of the whole order, and every node stands in it once.
--
--   subtree P R v     == v's subtree in post-order
--   size P R v        == the number of nodes in v's subtree
--   ahead P R v r     == the number of nodes in the subtrees of v's first r children
--   Block P R v b     == v's subtree is the block of the order that starts after b nodes
--   start P R v       == the number of nodes before v's block
use mathlib.Core.List.{List, [], ◌∷◌, ◌++◌, append_assoc, append-nil}
use Rattle.std.proofs.Common.{⊎_elim, ap₂, subst, ◌∙◌, eq-or-lt_of_le, le_of_suc-le-suc, arith, length-append, eq-eqb}
use Rattle.std.proofs.Common.{ne_eqb}
use Rattle.std.specs.Prelude.{◌≡◌, ltb, length}
use Rattle.std.proofs.Math.Path.{refl, sym, ap, subst⁻¹}
use Prim.Native.Nat.{ℕ, zero, suc, ◌+◌, ◌-◌, ◌≤◌, ◌<◌}
use Rattle.std.proofs.Math.ListN.{get_or}
use Rattle.std.proofs.lemmas.List.{get_or_at}
use Rattle.laws.specs.Sums.{sum, sum_cong, sum_plus, sum_ones, weighted_sum, weighed, weigh-one, split_first}
use Rattle.laws.specs.Sums.{injective_onto}
use Rattle.laws.specs.Tests.{by_eq, by_lt, false_of}
use Rattle.table.specs.Ancestry.{depth, depth_below_n, depth-parent}
use Rattle.table.specs.Children.{child_at_of, child_at_test, ChildAt, child_at_is, child_at_only, one_parent}
use Rattle.table.specs.Children.{one-rank_a_child}
use Rattle.table.specs.Table.{parent, rank, is_child, children, is_child_at, child_at, forest, postorder, order}
use Rattle.table.specs.Table.{place, post_number}
use Rattle.table.specs.TableLaws.{Tree, tree_nodes, tree_ranked}

unfoldable pub subtree : List ℕ → List ℕ → ℕ → List ℕ
subtree P R v = postorder P R (suc (length P)) v

------------------------------------------------------------------------
-- Lists of lists

pub forest_cong : (a b : ℕ → List ℕ) (child : ℕ → ℕ) (m : ℕ) → ((r : ℕ) → r < m → a (child r) ≡ b (child r))
    → forest a child m ≡ forest b child m
unfolding forest
forest_cong a b child zero e = refl
forest_cong a b child (suc m) e =
    ap₂ (λ (x y : List ℕ). x ++ y) (forest_cong a b child m (λ r l. e r (omega arith))) (e m (omega arith))

pub forest-length : (a : ℕ → List ℕ) (child : ℕ → ℕ) (m : ℕ)
    → length (forest a child m) ≡ sum (λ (r : ℕ). length (a (child r))) m
unfolding forest sum
forest-length a child zero = refl
forest-length a child (suc m) =
    length-append (forest a child m) (a (child m)) ∙ ap (λ (x : ℕ). x + length (a (child m))) (forest-length a child m)

pub forest_split : (a : ℕ → List ℕ) (child : ℕ → ℕ) (m r : ℕ) → r < m
    → (y : List ℕ) × (forest a child m ≡ forest a child r ++ (a (child r) ++ y))
unfolding forest
forest_split a child zero r l = absurd (omega arith)
forest_split a child (suc m) r l =
    ⊎_elim
    (λ (e : r ≡ m). (
      [],
      subst⁻¹ (λ (x : ℕ). forest a child m ++ a (child m) ≡ forest a child x ++ (a (child x) ++ [])) e
          (ap (λ (z : List ℕ). forest a child m ++ z) (sym (append-nil (a (child m))))),
    ))
    (λ (b : r < m).
    let s = forest_split a child m r b in
    (s.0 ++ a (child m), ap (λ (z : List ℕ). z ++ a (child m)) s.1 ∙ simp append_assoc))
    (eq-or-lt_of_le (le_of_suc-le-suc l))

regroup : (a b : List ℕ) (v : ℕ) (c : List ℕ) → a ++ ((b ++ (v ∷ [])) ++ c) ≡ (a ++ b) ++ (v ∷ c)
regroup a b v c = simp append_assoc

-- v stands at k: its first place is at most k, and v stands there
pub record FirstPlace (v k : ℕ) (l : List ℕ) : Type 0 where
  pub low : place v l ≤ k
  pub here : get_or l (place v l) 0 ≡ v

pub first_place : (v k : ℕ) (l : List ℕ) → k < length l → get_or l k 0 ≡ v → FirstPlace v k l
unfolding place
first_place v k [] m e = absurd (omega arith)
first_place v zero (x ∷ l) m e = record
    { low = rw (eq-eqb v x (sym e)) (omega arith); here = rw (eq-eqb v x (sym e)) e }
first_place v (suc k) (x ∷ l) m e =
    let f = first_place v k l (le_of_suc-le-suc m) e in
    by_eq v x
    (λ q. record { low = rw (eq-eqb v x q) (omega arith); here = rw (eq-eqb v x q) (sym q) })
    (λ ne. record { low = rw (ne_eqb v x ne) (omega arith); here = rw (ne_eqb v x ne) f.here })

------------------------------------------------------------------------
-- Subtrees

abbrev pub size : List ℕ → List ℕ → ℕ → ℕ
size P R v = length (subtree P R v)

abbrev pub ahead : List ℕ → List ℕ → ℕ → ℕ → ℕ
ahead P R v r = sum (λ (s : ℕ). size P R (child_at P R v s)) r

pub record Block (P R : List ℕ) (v b : ℕ) : Type 0 where
  pub front : List ℕ
  pub back : List ℕ
  pub is : order P R ≡ front ++ (subtree P R v ++ back)
  pub long : length front ≡ b

unfoldable pub start : List ℕ → List ℕ → ℕ → ℕ
start P R v = post_number P R v - size P R v

module _ {P R : List ℕ} (t : Tree P R) where
  pub child_at_lem : (v r : ℕ) → r < children P v → ChildAt P R v r (child_at P R v r)
  child_at_lem v r l = child_at_is P R (tree_ranked t) v r l

  child_deeper : (v r : ℕ) → r < children P v → depth P v < depth P (child_at P R v r)
  child_deeper v r l =
      let k = child_at_lem v r l in
      omega (arith, ap (depth P) k.up, depth-parent t _ k.above k.inside)

  fuel_enough : (f v : ℕ) → v < length P → length P < f + depth P v → postorder P R f v ≡ postorder P R (suc f) v
  unfolding postorder
  fuel_enough zero v l h = absurd (omega (arith, depth_below_n t v l))
  fuel_enough (suc f) v l h =
      ap (λ (z : List ℕ). z ++ (v ∷ []))
      (forest_cong (postorder P R f) (postorder P R (suc f)) (child_at P R v) (children P v)
      (λ r m. fuel_enough f (child_at P R v r) (child_at_lem v r m).inside (omega (arith, child_deeper v r m))))

  pub subtree-step : (v : ℕ) → v < length P
      → subtree P R v ≡ forest (subtree P R) (child_at P R v) (children P v) ++ (v ∷ [])
  unfolding subtree postorder
  subtree-step v l = fuel_enough (suc (length P)) v l (omega arith)

  pub size_step : (v : ℕ) → v < length P → size P R v ≡ ahead P R v (children P v) + 1
  size_step v l =
      ap length (subtree-step v l)
      ∙ length-append (forest (subtree P R) (child_at P R v) (children P v)) (v ∷ [])
      ∙ ap (λ (x : ℕ). x + 1) (forest-length (subtree P R) (child_at P R v) (children P v))

  -- the sum over all children of all nodes is the sum over all nodes but 0
  sum-children : (h : ℕ → ℕ)
      → sum (λ (p : ℕ). sum (λ (r : ℕ). h (child_at P R p r)) (children P p)) (length P)
      ≡ weighted_sum (λ (v : ℕ). ltb 0 v) h (length P)
  sum-children h =
      sum_cong _ (λ (p : ℕ). weighted_sum (is_child P p) h (length P)) (length P) of_one
      ∙ weighed (is_child P) (λ (v : ℕ). ltb 0 v) h (length P) (length P) (one_parent P (tree_nodes t))
    where
      of_rank : (p r : ℕ) → r < children P p → h (child_at P R p r) ≡ weighted_sum (is_child_at P R p r) h (length P)
      of_rank p r m =
          let k = child_at_lem p r m in
          sym (weigh-one (is_child_at P R p r) h (length P) (child_at P R p r) k.inside
          (child_at_test P R p r _ (record { above = k.above; up = k.up }) k.ranked)
          (λ w b ne. false_of (λ e.
          let o = child_at_of P R p r w e in
          ne (sym (child_at_only P R (tree_ranked t) w o.0.above b)
          ∙ ap₂ (λ (x y : ℕ). child_at P R x y) o.0.up o.1))))

      of_one : (p : ℕ) → p < length P
          → sum (λ (r : ℕ). h (child_at P R p r)) (children P p) ≡ weighted_sum (is_child P p) h (length P)
      of_one p l =
          sum_cong _ (λ (r : ℕ). weighted_sum (is_child_at P R p r) h (length P)) (children P p) (of_rank p)
          ∙ weighed (is_child_at P R p) (is_child P p) h (children P p) (length P) (one-rank_a_child P R (tree_ranked t) p)

  -- all nodes are in the root's subtree: sum up `size_step` over all nodes
  pub root_size : size P R 0 ≡ length P
  root_size = omega (arith, total, split_first (size P R) (length P) t.some)
    where
      total : sum (size P R) (length P) ≡ weighted_sum (λ (v : ℕ). ltb 0 v) (size P R) (length P) + length P
      total =
          sum_cong _ (λ (v : ℕ). ahead P R v (children P v) + 1) (length P) size_step
          ∙ sum_plus (λ (v : ℕ). ahead P R v (children P v)) (λ (v : ℕ). 1) (length P)
          ∙ ap₂ (λ (x y : ℕ). x + y) (sum-children (size P R)) (sum_ones (length P))

  pub order-length : length (order P R) ≡ length P
  unfolding order subtree
  order-length = root_size

  ------------------------------------------------------------------------
  -- Blocks

  block_root : Block P R 0 0
  unfolding order subtree
  block_root = record { front = []; back = []; is = sym (append-nil (subtree P R 0)); long = refl }

  block_child : (v r b : ℕ) → v < length P → r < children P v → Block P R v b
      → Block P R (child_at P R v r) (b + ahead P R v r)
  block_child v r b l m s =
      let before = forest (subtree P R) (child_at P R v) r in
      let split = forest_split (subtree P R) (child_at P R v) (children P v) r m in
      record {
        front = s.front ++ before;
        back = split.0 ++ ((v ∷ []) ++ s.back);
        is = s.is
            ∙ ap (λ (z : List ℕ). s.front ++ (z ++ s.back))
            (subtree-step v l ∙ ap (λ (z : List ℕ). z ++ (v ∷ [])) split.1)
            ∙ simp append_assoc;
        long = length-append s.front before
            ∙ ap₂ (λ (x y : ℕ). x + y) s.long (forest-length (subtree P R) (child_at P R v) r);
      }

  block_any : (v : ℕ) → v < length P → (b : ℕ) × Block P R v b
  block_any v l = go (suc (depth P v)) v (omega arith) l
    where
      go : (k v : ℕ) → depth P v < k → v < length P → (b : ℕ) × Block P R v b
      go zero v x l = absurd (omega arith)
      go (suc k) v x l =
          by_lt 0 v
          (λ a.
          let s = go k (parent P v) (omega (arith, depth-parent t v a l)) (t.inside v l) in
          let c = block_child (parent P v) (rank R v) s.0 (t.inside v l) (t.rank_low v a l) s.1 in (
            s.0 + ahead P R (parent P v) (rank R v),
            subst (λ (y : ℕ). Block P R y (s.0 + ahead P R (parent P v) (rank R v)))
                (child_at_only P R (tree_ranked t) v a l) c,
          ))
          (λ a. let z : 0 ≡ v = omega arith in (0, subst (λ (y : ℕ). Block P R y 0) z block_root))

  block_fits : (v b : ℕ) → Block P R v b → b + size P R v ≤ length P
  block_fits v b s =
      omega (
        arith,
        order-length,
        ap length s.is,
        length-append s.front (subtree P R v ++ s.back),
        length-append (subtree P R v) s.back,
        s.long,
      )

  -- a block ends with its node
  block_last : (v b : ℕ) → v < length P → Block P R v b → get_or (order P R) (b + ahead P R v (children P v)) 0 ≡ v
  block_last v b l s =
      let under = forest (subtree P R) (child_at P R v) (children P v) in
      ap (λ (z : List ℕ). get_or z (b + ahead P R v (children P v)) 0)
      (s.is ∙ ap (λ (z : List ℕ). s.front ++ (z ++ s.back)) (subtree-step v l)
      ∙ regroup s.front under v s.back)
      ∙ get_or_at (s.front ++ under) v s.back 0 _
      (length-append s.front under
      ∙ ap₂ (λ (x y : ℕ). x + y) s.long (forest-length (subtree P R) (child_at P R v) (children P v)))

  ------------------------------------------------------------------------
  -- Every node stands in the order once

  stands : (v : ℕ) → v < length P → FirstPlace v (length P - 1) (order P R)
  stands v l =
      let b = block_any v l in
      let f =
      first_place v (b.0 + ahead P R v (children P v)) (order P R)
      (omega (arith, order-length, block_fits v b.0 b.1, size_step v l)) (block_last v b.0 l b.1) in
      record { low = omega (arith, f.low, block_fits v b.0 b.1, size_step v l); here = f.here }

  place_inside : (v : ℕ) → v < length P → place v (order P R) < length P
  place_inside v l = omega (arith, (stands v l).low, t.some)

  places_differ : (v w : ℕ) → v < length P → w < length P → place v (order P R) ≡ place w (order P R) → v ≡ w
  places_differ v w l m e =
      sym (stands v l).here ∙ ap (λ (k : ℕ). get_or (order P R) k 0) e ∙ (stands w m).here

  -- the node at any place stands at that place first
  pub at_place : (j : ℕ) → j < length P
      → (get_or (order P R) j 0 < length P) × (place (get_or (order P R) j 0) (order P R) ≡ j)
  at_place j l =
      let u =
      injective_onto (λ (v : ℕ). place v (order P R)) (length P) place_inside
      (λ v w a b e. absurd (omega (arith, places_differ v w (omega arith) b e))) j l in
      let is : get_or (order P R) j 0 ≡ u.0 = ap (λ (k : ℕ). get_or (order P R) k 0) (sym u.2)
      ∙ (stands u.0 u.1).here in
      (subst⁻¹ (λ (v : ℕ). v < length P) is u.1, ap (λ (v : ℕ). place v (order P R)) is ∙ u.2)

  block_number : (v b : ℕ) → v < length P → Block P R v b → post_number P R v ≡ b + size P R v
  unfolding post_number
  block_number v b l s =
      let p = (at_place (b + ahead P R v (children P v)) (omega (arith, block_fits v b s, size_step v l))).1 in
      let q : place v (order P R) ≡ b + ahead P R v (children P v) =
      ap (λ (x : ℕ). place x (order P R)) (sym (block_last v b l s)) ∙ p in
      omega (arith, size_step v l)

  start_of : (v b : ℕ) → v < length P → Block P R v b → start P R v ≡ b
  unfolding start
  start_of v b l s = omega (arith, block_number v b l s)

  pub block_of : (v : ℕ) → v < length P → Block P R v (start P R v)
  block_of v l = let b = block_any v l in subst⁻¹ (λ (x : ℕ). Block P R v x) (start_of v b.0 l b.1) b.1

  ------------------------------------------------------------------------
  -- Numbers, by the starts of blocks

  pub start_root : start P R 0 ≡ 0
  start_root = start_of 0 0 t.some block_root

  pub start_child : (v r : ℕ) → v < length P → r < children P v
      → start P R (child_at P R v r) ≡ start P R v + ahead P R v r
  start_child v r l m = start_of _ _ (child_at_lem v r m).inside (block_child v r (start P R v) l m (block_of v l))

  pub number_is : (v : ℕ) → v < length P → post_number P R v ≡ start P R v + size P R v
  number_is v l = block_number v (start P R v) l (block_of v l)

  pub number_le : (v : ℕ) → v < length P → start P R v + size P R v ≤ length P
  number_le v l = block_fits v (start P R v) (block_of v l)

  -- a node stands at its number
  pub place_of_number : (v : ℕ) → v < length P → get_or (order P R) (post_number P R v - 1) 0 ≡ v
  unfolding post_number
  place_of_number v l = ap (λ (k : ℕ). get_or (order P R) k 0) (omega arith) ∙ (stands v l).here
