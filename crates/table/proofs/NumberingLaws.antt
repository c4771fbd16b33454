-- Post numbers are a numbering in post-order, and what the work list holds of them.
--
--   edge_number            == a node other than the root has a number below n
--   numbered_node          == where the work list has the node with number j
--   numbering              == post numbers are a numbering
--   climb_between          == a node's number lies between the first and the last of each subtree that it is in,
--   between_climb             and is in each such subtree
--   first_is               == a subtree's first number is that of the first node of its block,
--   first_by-size             so it is one more than the last less the subtree's size
--   in_subtree             == z is in v's subtree exactly when its number lies between v's first and last
use Rattle.std.specs.Prelude.{true, ◌↔◌, ◌≡◌, refl, eqb}
use mathlib.Core.List.{List, [], ◌∷◌, ◌++◌}
use Rattle.std.proofs.Math.Path.{sym, ap, ap₂, subst, subst⁻¹}
use Rattle.std.proofs.Common.{◌∙◌}
use Prim.Native.Nat.{ℕ, zero, suc, ◌+◌, ◌-◌, ◌*◌, ◌≤◌, ◌<◌}
use native.Mathlib.Omega.{arith}
use Rattle.std.proofs.Math.ListN.{length, get_or, length-append, get_or-append}
use Rattle.std.proofs.Math.Seq.{get_or_at, get_or-append-add}
use borrow.Author.Tests.{ltb-true, eqb-true, lt-ltb, eq-eqb}
use Rattle.laws.specs.SearchLaws.{count_pos, count_some, least_is}
use Rattle.laws.specs.Sums.{sum_more, sum_mono}
use Rattle.laws.specs.Tests.{by_lt, false_of, both, both_is}
use Rattle.table.specs.Ancestry.{under_steps, steps_under}
use Rattle.table.specs.Children.{child_at_only}
use Rattle.table.proofs.Postorder.{size, ahead, start, child_at_lem, block_of, root_size, size_step, start_root}
use Rattle.table.proofs.Postorder.{start_child, number_is, number_le, at_place, place_of_number, subtree}
use Rattle.table.specs.Table.{parent, rank, climb, under, children, child_at, forest, postorder, order, post_number}
use Rattle.table.specs.Table.{has_number, first_number}
use Rattle.table.specs.TableLaws.{Tree, tree_ranked}
use Rattle.table.specs.Numbering.{NumberedTree, Numbering, Numbers}

------------------------------------------------------------------------
-- A node's block is in its parent's, and siblings' blocks follow each other

module _ {P R : List ℕ} (t : Tree P R) where
  pub number_start : (v : ℕ) → v < length P → start P R v < post_number P R v
  number_start v l = omega (arith, number_is t v l, size_step t v l)

  -- the block of the child of rank r, with what is before it among the children's
  child_block : (v r : ℕ) → v < length P → r < children P v
      → start P R v + ahead P R v (r + 1) ≡ post_number P R (child_at P R v r)
  child_block v r l m =
      omega (
        arith,
        sum_more (λ (s : ℕ). size P R (child_at P R v s)) r,
        start_child t v r l m,
        number_is t (child_at P R v r) (child_at_lem t v r m).inside,
      )

  pub last_child : (v r : ℕ) → v < length P → r + 1 ≡ children P v
      → post_number P R (child_at P R v r) + 1 ≡ post_number P R v
  last_child v r l e =
      omega (arith, child_block v r l (omega arith), ap (ahead P R v) e, size_step t v l, number_is t v l)

  pub next_child : (v r : ℕ) → v < length P → r + 1 < children P v
      → start P R (child_at P R v (r + 1)) ≡ post_number P R (child_at P R v r)
  next_child v r l m = start_child t v (r + 1) l m ∙ child_block v r l (omega arith)

  pub first_child : (v : ℕ) → v < length P → 0 < children P v → start P R (child_at P R v 0) ≡ start P R v
  unfolding Rattle.laws.specs.Sums.sum
  first_child v l m = omega (arith, start_child t v 0 l m)

  pub leaf_number : (v : ℕ) → v < length P → children P v ≡ 0 → post_number P R v ≡ start P R v + 1
  unfolding Rattle.laws.specs.Sums.sum
  leaf_number v l e = omega (arith, ap (ahead P R v) e, size_step t v l, number_is t v l)

  child_inside : (v r : ℕ) → v < length P → r < children P v
      → (start P R v ≤ start P R (child_at P R v r)) × (post_number P R (child_at P R v r) < post_number P R v)
  child_inside v r l m = (
    omega (arith, start_child t v r l m),
    omega (
      arith,
      child_block v r l m,
      sum_mono (λ (s : ℕ). size P R (child_at P R v s)) (r + 1) (children P v) (omega arith),
      size_step t v l,
      number_is t v l,
    ),
  )

  parent-inside : (v : ℕ) → 0 < v → v < length P
      → (start P R (parent P v) ≤ start P R v) × (post_number P R v < post_number P R (parent P v))
  parent-inside v a l =
      subst (λ (z : ℕ). (start P R (parent P v) ≤ start P R z) × (post_number P R z < post_number P R (parent P v)))
      (child_at_only P R (tree_ranked t) v a l)
      (child_inside (parent P v) (rank R v) (t.inside v l) (t.rank_low v a l))

  ------------------------------------------------------------------------
  -- Subtrees are intervals of numbers

  climb-inside : (k z : ℕ) → z < length P
      → (climb P k z < length P) × (start P R (climb P k z) ≤ start P R z)
      × (post_number P R z ≤ post_number P R (climb P k z))
  unfolding climb
  climb-inside zero z l = (l, omega arith, omega arith)
  climb-inside (suc k) z l =
      let c = climb-inside k z l in
      by_lt 0 (climb P k z)
      (λ a.
      let p = parent-inside (climb P k z) a c.0 in
      (t.inside (climb P k z) c.0, omega arith, omega arith))
      (λ a.
      let root : parent P (climb P k z) ≡ climb P k z = ap (parent P) (omega arith) ∙ t.root ∙ omega arith in
      subst⁻¹ (λ (w : ℕ). (w < length P) × (start P R w ≤ start P R z) × (post_number P R z ≤ post_number P R w)) root c)

  pub climb_between : (k z : ℕ) → z < length P
      → (start P R (climb P k z) < post_number P R z) × (post_number P R z ≤ post_number P R (climb P k z))
  climb_between k z l = let c = climb-inside k z l in (omega (arith, c.1, number_start z l), c.2)

  -- an element of a forest is one of a tree in it
  forest_element : (a : ℕ → List ℕ) (child : ℕ → ℕ) (m j : ℕ) → j < length (forest a child m)
      → (r : ℕ) × (i : ℕ) × (r < m) × (i < length (a (child r)))
      × (get_or (forest a child m) j 0 ≡ get_or (a (child r)) i 0)
  unfolding forest
  forest_element a child zero j l = absurd (omega arith)
  forest_element a child (suc m) j l =
      by_lt j (length (forest a child m))
      (λ b.
      let e = forest_element a child m j b in
      (e.0, e.1, omega arith, e.3, get_or-append (forest a child m) (a (child m)) 0 j b ∙ e.4))
      (λ b.
      let i : ℕ = j - length (forest a child m) in
      let s : j ≡ length (forest a child m) + (j - length (forest a child m)) = omega arith in (
        m,
        j - length (forest a child m),
        omega arith,
        omega (arith, length-append (forest a child m) (a (child m))),
        ap (λ (x : ℕ). get_or (forest a child m ++ a (child m)) x 0) s
            ∙ get_or-append-add (forest a child m) (a (child m)) (j - length (forest a child m)) 0,
      ))

  element_climb : (f v j : ℕ) → j < length (postorder P R f v)
      → (k : ℕ) × (climb P k (get_or (postorder P R f v) j 0) ≡ v)
  unfolding postorder climb
  element_climb zero v j l = absurd (omega arith)
  element_climb (suc f) v j l =
      let trees = forest (postorder P R f) (child_at P R v) (children P v) in
      by_lt j (length (forest (postorder P R f) (child_at P R v) (children P v)))
      (λ b.
      let e = forest_element (postorder P R f) (child_at P R v) (children P v) j b in
      let c = element_climb f (child_at P R v e.0) e.1 e.3 in (
        suc c.0,
        ap (λ (z : ℕ). parent P (climb P c.0 z)) (get_or-append trees (v ∷ []) 0 j b ∙ e.4)
            ∙ ap (parent P) c.1
            ∙ (child_at_lem t v e.0 e.2).up,
      ))
      (λ b. (
        0,
        get_or_at trees v [] 0 j (omega (arith, length-append trees (v ∷ []))),
      ))

  pub between_climb : (v z : ℕ) → v < length P → z < length P → start P R v < post_number P R z
      → post_number P R z ≤ post_number P R v
      → (k : ℕ) × (climb P k z ≡ v)
  unfolding subtree
  between_climb v z lv lz low high =
      let b = block_of t v lv in
      let n = place_of_number t z lz in
      let i : ℕ = post_number P R z - 1 - start P R v in
      let inside : (post_number P R z - 1 - start P R v) < size P R v = omega (arith, number_is t v lv) in
      let at : post_number P R z - 1 ≡ length b.front + (post_number P R z - 1 - start P R v) =
      omega arith in
      let is : get_or (subtree P R v) (post_number P R z - 1 - start P R v) 0 ≡ z =
      sym (get_or-append (subtree P R v) b.back 0 _ inside)
      ∙ sym (get_or-append-add b.front (subtree P R v ++ b.back) _ 0)
      ∙ ap₂ (λ (l : List ℕ) (x : ℕ). get_or l x 0) (sym b.is) (sym at)
      ∙ n in
      let c = element_climb (suc (length P)) v _ inside in
      (c.0, ap (climb P c.0) (sym is) ∙ c.1)

  ------------------------------------------------------------------------
  -- The laws of a numbering

  pub numbers_once : (v w : ℕ) → v < length P → w < length P → post_number P R v ≡ post_number P R w → v ≡ w
  numbers_once v w l m e =
      sym (place_of_number t v l) ∙ ap (λ (k : ℕ). get_or (order P R) (k - 1) 0) e ∙ place_of_number t w m

  pub root_last : post_number P R 0 ≡ length P
  root_last = omega (arith, number_is t 0 t.some, start_root t, root_size t)

  pub numbering : Numbering P R (post_number P R)
  numbering = record {
    from_1 = λ v l. omega (arith, number_start v l);
    to_n = λ v l. omega (arith, number_is t v l, number_le t v l);
    once = numbers_once;
    parent_later = λ v a l. (parent-inside v a l).1;
    sibling_later = siblings;
  }
    where
      siblings : (p q y z j k : ℕ) → 0 < p → p < length P → 0 < q → q < length P
          → parent P p ≡ parent P q → rank R p < rank R q
          → y < length P → z < length P → climb P j y ≡ p → climb P k z ≡ q → post_number P R y < post_number P R z
      siblings p q y z j k ap lp aq lq same less ly lz ey ez =
          let w : ℕ = parent P p in
          let r : ℕ = rank R p in
          let s : ℕ = rank R q in
          let low : rank R q < children P (parent P p) = subst⁻¹ (λ (x : ℕ). rank R q < children P x) same
          (t.rank_low q aq lq) in
          let cp : child_at P R (parent P p) (rank R p) ≡ p = child_at_only P R (tree_ranked t) p ap lp in
          let cq : child_at P R (parent P p) (rank R q) ≡ q =
          subst⁻¹ (λ (x : ℕ). child_at P R x (rank R q) ≡ q) same (child_at_only P R (tree_ranked t) q aq lq) in
          let up : post_number P R y ≤ post_number P R p = subst (λ (x : ℕ). post_number P R y ≤ post_number P R x) ey
          (climb_between j y ly).1 in
          let down : start P R q < post_number P R z = subst (λ (x : ℕ). start P R x < post_number P R z) ez
          (climb_between k z lz).0 in
          let mid : post_number P R p ≤ start P R q =
          subst (λ (x : ℕ). post_number P R x ≤ start P R q) cp
          (subst (λ (x : ℕ). post_number P R (child_at P R (parent P p) (rank R p)) ≤ start P R x) cq
          (omega (
            arith,
            child_block (parent P p) (rank R p) (t.inside p lp) (omega arith),
            start_child t (parent P p) (rank R q) (t.inside p lp) low,
            sum_mono (λ (s : ℕ). size P R (child_at P R (parent P p) s)) (rank R p + 1) (rank R q) (omega arith),
          ))) in
          omega arith

  -- the node at place j of the order is the one with number j + 1
  pub number_at : (j : ℕ) → j < length P
      → (get_or (order P R) j 0 < length P) × (post_number P R (get_or (order P R) j 0) ≡ j + 1)
  unfolding post_number
  number_at j l = let p = at_place t j l in (p.0, omega (arith, p.1))

  number_has : (v z : ℕ) → z < length P → under P v z ≡ true → has_number P R v (post_number P R z) ≡ true
  unfolding has_number
  number_has v z l e =
      lt-ltb 0 _ (count_pos _ (length P) z l (both_is e (eq-eqb (post_number P R z) (post_number P R z) refl)))

  has_number_lem : (v j : ℕ) → has_number P R v j ≡ true
      → (z : ℕ) × (z < length P) × (under P v z ≡ true) × (post_number P R z ≡ j)
  unfolding has_number
  has_number_lem v j e =
      let z = count_some _ (length P) (ltb-true 0 _ e) in
      let b = both (under P v z.0) (eqb (post_number P R z.0) j) z.2 in
      (z.0, z.1, b.0, eqb-true (post_number P R z.0) j b.1)

  pub first_is : (v : ℕ) → v < length P → first_number P R v ≡ start P R v + 1
  unfolding first_number
  first_is v l =
      sym (least_is (has_number P R v) (suc (length P)) (start P R v + 1) (omega (arith, number_le t v l))
      (λ j b. false_of (λ e. before j b (has_number_lem v j e)))
      (λ b. subst (λ (j : ℕ). has_number P R v j ≡ true) first.1 (number_has v _ first.0 first_under)))
    where
      first : (get_or (order P R) (start P R v) 0 < length P)
          × (post_number P R (get_or (order P R) (start P R v) 0) ≡ start P R v + 1)
      first = number_at (start P R v) (omega (arith, number_start v l, numbering.to_n v l))

      first_under : under P v (get_or (order P R) (start P R v) 0) ≡ true
      first_under =
          let k = between_climb v _ l first.0 (omega (arith, first.1))
          (omega (arith, first.1, number_start v l)) in
          steps_under P t.inside v _ k.0 first.0 k.1

      before : (j : ℕ) → j < start P R v + 1
          → (z : ℕ) × (z < length P) × (under P v z ≡ true) × (post_number P R z ≡ j) → ⊥
      before j b (z, lz, e, is) =
          let k = under_steps P v z e in
          omega (arith, (climb_between k.0 z lz).0, ap (start P R) k.2)

  pub first_by-size : (v : ℕ) → v < length P → first_number P R v ≡ suc (post_number P R v) - size P R v
  first_by-size v l = omega (arith, first_is v l, number_is t v l)

  pub in_subtree : (v z : ℕ) → v < length P → z < length P
      → (under P v z ≡ true) ↔ ((first_number P R v ≤ post_number P R z) × (post_number P R z ≤ post_number P R v))
  in_subtree v z lv lz = (
    (λ e.
        let k = under_steps P v z e in
        let b = climb_between k.0 z lz in (
          omega (arith, b.0, ap (start P R) k.2, first_is v lv),
          omega (arith, b.1, ap (post_number P R) k.2),
        )),
    (λ b.
        let k = between_climb v z lv lz (omega (arith, b.0, first_is v lv)) b.1 in
        steps_under P t.inside v z k.0 lz k.1),
  )

-- for the slope of its edge
pub edge_number : {P R W : List ℕ} → NumberedTree P R W → {v : ℕ} → 0 < v → v < length P
    → (1 ≤ get_or W v 0) × (get_or W v 0 < length P)
edge_number {P} t {v} above inside =
    let n = numbering t.tree in
    let is = t.numbers.last v inside in (
      omega (arith, n.from_1 v inside),
      omega (arith, n.parent_later v above inside, n.to_n (parent P v) (t.tree.inside v inside)),
    )

pub numbered_node : {P R W : List ℕ} {j v : ℕ} → NumberedTree P R W → 0 < j → j < length P
    → v ≡ get_or W (3 * length P + j - 1) 0
    → Numbers P R j v
numbered_node {P} {R} {W} {j} {v} t some low at =
    let there = number_at t.tree (j - 1) (omega arith) in
    let is : v ≡ get_or (order P R) (j - 1) 0 =
    at ∙ ap (λ k. get_or W k 0) (omega arith) ∙ t.numbers.node (j - 1) (omega arith) in
    let number : post_number P R v ≡ j = ap (post_number P R) is ∙ omega arith in
    let not_root : v ≡ 0 → ⊥ = λ z. omega (arith, ap (post_number P R) z, root_last t.tree) in
    record { above = omega arith; inside = omega arith; number = number }
