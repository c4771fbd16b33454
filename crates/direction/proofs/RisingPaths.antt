-- Along the direction that is given for two nodes every edge of their tree path rises, however long the edges are.
--
-- The numbers are those of a numbering in post-order, and slopes get steeper with the number. Let p and q be the
-- children of the lowest common ancestor towards u and v, p of lower rank. Each edge from u up to p has a number of at
-- most p's, and below v's; each edge from q down to v one of at least v's, and above p's. So the sum of the slopes of p
-- and v lies strictly between the slopes on u's side and those on v's side, and both sides rise at a right angle to it.
--
--   Rising s n         == the slopes s 1, .., s (n - 1) have parts of at least 1, and each is steeper than those before
--   Stands P t part c  == in the coordinate c, each node but the root lies t times its part beyond its parent
--   DrawnAlong P s t x y    == x and y place each node but the root t times, and at least once, its slope from its
--                              parent
use Rattle.std.specs.Prelude.{List, ◌≡◌, ltb, ℤ, length, get_or}
use Rattle.std.proofs.Math.Path.{refl, ap, subst}
use Rattle.std.proofs.Common.{◌∙◌, mul-pos}
use Prim.Native.Nat.{ℕ, zero, suc, ◌+◌, ◌-◌, ◌*◌, ◌≤◌, ◌<◌}
use Rattle.std.proofs.Math.Nat.{mul-lt-mul_of_pos_left}
use native.Mathlib.Omega.{arith}
use Rattle.std.proofs.Math.IntN.{pos, neg_ℤ, neg_ℤ-neg_ℤ}
use borrow.Author.Tests.{ltb-true, ltb-false}
use Rattle.laws.specs.Differences.{diff_pos, diff_neg}
use Rattle.laws.specs.Tests.{by_test, by_eq}
use Rattle.table.specs.Table.{parent, rank, climb, steps_up}
use Rattle.table.specs.TableLaws.{Tree}
use Rattle.table.specs.Numbering.{Numbering}
use Rattle.table.specs.Ancestry.{climb-zero, climb-inside, climb_onward, steps_up_way}
use Rattle.table.specs.Ancestry.{Siblings, steps_up_siblings, siblings_ranks}
use Rattle.table.specs.Paths.{Rises, PathRises}
use Rattle.table.specs.PathLaws.{rises_by, path_back}
use Rattle.slopes.specs.declared.Slope.{Slope}
use Rattle.slopes.specs.Slopes.{◌⊕◌}
use Rattle.slopes.proofs.LevelLaws.{Below}
use Rattle.direction.specs.Heading.{Along}
use Rattle.direction.specs.Direction.{sideways, heading}

pub record Rising (s : ℕ → Slope) (n : ℕ) : Type 0 where
  pub across_from_1 : (j : ℕ) → 1 ≤ j → j < n → 1 ≤ (s j).across
  pub up_from_1 : (j : ℕ) → 1 ≤ j → j < n → 1 ≤ (s j).up
  pub steeper : (i j : ℕ) → 1 ≤ i → i < j → j < n → Below (s i) (s j)

abbrev pub Stands : List ℕ → (ℕ → ℕ) → (ℕ → ℕ) → List ℕ → Type 0
Stands P t part c = (v : ℕ) → 0 < v → v < length P → get_or c v 0 ≡ get_or c (parent P v) 0 + t v * part v

pub record DrawnAlong (P : List ℕ) (s : ℕ → Slope) (t : ℕ → ℕ) (x y : List ℕ) : Type 0 where
  pub times_from_1 : (v : ℕ) → 0 < v → v < length P → 1 ≤ t v
  pub at_x : Stands P t (λ v. (s v).across) x
  pub at_y : Stands P t (λ v. (s v).up) y

------------------------------------------------------------------------
-- One edge

module _ {P : List ℕ} {s : ℕ → Slope} {t : ℕ → ℕ} {x y : List ℕ} (drawn : DrawnAlong P s t x y) (z : ℕ) (node : 0 < z)
    (inside : z < length P) where
  -- walked up, an edge flatter than m rises along m turned left
  flatter_rises : (m : Slope) → Below (s z) m → Rises x y (neg_ℤ (pos m.up)) (pos m.across) z (parent P z)
  flatter_rises m h =
      rises_by x y (neg_ℤ (pos m.up)) (pos m.across) 0 m.up m.across 0 z (parent P z)
      (diff_neg (pos m.up) m.up 0 (diff_pos m.up)) (diff_pos m.across)
      (let longer = mul-lt-mul_of_pos_left h (drawn.times_from_1 z node inside) in
      rw (drawn.at_x z node inside, drawn.at_y z node inside) (omega arith))

  -- walked down, an edge steeper than m does
  steeper_rises : (m : Slope) → Below m (s z) → Rises x y (neg_ℤ (pos m.up)) (pos m.across) (parent P z) z
  steeper_rises m h =
      rises_by x y (neg_ℤ (pos m.up)) (pos m.across) 0 m.up m.across 0 (parent P z) z
      (diff_neg (pos m.up) m.up 0 (diff_pos m.up)) (diff_pos m.across)
      (let longer = mul-lt-mul_of_pos_left h (drawn.times_from_1 z node inside) in
      rw (drawn.at_x z node inside, drawn.at_y z node inside) (omega arith))

  -- walked down, an edge rises along (1, 1)
  down_rises : 1 ≤ (s z).across → 1 ≤ (s z).up → Rises x y (pos 1) (pos 1) (parent P z) z
  down_rises a u =
      rises_by x y (pos 1) (pos 1) 1 0 1 0 (parent P z) z (diff_pos 1) (diff_pos 1)
      (let right = mul-pos (drawn.times_from_1 z node inside) a in
      let up = mul-pos (drawn.times_from_1 z node inside) u in
      rw (drawn.at_x z node inside, drawn.at_y z node inside) (omega arith))

------------------------------------------------------------------------
-- Numbers along a path, and the slopes that go with them

module _ {P R : List ℕ} (tree : Tree P R) {number : ℕ → ℕ} (numbering : Numbering P R number) where
  pub number_climb : (k z : ℕ) → z < length P → number z ≤ number (climb P k z)
  unfolding climb
  number_climb zero z l = omega arith
  number_climb (suc k) z l =
      by_eq (climb P k z) 0
      (λ e. omega (
        arith,
        number_climb k z l,
        ap number e,
        ap (λ (a : ℕ). number (parent P a)) e,
        ap number tree.root,
      ))
      (λ ne. omega (
        arith,
        number_climb k z l,
        numbering.parent_later (climb P k z) (omega arith) (climb-inside P tree.inside k z l),
      ))

  -- only the root has the number n
  pub number_below_n : (z : ℕ) → 0 < z → z < length P → number z < length P
  number_below_n z p l = omega (arith, numbering.parent_later z p l, numbering.to_n (parent P z) (tree.inside z l))

  module _ {s : ℕ → Slope} (rising : Rising s (length P)) where
    flatter_before : (a b : ℕ) → a < length P → 0 < b → b < length P → number a < number b
        → Below (s (number a)) (s (number b))
    flatter_before a b la pb lb h =
        rising.steeper (number a) (number b) (numbering.from_1 a la) h (number_below_n b pb lb)

    no_steeper_before : (a b : ℕ) → a < length P → 0 < b → b < length P → number a ≤ number b
        → (s (number a)).up * (s (number b)).across ≤ (s (number a)).across * (s (number b)).up
    no_steeper_before a b la pb lb h =
        by_eq (number a) (number b) (λ e. rw e (omega arith))
        (λ ne. omega (arith, flatter_before a b la pb lb (omega arith)))

    --------------------------------------------------------------------
    -- Paths

    module _ {t : ℕ → ℕ} {x y : List ℕ} (drawn : DrawnAlong P (λ z. s (number z)) t x y) where
      -- from an ancestor down
      path_down : (u v : ℕ) → u < length P → v < length P → steps_up P u v ≡ 0 → PathRises P x y (pos 1) (pos 1) u v
      unfolding climb
      path_down u v lu lv e = record {
        going_up = λ i l. absurd (omega arith);
        going_down = λ j l.
            let node = steps_up_way tree v u j lu l in
            let inside = climb-inside P tree.inside j v lv in
            let low = numbering.from_1 (climb P j v) inside in
            let high = number_below_n (climb P j v) node inside in
            down_rises drawn (climb P j v) node inside
            (rising.across_from_1 (number (climb P j v)) low high) (rising.up_from_1 (number (climb P j v)) low high);
      }

      -- from the side of lower rank to the other
      module _ (u v i j p q : ℕ) (lu : u < length P) (lv : v < length P)
          (ei : steps_up P u v ≡ suc i) (ej : steps_up P v u ≡ suc j) (to_p : climb P i u ≡ p) (to_q : climb P j v ≡ q)
          (siblings : Siblings P p q) (less : rank R p < rank R q) where
        v_node : 0 < v
        unfolding climb
        v_node = steps_up_way tree v u 0 lu (omega arith)

        abbrev between : Slope
        between = s (number p) ⊕ s (number v)

        -- what is below p comes before what is below q
        before : (a b k l : ℕ) → a < length P → b < length P → climb P k a ≡ p → climb P l b ≡ q → number a < number b
        before a b k l la lb up_a up_b =
            numbering.sibling_later p q a b k l siblings.p_node siblings.p_inside siblings.q_node
            siblings.q_inside siblings.one_parent less la lb up_a up_b

        u_side : (k : ℕ) → k ≤ i → Below (s (number (climb P k u))) between
        u_side k l =
            let inside = climb-inside P tree.inside k u lu in
            let on : climb P (i - k) (climb P k u) ≡ p = climb_onward P i k u l ∙ to_p in
            let at_most_p : number (climb P k u) ≤ number p =
            subst (λ (z : ℕ). number (climb P k u) ≤ number z) on (number_climb (i - k) (climb P k u) inside) in
            omega (
              arith,
              no_steeper_before (climb P k u) p inside siblings.p_node siblings.p_inside at_most_p,
              flatter_before (climb P k u) v inside v_node lv (before (climb P k u) v (i - k) j inside lv on to_q),
            )

        v_side : (k : ℕ) → k ≤ j → Below between (s (number (climb P k v)))
        v_side k l =
            let node = steps_up_way tree v u k lu (omega arith) in
            let inside = climb-inside P tree.inside k v lv in
            let on : climb P (j - k) (climb P k v) ≡ q = climb_onward P j k v l ∙ to_q in
            omega (
              arith,
              flatter_before p (climb P k v) siblings.p_inside node inside
                  (before p (climb P k v) 0 (j - k) siblings.p_inside inside (climb-zero P p) on),
              no_steeper_before v (climb P k v) lv node inside (number_climb k v lv),
            )

        path_left : PathRises P x y (neg_ℤ (pos between.up)) (pos between.across) u v
        unfolding climb
        path_left = record {
          going_up = λ k l. flatter_rises drawn (climb P k u) (steps_up_way tree u v k lv l)
              (climb-inside P tree.inside k u lu) between (u_side k (omega arith));
          going_down = λ k l. steeper_rises drawn (climb P k v) (steps_up_way tree v u k lu l)
              (climb-inside P tree.inside k v lv) between (v_side k (omega arith));
        }

      -- the direction that is given, for any two nodes
      pub rising_paths : (u v : ℕ) → u < length P → v < length P
          → (d e : ℤ) × (heading P R (λ z. s (number z)) u v (steps_up P u v) (steps_up P v u) ≡ Along d e)
          × PathRises P x y d e u v
      unfolding heading sideways
      rising_paths u v lu lv = go (steps_up P u v) (steps_up P v u) refl refl
        where
          go : (i j : ℕ) → steps_up P u v ≡ i → steps_up P v u ≡ j
              → (d e : ℤ) × (heading P R (λ z. s (number z)) u v i j ≡ Along d e) × PathRises P x y d e u v
          go zero j ei ej = (pos 1, pos 1, refl, path_down u v lu lv ei)
          go (suc i) zero ei ej =
              (neg_ℤ (pos 1), neg_ℤ (pos 1), refl, path_back P x y (pos 1) (pos 1) v u (path_down v u lv lu ej))
          go (suc i) (suc j) ei ej =
              let p = climb P i u in
              let q = climb P j v in
              let m = s (number (climb P i u)) ⊕ s (number v) in
              let w = s (number (climb P j v)) ⊕ s (number u) in
              let siblings = steps_up_siblings tree u v i j lu lv ei ej in
              by_test (ltb (rank R (climb P i u)) (rank R (climb P j v)))
              (λ t. (
                neg_ℤ (pos m.up),
                pos m.across,
                rw t refl,
                path_left u v i j p q lu lv ei ej refl refl siblings (ltb-true _ _ t),
              ))
              (λ t.
              let ne : rank R (climb P i u) ≡ rank R (climb P j v) → ⊥ = siblings_ranks tree p q siblings in
              let le : rank R (climb P j v) ≤ rank R (climb P i u) = ltb-false _ _ t in (
                pos w.up,
                neg_ℤ (pos w.across),
                rw t refl,
                subst (λ (d : ℤ). PathRises P x y d (neg_ℤ (pos w.across)) u v) (neg_ℤ-neg_ℤ (pos w.up))
                    (path_back P x y (neg_ℤ (pos w.up)) (pos w.across) v u
                    (path_left v u j i q p lv lu ej ei refl refl (steps_up_siblings tree v u j i lv lu ej ei)
                    (omega arith))),
              ))
