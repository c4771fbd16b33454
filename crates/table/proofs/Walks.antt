-- The numbering: slots filled with the children, and the walk in post-order through them.
use mathlib.Core.List.{List}
use mathlib.Core.Path.{◌≡◌, sym, ap, ap₂, subst⁻¹, ◌∙◌}
use Prim.Native.Nat.{ℕ, ◌+◌, ◌*◌, ◌≤◌, ◌<◌}
use native.Mathlib.Omega.{arith}
use lib.ListN.{length, get_or, set}
use Rattle.laws.specs.Regions.{Only, read_set, only_refl, only_set, only_store}
use Rattle.laws.specs.Sums.{sum, sum_more}
use Rattle.laws.specs.Tests.{by_eq, by_lt}
use Rattle.table.specs.Children.{child_at_only, slot, slot_below, slot_once}
use Rattle.table.specs.Numbering.{Numbered}
use Rattle.table.proofs.NumberingLaws.{numbering, number_at, root_last, number_start, last_child}
use Rattle.table.proofs.NumberingLaws.{next_child, first_child, leaf_number, first_is}
use Rattle.table.proofs.Postorder.{size, start, child_at_lem, number_is, place_of_number, start_root}
use Rattle.table.specs.Table.{parent, rank, children, child_at, order, post_number, first_number}
use Rattle.table.specs.TableLaws.{Tree, tree_nodes, tree_ranked}
use Rattle.table.specs.Parts.{Ready, Seated, Leftmost, Next, Visited}

------------------------------------------------------------------------
-- First slots as a table of the children

module _ {P R W : List ℕ} (w : Ready P R W) where
  pub first_in : (v : ℕ) → v < length P → v + 1 < length W
  first_in v l = omega arith

  -- s is the first slot of v's children, e the first after them
  module _ {v s e : ℕ} (l : v < length P) (es : s ≡ get_or W v 0) (ee : e ≡ get_or W (v + 1) 0) where
    start_is : s ≡ sum (children P) v
    start_is = es ∙ w.started.at v (omega arith)

    pub count_is : e ≡ s + children P v
    count_is = omega (arith, w.started.at (v + 1) (omega arith), start_is, sum_more (children P) v)

    pub child_slot_in : (r : ℕ) → s + r < e → length P + 1 + (s + r) < 2 * length P
    child_slot_in r h =
        omega (arith, start_is, count_is, slot_below P v r (tree_nodes w.tree) l (omega (arith, count_is)))

  pub ready_kept : {X : List ℕ} {a e : ℕ} → Only a e W X → length P < a → Ready P R X
  ready_kept o h = record {
    tree = w.tree;
    few = w.few;
    long = o.long ∙ w.long;
    started = record { at = λ p l. o.below p (omega arith) ∙ w.started.at p l };
  }

module _ {P R W : List ℕ} (w : Seated P R W) where
  -- the child of rank r is in its slot
  pub child_seated : {v s e : ℕ} (r : ℕ) → v < length P → s ≡ get_or W v 0 → e ≡ get_or W (v + 1) 0 → s + r < e
      → get_or W (length P + 1 + (s + r)) 0 ≡ child_at P R v r
  child_seated {v} {s} {e} r l es ee h =
      let k = child_at_lem w.ready.tree v r (omega (arith, count_is w.ready l es ee)) in
      ap (λ (x : ℕ). get_or W (length P + 1 + x) 0)
      (ap₂ (λ (x y : ℕ). x + y) (start_is w.ready l es ee ∙ ap (sum (children P)) (sym k.up)) (sym k.ranked))
      ∙ w.slotted.at (child_at P R v r) k.above k.inside

  pub seated_kept : {X : List ℕ} {a e : ℕ} → Only a e W X → 2 * length P ≤ a → Seated P R X
  seated_kept o h = record {
    ready = ready_kept w.ready o (omega arith);
    slotted = record {
      at = λ v a l.
          o.below _ (omega (
            arith,
            slot_below P (parent P v) (rank R v) (tree_nodes w.ready.tree)
                (w.ready.tree.inside v l) (w.ready.tree.rank_low v a l),
          ))
          ∙ w.slotted.at v a l;
    };
  }

------------------------------------------------------------------------
-- Filling the slots

pub record Filling (P R X : List ℕ) (v : ℕ) : Type 0 where
  pub from : 1 ≤ v
  pub ready : Ready P R X
  pub done : (u : ℕ) → 0 < u → u < v → u < length P → get_or X (length P + 1 + slot P R u) 0 ≡ u

module _ {P R X : List ℕ} {v p r : ℕ} (i : Filling P R X v) (l : v < length P) (ep : p ≡ parent P v)
    (er : r ≡ rank R v) where
  pub parent_in : p < length X
  parent_in = omega (arith, i.ready.tree.inside v l, i.ready.long)

  module _ {k : ℕ} (ek : k ≡ get_or X p 0) where
    slot_is : k + r ≡ slot P R v
    slot_is =
        omega (
          arith,
          i.ready.started.at p (omega (arith, i.ready.tree.inside v l)),
          ap (sum (children P)) ep,
        )

    slot-inside : length P + 1 + (k + r) < 2 * length P
    slot-inside =
        omega (
          arith,
          slot_is,
          slot_below P (parent P v) (rank R v) (tree_nodes i.ready.tree) (i.ready.tree.inside v l)
              (i.ready.tree.rank_low v i.from l),
        )

    pub slot_in : length P + 1 + (k + r) < length X
    slot_in = omega (arith, slot-inside, i.ready.long)

    pub filling_step : {Y : List ℕ} → Y ≡ set X (length P + 1 + (k + r)) v → Filling P R Y (v + 1)
    filling_step {Y} ey = record {
      from = omega arith;
      ready = ready_kept i.ready only (omega arith);
      done = λ u a b m.
          ap (λ (y : List ℕ). get_or y (length P + 1 + slot P R u) 0) ey
          ∙ read_set X (length P + 1 + (k + r)) (length P + 1 + slot P R u) v u slot_in
          (λ e. one u a m (omega arith)) (λ ne. i.done u a (earlier u b ne) m);
    }
      where
        only : Only (length P + 1) (2 * length P) X Y
        only = only_store (length P + 1 + (k + r)) v (omega arith) slot-inside ey

        -- two nodes in one slot are one
        one : (u : ℕ) → 0 < u → u < length P → slot P R u ≡ k + r → v ≡ u
        one u a m e =
            let t = i.ready.tree in
            let q = slot_once (children P) (parent P u) (rank R u) (parent P v) (rank R v) (t.rank_low u a m)
            (t.rank_low v i.from l) (e ∙ slot_is) in
            sym (child_at_only P R (tree_ranked t) v i.from l)
            ∙ ap₂ (λ (x y : ℕ). child_at P R x y) (sym q.0) (sym q.1)
            ∙ child_at_only P R (tree_ranked t) u a m

        earlier : (u : ℕ) → u < v + 1 → (length P + 1 + slot P R u ≡ length P + 1 + (k + r) → ⊥) → u < v
        earlier u b ne =
            by_eq u v (λ e. absurd (ne (ap (λ (x : ℕ). length P + 1 + x) (ap (slot P R) e ∙ sym slot_is))))
            (λ no_eq. omega arith)

------------------------------------------------------------------------
-- Down to a leaf: the subtrees passed all start with the same node

pub record Descending (P R W : List ℕ) (v u s : ℕ) : Type 0 where
  pub inside : u < length P
  pub same : start P R u ≡ start P R v
  pub slots : s ≡ get_or W u 0

module _ {P R W : List ℕ} {v u s e : ℕ} (w : Seated P R W) (i : Descending P R W v u s) (ee : e ≡ get_or W (u + 1) 0)
  where
    pub descending_slot : s < e → length P + 1 + s < length W
    descending_slot h =
        let inside = child_slot_in w.ready i.inside i.slots ee 0 (omega arith) in
        omega arith

    has_child : s < e → 0 < children P u
    has_child h = omega (arith, count_is w.ready i.inside i.slots ee)

    module _ {x : ℕ} (h : s < e) (ex : x ≡ get_or W (length P + 1 + s) 0) where
      first_child_is : x ≡ child_at P R u 0
      first_child_is =
          ex ∙ ap (λ (k : ℕ). get_or W (length P + 1 + k) 0) (omega arith)
          ∙ child_seated w {s = s} {e = e} 0 i.inside i.slots ee (omega arith)

      pub descending_inside : x < length P
      descending_inside =
          subst⁻¹ (λ (k : ℕ). k < length P) first_child_is (child_at_lem w.ready.tree u 0 (has_child h)).inside

      pub descending_step : {y : ℕ} → y ≡ get_or W x 0 → Descending P R W v x y
      descending_step ey = record {
        inside = descending_inside;
        same = ap (start P R) first_child_is ∙ first_child w.ready.tree u i.inside (has_child h) ∙ i.same;
        slots = ey;
      }

      -- the subtree shrinks
      pub descending_less : size P R x < size P R u
      descending_less =
          omega (
            arith,
            number_is w.ready.tree x descending_inside,
            number_is w.ready.tree u i.inside,
            ap (start P R) first_child_is ∙ first_child w.ready.tree u i.inside (has_child h),
            below,
          )
        where
          below : post_number P R x < post_number P R u
          below =
              let k = child_at_lem w.ready.tree u 0 (has_child h) in
              let later = (numbering w.ready.tree).parent_later (child_at P R u 0) k.above k.inside in
              omega (arith, ap (post_number P R) first_child_is, ap (post_number P R) k.up)

    pub descending_end : v < length P → e ≤ s → Leftmost P R v u
    descending_end lv h = record {
      inside = i.inside;
      number = omega (
        arith,
        leaf_number w.ready.tree u i.inside (omega (arith, count_is w.ready i.inside i.slots ee)),
        i.same,
        first_is w.ready.tree v lv,
      );
    }

------------------------------------------------------------------------
-- On to the next node

module _ {P R W : List ℕ} {v p r k e : ℕ} (w : Seated P R W) (a : 0 < v) (l : v < length P)
    (ep : p ≡ parent P v) (er : r ≡ rank R v) (ek : k ≡ get_or W p 0) (ee : e ≡ get_or W (p + 1) 0) where
  pub parent-inside : p < length P
  parent-inside = omega (arith, w.ready.tree.inside v l)

  itself : child_at P R p r ≡ v
  itself = ap₂ (λ (x y : ℕ). child_at P R x y) ep er ∙ child_at_only P R (tree_ranked w.ready.tree) v a l

  counted : e ≡ k + children P p
  counted = count_is w.ready parent-inside ek ee

  rank_fits : r < children P p
  rank_fits = subst⁻¹ (λ (x : ℕ). r < children P x) ep (omega (arith, w.ready.tree.rank_low v a l))

  pub next_parent : e ≤ k + r + 1 → Next P R v p
  next_parent h = record {
    inside = parent-inside;
    number = omega (
      arith,
      last_child w.ready.tree p r parent-inside (omega (arith, counted, rank_fits)),
      ap (post_number P R) itself,
    );
  }

  pub next_slot : k + r + 1 < e → length P + 1 + (k + r + 1) < length W
  next_slot h =
      omega (
        arith,
        child_slot_in w.ready parent-inside ek ee (r + 1) (omega arith),
        w.ready.long,
      )

  module _ {u : ℕ} (h : k + r + 1 < e) (eu : u ≡ get_or W (length P + 1 + (k + r + 1)) 0) where
    sibling : u ≡ child_at P R p (r + 1)
    sibling =
        eu ∙ ap (λ (x : ℕ). get_or W (length P + 1 + x) 0) (omega arith)
        ∙ child_seated w {s = k} {e = e} (r + 1) parent-inside ek ee (omega arith)

    pub sibling_inside : u < length P
    sibling_inside =
        subst⁻¹ (λ (x : ℕ). x < length P) sibling
        (child_at_lem w.ready.tree p (r + 1) (omega (arith, counted))).inside

    pub next_leaf : {z : ℕ} → Leftmost P R u z → Next P R v z
    next_leaf m = record {
      inside = m.inside;
      number = omega (
        arith,
        m.number,
        first_is w.ready.tree u sibling_inside,
        ap (start P R) sibling,
        next_child w.ready.tree p r parent-inside (omega (arith, counted)),
        ap (post_number P R) itself,
      );
    }

------------------------------------------------------------------------
-- Visiting in order

pub visited_start : {P R W : List ℕ} → Seated P R W → Visited P R W 0
visited_start w = record {
  seated = w;
  first = λ u l h. absurd (omega (arith, number_start w.ready.tree u l));
  node = λ j h. absurd (omega arith);
}

module _ {P R W : List ℕ} {v c : ℕ} (i : Visited P R W c) (l : v < length P) (n : post_number P R v ≡ c + 1) where
  pub visited_room : c < length P
  visited_room = omega (arith, (numbering i.seated.ready.tree).to_n v l)

  pub visited_order : 3 * length P + c < length W
  visited_order = omega (arith, visited_room, i.seated.ready.long)

  module _ {X : List ℕ} (ex : X ≡ set W (3 * length P + c) v) where
    in_order : Only (3 * length P) (4 * length P) W X
    in_order = only_store (3 * length P + c) v (omega arith) (omega (arith, visited_room)) ex

    pub noted_seated : Seated P R X
    noted_seated = seated_kept i.seated in_order (omega arith)

    noted_node : (j : ℕ) → j < c + 1 → get_or X (3 * length P + j) 0 ≡ get_or (order P R) j 0
    noted_node j h =
        ap (λ (y : List ℕ). get_or y (3 * length P + j) 0) ex
        ∙ read_set W (3 * length P + c) (3 * length P + j) v _ visited_order
        (λ e. sym (place_of_number i.seated.ready.tree v l)
        ∙ ap (λ (k : ℕ). get_or (order P R) k 0) (omega arith))
        (λ ne. i.node j (earlier ne))
      where
        earlier : (3 * length P + j ≡ 3 * length P + c → ⊥) → j < c
        earlier ne = omega arith

    -- f is v's first number
    module _ {f : ℕ} {Y : List ℕ} (ef : f ≡ first_number P R v) (ey : Y ≡ set X (2 * length P + v) f) where
      pub visited_step : Visited P R Y (c + 1)
      visited_step = record {
        seated = seated_kept noted_seated (only_store (2 * length P + v) f (omega arith) below ey) at_2n;
        first = λ u m h.
            ap (λ (y : List ℕ). get_or y (2 * length P + u) 0) ey
            ∙ read_set X (2 * length P + v) (2 * length P + u) f _ room
            (λ e. ef ∙ ap (first_number P R) (omega arith))
            (λ ne. in_order.below (2 * length P + u) (omega arith) ∙ i.first u m (earlier u m h ne));
        node = λ j h.
            ap (λ (y : List ℕ). get_or y (3 * length P + j) 0) ey
            ∙ read_set X (2 * length P + v) (3 * length P + j) f _ room (λ e. absurd (omega arith))
            (λ ne. noted_node j h);
      }
        where
          below : 2 * length P + v < 3 * length P
          below = omega arith

          at_2n : 2 * length P ≤ 2 * length P
          at_2n = omega arith

          room : 2 * length P + v < length X
          room = omega (arith, noted_seated.ready.long)

          earlier : (u : ℕ) → u < length P → post_number P R u ≤ c + 1 → (2 * length P + u ≡ 2 * length P + v → ⊥)
              → post_number P R u ≤ c
          earlier u m h ne =
              by_eq (post_number P R u) (c + 1)
              (λ e. absurd (ne (ap (λ (x : ℕ). 2 * length P + x)
              ((numbering i.seated.ready.tree).once u v m l (e ∙ sym n)))))
              (λ other. omega arith)

    module _ {s e : ℕ} (es : s ≡ get_or X v 0) (ee : e ≡ get_or X (v + 1) 0) where
      -- a leaf's first number is its own
      pub leaf_first : e ≤ s → c + 1 ≡ first_number P R v
      leaf_first h =
          omega (
            arith,
            leaf_number i.seated.ready.tree v l (omega (arith, count_is noted_seated.ready l es ee)),
            first_is i.seated.ready.tree v l,
            n,
          )

      pub visited_slot : s < e → length P + 1 + s < length X
      visited_slot h =
          let inside = child_slot_in noted_seated.ready l es ee 0 (omega arith) in
          omega (arith, noted_seated.ready.long)

      module _ {u : ℕ} (h : s < e) (eu : u ≡ get_or X (length P + 1 + s) 0) where
        child_is : u ≡ child_at P R v 0
        child_is =
            eu ∙ ap (λ (k : ℕ). get_or X (length P + 1 + k) 0) (omega arith)
            ∙ child_seated noted_seated {s = s} {e = e} 0 l es ee (omega arith)

        some_child : 0 < children P v
        some_child = omega (arith, count_is noted_seated.ready l es ee)

        child_inside : u < length P
        child_inside =
            subst⁻¹ (λ (x : ℕ). x < length P) child_is (child_at_lem i.seated.ready.tree v 0 some_child).inside

        pub visited_child : 2 * length P + u < length X
        visited_child = omega (arith, child_inside, noted_seated.ready.long)

        pub child_first : {f : ℕ} → f ≡ get_or X (2 * length P + u) 0 → f ≡ first_number P R v
        child_first {f} ef =
            ef ∙ in_order.below (2 * length P + u) (omega (arith, child_inside)) ∙ i.first u child_inside before
            ∙ omega (
              arith,
              first_is t u child_inside,
              first_is t v l,
              ap (start P R) child_is,
              first_child t v l some_child,
            )
          where
            t : Tree P R
            t = i.seated.ready.tree

            before : post_number P R u ≤ c
            before =
                let k = child_at_lem t v 0 some_child in
                let later = (numbering t).parent_later (child_at P R v 0) k.above k.inside in
                omega (arith, ap (post_number P R) child_is, ap (post_number P R) k.up, n)

------------------------------------------------------------------------
-- The walk: the node at hand is the one with number c + 1

pub record Walking (P R X : List ℕ) (v c : ℕ) : Type 0 where
  pub visited : Visited P R X c
  pub inside : v < length P
  pub number : post_number P R v ≡ c + 1

pub walking_start : {P R W : List ℕ} {v : ℕ} → Seated P R W → Leftmost P R 0 v → Walking P R W v 0
walking_start w m = record {
  visited = visited_start w;
  inside = m.inside;
  number = omega (
    arith,
    m.number,
    first_is w.ready.tree 0 w.ready.tree.some,
    start_root w.ready.tree,
  );
}

pub walking_above : {P R X : List ℕ} {v c : ℕ} → Walking P R X v c → c + 1 < length P → 0 < v
walking_above {P} {R} i h =
    by_lt 0 _ (λ a. a)
    (λ a. absurd (omega (arith, i.number, ap (post_number P R) (z a), root_last i.visited.seated.ready.tree)))
  where
    z : {v : ℕ} → v ≤ 0 → v ≡ 0
    z a = omega arith

------------------------------------------------------------------------
-- Post numbers from the order

pub record Inverting (P R W X : List ℕ) (j : ℕ) : Type 0 where
  pub done : (v : ℕ) → v < length P → post_number P R v ≤ j → get_or X v 0 ≡ post_number P R v
  pub kept : Only 0 (length P) W X

pub inverting_start : {P R W : List ℕ} → Visited P R W (length P) → Inverting P R W W 0
inverting_start {P} {R} {W} d = record {
  done = λ v l h. absurd (omega (arith, number_start d.seated.ready.tree v l));
  kept = only_refl _ _ W;
}

module _ {P R W X : List ℕ} {j v : ℕ} (d : Visited P R W (length P)) (i : Inverting P R W X j) (l : j < length P)
    (ev : v ≡ get_or X (3 * length P + j) 0) where
  node_is : v ≡ get_or (order P R) j 0
  node_is = ev ∙ i.kept.above (3 * length P + j) (omega arith) ∙ d.node j l

  pub inverting_inside : v < length P
  inverting_inside = subst⁻¹ (λ (x : ℕ). x < length P) node_is (number_at d.seated.ready.tree j l).0

  number_is_next : post_number P R v ≡ j + 1
  number_is_next = ap (post_number P R) node_is ∙ (number_at d.seated.ready.tree j l).1

  pub inverting_in : v < length X
  inverting_in = omega (arith, inverting_inside, i.kept.long, d.seated.ready.long)

  pub inverting_step : {Y : List ℕ} → Y ≡ set X v (j + 1) → Inverting P R W Y (j + 1)
  inverting_step {Y} ey = record {
    done = λ u m h.
        ap (λ (y : List ℕ). get_or y u 0) ey
        ∙ read_set X v u (j + 1) _ inverting_in (λ e. sym (ap (post_number P R) e ∙ number_is_next))
        (λ ne. i.done u m (earlier u m h ne));
    kept = only_set v (j + 1) i.kept (omega arith) inverting_inside ey;
  }
    where
      earlier : (u : ℕ) → u < length P → post_number P R u ≤ j + 1 → (u ≡ v → ⊥) → post_number P R u ≤ j
      earlier u m h ne =
          by_eq (post_number P R u) (j + 1)
          (λ e. absurd (ne ((numbering d.seated.ready.tree).once u v m inverting_inside (e ∙ sym number_is_next))))
          (λ other. omega arith)

pub inverting_end : {P R W X : List ℕ} {j : ℕ} → Visited P R W (length P) → Inverting P R W X j → length P ≤ j
    → Numbered P R X
inverting_end {P} {R} d i h = record {
  long = i.kept.long ∙ d.seated.ready.long;
  last = λ v l. i.done v l (omega (arith, (numbering d.seated.ready.tree).to_n v l));
  first = λ v l. i.kept.above (2 * length P + v) (omega arith)
      ∙ d.first v l ((numbering d.seated.ready.tree).to_n v l);
  node = λ j l. i.kept.above (3 * length P + j) (omega arith) ∙ d.node j l;
}
