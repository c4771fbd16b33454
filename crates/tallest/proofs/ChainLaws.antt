-- Fresh steep sheets of chains, and of other trees with as many nodes.
--
-- The steps of a path go by post numbers, which are different numbers below n. In a chain a node's parent has the next
-- number, so the path of the node with number 1 uses all of them; a path that uses all of them has every node on it.
--
--   tallest_height n   == the largest y plus 1 of n nodes in a chain
--   chain_next        == in a chain, each node's parent has the next number,
--   next_chain           and where it is so, it is a chain
--   chain_frame       == the frame of a chain's fresh steep sheet
--   frame-within      == no tree with as many nodes has a wider or a taller one,
--   tall_chain           and one that is as tall is a chain's
--   chain_tree        == chain_of n is a tree,
--   chain_chain          and a chain
use Rattle.std.specs.Prelude.{List, ◌≡◌, get_or}
use Rattle.std.proofs.Math.Path.{refl, sym, ap, ap₂}
use Rattle.std.proofs.Common.{◌∙◌}
use Prim.Native.Nat.{ℕ, zero, suc, ◌+◌, ◌-◌, ◌*◌, ◌/◌, ◌≤◌, ◌<◌}
use native.Mathlib.Omega.{arith}
use Rattle.std.proofs.Math.ListN.{length}
use Rattle.laws.specs.SearchLaws.{count_pos, length-tabulate, get_d_tabulate}
use Rattle.laws.specs.Sums.{sum, sum-zero, sum_more, sum_term, count_few}
use Rattle.laws.specs.Tests.{by_eq, by_lt}
use Rattle.table.specs.Ancestry.{climb_shift, climb-inside}
use Rattle.table.specs.Children.{child_of, child_test, child_at_only}
use Rattle.table.proofs.NumberingLaws.{numbering, last_child, root_last, number_at}
use Rattle.table.specs.Table.{parent, rank, climb, is_child, children, child_at, order, post_number}
use Rattle.table.specs.TableLaws.{Tree, tree_ranked}
use Rattle.slopes.specs.declared.Rule.TheVariants.{Steep}
use Rattle.slopes.specs.declared.Slope.{Slope}
use Rattle.slopes.proofs.SlopeLaws.{steep_across_sum, steep_up_sum}
use Rattle.slopes.specs.Slopes.{across_of, up_of, slope_at}
use Rattle.drawing.specs.Framed.{Frame}
use Rattle.drawing.specs.Drawing.{path_sum, fresh_places, fresh, largest, frame}
use Rattle.drawing.specs.DrawingLaws.{largest_above, largest_in}
use Rattle.drawing.specs.FreshLaws.{step_at, fresh_long, fresh_at, fresh-sum}
use Rattle.drawing.specs.PathLaws.{step_by, reach, path_step, reach_root, reach-climb, reach_all}
use Rattle.tallest.specs.Tallest.{chain_of, Chain}

abbrev pub tallest_height : ℕ → ℕ
tallest_height n = n * (n - 1) / 2 + 1

------------------------------------------------------------------------
-- Numbers in a chain

module _ {P R : List ℕ} (tree : Tree P R) where
  abbrev number : ℕ → ℕ
  number = post_number P R

  pub chain_next : Chain P → (v : ℕ) → 0 < v → v < length P → number v + 1 ≡ number (parent P v)
  chain_next chain v a l =
      let low = tree.rank_low v a l in
      let one = chain (parent P v) (tree.inside v l) in
      let first : rank R v ≡ 0 = omega arith in
      let only : child_at P R (parent P v) 0 ≡ v =
      ap (child_at P R (parent P v)) (sym first) ∙ child_at_only P R (tree_ranked tree) v a l in
      ap (λ z. number z + 1) (sym only) ∙ last_child tree (parent P v) 0 (tree.inside v l) (omega arith)

  -- two children of one node would have one number
  pub next_chain : ((v : ℕ) → 0 < v → v < length P → number v + 1 ≡ number (parent P v)) → Chain P
  unfolding children
  next_chain next p l =
      count_few (is_child P p) (length P)
      (λ j k less inside x y.
      let c = child_of P p j x in
      let d = child_of P p k y in
      let there : j < length P = omega arith in
      let same : number j ≡ number k = omega (
        arith,
        next j c.above there,
        next k d.above inside,
        ap number c.up,
        ap number d.up,
      ) in
      omega (arith, (numbering tree).once j k there inside same))

  ------------------------------------------------------------------------
  -- What paths add up to, where a node's step goes by its number

  abbrev first_node : ℕ
  first_node = get_or (order P R) 0 0

  first : (first_node < length P) × (number first_node ≡ 0 + 1)
  first = number_at tree 0 tree.some

  module _ (step : ℕ → ℕ) where
    abbrev all : ℕ
    all = sum step (length P - 1)

    -- a parent with the next number leaves no step out,
    reach_next : (v : ℕ) → 0 < v → v < length P → number v + 1 ≡ number (parent P v)
        → reach P R step v ≡ reach P R step (parent P v)
    reach_next v a l next =
        let before : number (parent P v) - 1 ≡ (number v - 1) + 1 = omega (arith, (numbering tree).from_1 v l) in
        omega (
          arith,
          path_step tree (step_by P R step) v a l,
          ap (sum step) before,
          sum_more step (number v - 1),
        )

    -- and any other leaves one out
    next_reach : ((i : ℕ) → 0 < step i) → (v : ℕ) → 0 < v → v < length P
        → reach P R step v ≡ reach P R step (parent P v) → number v + 1 ≡ number (parent P v)
    next_reach positive v a l same =
        let some = (numbering tree).from_1 v l in
        let later = (numbering tree).parent_later v a l in
        let at : number v ≡ (number v - 1) + 1 = omega arith in
        by_lt (number v + 1) (number (parent P v))
        (λ gap. absurd (omega (
          arith,
          path_step tree (step_by P R step) v a l,
          ap (sum step) at,
          sum_more step (number v - 1),
          sum_term step (number v) (number (parent P v) - 1) (omega arith),
          positive (number v),
        )))
        (λ close. omega arith)

    chain_reach : Chain P → (v : ℕ) → v < length P → reach P R step v ≡ all
    unfolding climb
    chain_reach chain v l = go (length P) v l (tree.leads_home v l)
      where
        go : (k z : ℕ) → z < length P → climb P k z ≡ 0 → reach P R step z ≡ all
        go zero z h e = ap (reach P R step) e ∙ reach_root tree step
        go (suc k) z h e =
            by_eq z 0 (λ q. ap (reach P R step) q ∙ reach_root tree step)
            (λ ne.
            let a : 0 < z = omega arith in
            reach_next z a h (chain_next chain z a h)
            ∙ go k (parent P z) (tree.inside z h) (climb_shift P k z ∙ e))

    -- the path of the node with number 1 has them all
    chain_first : Chain P → path_sum P (step_by P R step) first_node ≡ all
    chain_first chain =
        let none : number first_node - 1 ≡ 0 = omega (arith, first.1) in
        omega (arith, chain_reach chain first_node first.0, ap (sum step) none, sum-zero step)

    ----------------------------------------------------------------------
    -- A path that has them all

    module _ (positive : (i : ℕ) → 0 < step i) (v : ℕ) (inside : v < length P)
        (full : path_sum P (step_by P R step) v ≡ all) where
      full_number : number v ≡ 1
      full_number =
          by_lt 1 (number v)
          (λ more. absurd (omega (
            arith,
            reach_all tree step v inside,
            sum_term step 0 (number v - 1) (omega arith),
            positive 0,
          )))
          (λ few. omega (arith, (numbering tree).from_1 v inside))

      full_climb : (k : ℕ) → reach P R step (climb P k v) ≡ all
      full_climb k =
          omega (
            arith,
            reach-climb tree step k v inside,
            reach_all tree step (climb P k v) (climb-inside P tree.inside k v inside),
          )

      -- from v up to the root the numbers are 1, 2, .., n
      climb_number : (k : ℕ) → k < length P → number (climb P k v) ≡ k + 1
      unfolding climb
      climb_number zero l = full_number
      climb_number (suc k) l =
          let here = climb_number k (omega arith) in
          let not_root : climb P k v ≡ 0 → ⊥ = λ e. omega (arith, ap number e, root_last tree) in
          let next = next_reach positive (climb P k v) (omega arith) (climb-inside P tree.inside k v inside)
          (full_climb k ∙ sym (full_climb (suc k))) in
          omega arith

      -- so every node is on the path
      reach_full : (z : ℕ) → z < length P → reach P R step z ≡ all
      reach_full z l =
          let some = (numbering tree).from_1 z l in
          let high = (numbering tree).to_n z l in
          let on : climb P (number z - 1) v ≡ z =
          (numbering tree).once _ z (climb-inside P tree.inside (number z - 1) v inside) l
          (climb_number (number z - 1) (omega arith) ∙ omega arith) in
          ap (reach P R step) (sym on) ∙ full_climb (number z - 1)

      full_chain : Chain P
      full_chain = next_chain (λ z a l.
          next_reach positive z a l (reach_full z l ∙ sym (reach_full (parent P z) (tree.inside z l))))

  ------------------------------------------------------------------------
  -- Frames

  -- where the largest stands
  top : (part : Slope → ℕ) → (v : ℕ) × (v < length P)
      × (get_or (fresh_places P R Steep part) v 0 ≡ largest (fresh_places P R Steep part))
  top part =
      let long = fresh_long P R Steep part in
      let found = largest_in (fresh_places P R Steep part) (omega (arith, long, tree.some)) in
      (found.0, omega (arith, long, found.1), found.2)

  largest-fresh : (part : Slope → ℕ)
      → largest (fresh_places P R Steep part) ≤ sum (step_at Steep part (length P)) (length P - 1)
  largest-fresh part = omega (arith, fresh-sum tree Steep part (top part).0 (top part).1, (top part).2)

  chain_largest : Chain P → (part : Slope → ℕ)
      → largest (fresh_places P R Steep part) ≡ sum (step_at Steep part (length P)) (length P - 1)
  chain_largest chain part =
      omega (
        arith,
        largest-fresh part,
        largest_above (fresh_places P R Steep part) first_node (omega (arith, fresh_long P R Steep part, first.0)),
        fresh_at tree Steep part first_node first.0,
        chain_first (step_at Steep part (length P)) chain,
      )

  pub chain_frame : Chain P → frame (fresh P R Steep) ≡ Frame (length P) (tallest_height (length P))
  unfolding frame fresh
  chain_frame chain =
      ap₂ Frame (omega (arith, chain_largest chain across_of, steep_across_sum (length P), tree.some))
      (omega (arith, chain_largest chain up_of, steep_up_sum (length P) tree.some))

  module _ {w h : ℕ} (is : frame (fresh P R Steep) ≡ Frame w h) where
    height_is : largest (fresh_places P R Steep up_of) + 1 ≡ h
    unfolding frame fresh
    height_is = cc

    width_is : largest (fresh_places P R Steep across_of) + 1 ≡ w
    unfolding frame fresh
    width_is = cc

    pub frame-within : (w ≤ length P) × (h ≤ tallest_height (length P))
    frame-within = (
      omega (arith, width_is, largest-fresh across_of, steep_across_sum (length P), tree.some),
      omega (arith, height_is, largest-fresh up_of, steep_up_sum (length P) tree.some),
    )

    pub tall_chain : h ≡ tallest_height (length P) → Chain P
    unfolding slope_at
    tall_chain tall =
        let highest = top up_of in
        full_chain (step_at Steep up_of (length P)) (λ i. omega arith) highest.0 highest.1
        (sym (fresh_at tree Steep up_of highest.0 highest.1)
        ∙ omega (arith, highest.2, height_is, steep_up_sum (length P) tree.some))

------------------------------------------------------------------------
-- The chain that the call fills in

module _ (n : ℕ) (some : 0 < n) where
  abbrev parents : List ℕ
  parents = (chain_of n).parents

  abbrev ranks : List ℕ
  ranks = (chain_of n).ranks

  pub chain_long : length parents ≡ n
  unfolding chain_of
  chain_long = length-tabulate n _

  pub chain_parent : (v : ℕ) → v < n → parent parents v ≡ v - 1
  unfolding chain_of
  chain_parent v l = get_d_tabulate n (λ v. v - 1) v l

  pub chain_rank : (v : ℕ) → v < n → rank ranks v ≡ 0
  unfolding chain_of
  chain_rank v l = get_d_tabulate n (λ v. 0) v l

  chain_climb : (k v : ℕ) → v < n → climb parents k v ≡ v - k
  unfolding climb
  chain_climb zero v l = omega arith
  chain_climb (suc k) v l =
      ap (parent parents) (chain_climb k v l) ∙ chain_parent (v - k) (omega arith) ∙ omega arith

  -- of a node of the list
  here : (v : ℕ) → v < length parents → v < n
  here v l = omega (arith, chain_long)

  up : (v : ℕ) → v < length parents → parent parents v ≡ v - 1
  up v l = chain_parent v (here v l)

  pub chain_tree : Tree parents ranks
  unfolding chain_of children
  chain_tree = record {
    some = omega (arith, chain_long);
    long = length-tabulate n _ ∙ sym chain_long;
    root = chain_parent 0 some;
    inside = λ v l. omega (arith, up v l);
    rank_low = λ v a l. omega (
      arith,
      chain_rank v (here v l),
      count_pos (is_child parents (parent parents v)) (length parents) v l
          (child_test parents (parent parents v) v (record { above = a; up = refl })),
    );
    ranks_differ = λ v w a less l same e. omega (arith, up v (omega arith), up w l);
    leads_home = λ v l. chain_climb (length parents) v (here v l) ∙ omega arith;
  }

  -- of two nodes the parents differ
  pub chain_chain : Chain parents
  unfolding children
  chain_chain p l =
      count_few (is_child parents p) (length parents)
      (λ j k less inside x y.
      let c = child_of parents p j x in
      let d = child_of parents p k y in
      omega (arith, up j (omega arith), up k inside, c.above, c.up, d.up))
