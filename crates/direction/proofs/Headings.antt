-- The cases of the direction's definition, by what the code has found.
use mathlib.Core.Bool.{Bool, true, false}
use mathlib.Core.List.{List}
use mathlib.Core.Path.{◌≡◌, refl, sym, ap, ap₂, subst, subst⁻¹, ◌∙◌}
use Prim.Native.Nat.{ℕ, suc, ◌-◌, ◌≤◌, ◌<◌}
use native.Mathlib.Omega.{arith}
use lib.IntN.{pos, negsuc}
use lib.ListN.{length}
use borrow.Author.Tests.{lt-ltb, le-ltb}
use Rattle.table.specs.TableLaws.{Tree}
use Rattle.table.specs.Table.{rank, climb, under, steps_up}
use Rattle.table.specs.Ancestry.{climb-zero, climb-inside, steps_up-zero, steps_up_some, steps_up_way}
use Rattle.slopes.specs.declared.Slope.{Slope}
use Rattle.slopes.specs.Slopes.{◌⊕◌}
use Rattle.direction.specs.Heading.{Heading}
use Rattle.direction.specs.Heading.{Along}
use Rattle.direction.specs.Direction.{left_of, right_of, sideways, heading}
use Rattle.direction.specs.Parts.{TwoNodes, TwoEdges}

pub pair_back : {P : List ℕ} {u v : ℕ} → TwoNodes P u v → TwoNodes P v u
pair_back pair = record { first = pair.second; second = pair.first }

-- a and b are the ranks of p and q, m and n two slopes
module _ (R : List ℕ) (s : ℕ → Slope) (u v p q : ℕ) {a b : ℕ} (at_p : a ≡ rank R p) (at_q : b ≡ rank R q)
    {m n : Slope} {r : Heading} where
  pub sideways_left : a < b → m ≡ s p → n ≡ s v → r ≡ left_of (m ⊕ n) → r ≡ sideways R s u v p q
  unfolding sideways
  sideways_left l em en er =
      rw (lt-ltb (rank R p) (rank R q) (omega arith)) (er ∙ ap₂ (λ (m n : Slope). left_of (m ⊕ n)) em en)

  pub sideways_right : b ≤ a → m ≡ s q → n ≡ s u → r ≡ right_of (m ⊕ n) → r ≡ sideways R s u v p q
  unfolding sideways
  sideways_right l em en er =
      rw (le-ltb (rank R p) (rank R q) (omega arith)) (er ∙ ap₂ (λ (m n : Slope). right_of (m ⊕ n)) em en)

module _ {P R : List ℕ} (tree : Tree P R) where
  -- the child of the lowest common ancestor, and the node itself, are not the root
  edge_up : {u v p : ℕ} → TwoNodes P u v → under P u v ≡ false → p ≡ climb P (steps_up P u v - 1) u
      → (0 < u) × (0 < p) × (p < length P)
  edge_up {u} {v} {p} pair f at =
      let some = steps_up_some tree u v pair.first pair.second f in
      let way = steps_up_way tree u v in (
        subst (λ (z : ℕ). 0 < z) (climb-zero P u) (way 0 pair.second (omega arith)),
        subst⁻¹ (λ (z : ℕ). 0 < z) at (way (steps_up P u v - 1) pair.second (omega arith)),
        subst⁻¹ (λ (z : ℕ). z < length P) at (climb-inside P tree.inside (steps_up P u v - 1) u
            pair.first),
      )

  -- two tests tell whether v is in u's subtree, and u in v's
  module _ {u v : ℕ} (pair : TwoNodes P u v) {over : Bool} (over_is : over ≡ under P u v) where
    pub heading_down : (s : ℕ → Slope) → over ≡ true
        → Along (pos 1) (pos 1) ≡ heading P R s u v (steps_up P u v) (steps_up P v u)
    unfolding heading
    heading_down s t = rw (steps_up-zero tree u v pair.first pair.second (sym over_is
        ∙ t)) refl

    module _ (not_over : over ≡ false) {below : Bool} (below_is : below ≡ under P v u) where
      up : (i : ℕ) × (steps_up P u v ≡ suc i)
      up = steps_up_some tree u v pair.first pair.second (sym over_is ∙ not_over)

      pub heading_up : (s : ℕ → Slope) → below ≡ true
          → Along (negsuc 0) (negsuc 0) ≡ heading P R s u v (steps_up P u v) (steps_up P v u)
      unfolding heading
      heading_up s t = rw (
        up.1,
        steps_up-zero tree v u pair.second pair.first (sym below_is
            ∙ t),
      ) refl

      module _ (not_below : below ≡ false) {p q : ℕ}
          (at_p : p ≡ climb P (steps_up P u v - 1) u) (at_q : q ≡ climb P (steps_up P v u - 1) v) where
        pub side_edges : TwoEdges P u v × TwoEdges P p q
        side_edges =
            let first = edge_up pair (sym over_is ∙ not_over) at_p in
            let second = edge_up (pair_back pair) (sym below_is ∙ not_below) at_q in (
              record { pair = pair; first = first.0; second = second.0 },
              record { pair = record { first = first.2; second = second.2 }; first = first.1; second = second.1 },
            )

        pub heading_side : (s : ℕ → Slope) {r : Heading} → r ≡ sideways R s u v p q
            → r ≡ heading P R s u v (steps_up P u v) (steps_up P v u)
        unfolding heading
        heading_side s er =
            let down = steps_up_some tree v u pair.second pair.first (sym below_is
            ∙ not_below) in
            let steps_p : steps_up P u v - 1 ≡ up.0 = omega (arith, up.1) in
            let steps_q : steps_up P v u - 1 ≡ down.0 = omega arith in
            rw (up.1, down.1) (er ∙ ap₂ (λ (p q : ℕ). sideways R s u v p q)
            (at_p ∙ ap (λ (k : ℕ). climb P k u) steps_p) (at_q ∙ ap (λ (k : ℕ). climb P k v) steps_q))
