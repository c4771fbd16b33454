-- The way from u up to the child, towards u, of the lowest common ancestor of u and v.
--
--   Ascending P u v z   == z is on that way
use mathlib.Core.Bool.{true, false}
use mathlib.Core.List.{List}
use mathlib.Core.Path.{◌≡◌, sym, ap, subst, subst⁻¹, ◌∙◌}
use Prim.Native.Nat.{ℕ, suc, ◌-◌, ◌<◌}
use native.Mathlib.Omega.{arith}
use lib.ListN.{length}
use Rattle.laws.specs.Tests.{by_eq, differ}
use Rattle.table.specs.TableLaws.{Tree}
use Rattle.table.specs.Table.{parent, climb, under, steps_up}
use Rattle.table.specs.Ancestry.{climb-zero, climb-inside, depth, depth-parent}
use Rattle.table.specs.Ancestry.{steps_up_some, steps_up_way, steps_up_common, steps_up-least}
use Rattle.direction.specs.Parts.{TwoNodes, Apart}

pub record Ascending (P : List ℕ) (u v z : ℕ) : Type 0 where
  pub steps : ℕ
  pub at : climb P steps u ≡ z
  pub below : steps < steps_up P u v

module _ {P R : List ℕ} (tree : Tree P R) {u v : ℕ} (apart : Apart P u v) where
  pub ascending_start : Ascending P u v u
  ascending_start = record {
    steps = 0;
    at = climb-zero P u;
    below =
        let some = steps_up_some tree u v apart.pair.first apart.pair.second
        apart.not_over in
        omega arith;
  }

  module _ {z : ℕ} (a : Ascending P u v z) where
    pub ascending_inside : z < length P
    ascending_inside =
        subst (λ (w : ℕ). w < length P) a.at
        (climb-inside P tree.inside a.steps u apart.pair.first)

    -- p is z's parent
    module _ {p : ℕ} (up : p ≡ parent P z) where
      pub ascending_pair : TwoNodes P p v
      ascending_pair = record {
        first = subst⁻¹ (λ (w : ℕ). w < length P) up (tree.inside z ascending_inside);
        second = apart.pair.second;
      }

      -- each step leads nearer to the root
      pub ascending_less : depth P p < depth P z
      ascending_less =
          let way = steps_up_way tree u v a.steps apart.pair.second a.below in
          let node = subst (λ (w : ℕ). 0 < w) a.at way in
          omega (arith, depth-parent tree z node ascending_inside, ap (depth P) up)

      next : climb P (suc a.steps) u ≡ p
      unfolding climb
      next = ap (parent P) a.at ∙ sym up

      -- while p does not have v in its subtree
      pub ascending_step : under P p v ≡ false → Ascending P u v p
      ascending_step f = record {
        steps = suc a.steps;
        at = next;
        below = by_eq (suc a.steps) (steps_up P u v)
            (λ e. absurd (differ (steps_up_common tree u v apart.pair.first
            apart.pair.second)
            (subst⁻¹ (λ (w : ℕ). under P w v ≡ false) (ap (λ (k : ℕ). climb P k u) (sym e) ∙ next) f)))
            (λ ne. let b = a.below in omega arith);
      }

      pub ascending_end : under P p v ≡ true → z ≡ climb P (steps_up P u v - 1) u
      ascending_end t =
          let low = steps_up-least tree u v (suc a.steps) (subst⁻¹ (λ (w : ℕ). under P w v
          ≡ true) next t) in
          let b = a.below in
          sym a.at ∙ ap (λ (k : ℕ). climb P k u) (omega arith)
