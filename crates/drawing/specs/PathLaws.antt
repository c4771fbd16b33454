-- Sums along the paths to the root.
--
--   Adds P step X     == X has 0 for the root, and for every other node its parent's entry and the node's step
--   path_adds         == the sums along the paths do that,
--   adds_path            and nothing else does
--   adds_le           == by steps that are no smaller, no entry is smaller
--   adds-under        == an entry is at least each step on the path
--   step_by P R step v == v's step, where it goes by its number
--   reach P R step v  == what v's path sums to then, and all steps with smaller numbers: the most of any path through v
--   reach_all         == it is at most all steps,
--   path_bound           and so is what a path sums to
use Rattle.std.specs.Prelude.{true, List, ◌≡◌}
use Rattle.std.proofs.Math.Bool.{cond}
use Rattle.std.proofs.Math.Path.{refl, sym, ap, subst⁻¹}
use Rattle.std.proofs.Common.{subst, ◌∙◌, ne_eqb}
use Prim.Native.Nat.{ℕ, zero, suc, ◌+◌, ◌-◌, ◌≤◌, ◌<◌}
use native.Mathlib.Omega.{arith}
use Rattle.std.proofs.Math.ListN.{length, get_or}
use Rattle.laws.specs.Search.{tabulate}
use Rattle.laws.specs.SearchLaws.{get_d_tabulate}
use Rattle.laws.specs.Sums.{sum, sum_term}
use Rattle.laws.specs.Tests.{by_eq}
use Rattle.table.specs.Ancestry.{climb-zero, climb-suc, climb_shift, climb-inside, under_steps, under-inside}
use Rattle.table.proofs.NumberingLaws.{numbering, root_last}
use Rattle.table.specs.Table.{parent, climb, under, post_number}
use Rattle.table.specs.TableLaws.{Tree}
use Rattle.drawing.specs.Drawing.{sum_up, path_sum}

pub record Adds (P : List ℕ) (step : ℕ → ℕ) (X : List ℕ) : Type 0 where
  pub root : get_or X 0 0 ≡ 0
  pub at : (v : ℕ) → 0 < v → v < length P → get_or X v 0 ≡ get_or X (parent P v) 0 + step v

-- the same steps
pub adds_cong : {P : List ℕ} {g h : ℕ → ℕ} {X : List ℕ} → Adds P g X
    → ((z : ℕ) → 0 < z → z < length P → g z ≡ h z) → Adds P h X
adds_cong {P} {X = X} adds same =
    record { root = adds.root; at = λ v a l. adds.at v a l ∙ ap (λ k. get_or X (parent P v) 0 + k) (same v a l) }

abbrev pub step_by : List ℕ → List ℕ → (ℕ → ℕ) → ℕ → ℕ
step_by P R step v = step (post_number P R v - 1)

abbrev pub reach : List ℕ → List ℕ → (ℕ → ℕ) → ℕ → ℕ
reach P R step v = path_sum P (step_by P R step) v + sum step (post_number P R v - 1)

------------------------------------------------------------------------
-- Enough steps

module _ (P : List ℕ) (g : ℕ → ℕ) where
  sum_root : (f : ℕ) → sum_up P g f 0 ≡ 0
  unfolding sum_up
  sum_root zero = refl
  sum_root (suc f) = refl

  sum_node : (f v : ℕ) → 0 < v → sum_up P g (suc f) v ≡ g v + sum_up P g f (parent P v)
  unfolding sum_up
  sum_node f v a = ap (λ b. cond b 0 (g v + sum_up P g f (parent P v))) (ne_eqb v 0 (λ e. omega arith))

  -- one more step adds nothing to a path that has come to the root
  sum_enough : (f v : ℕ) → climb P f v ≡ 0 → sum_up P g (suc f) v ≡ sum_up P g f v
  unfolding sum_up
  sum_enough zero v e =
      subst⁻¹ (λ (z : ℕ). sum_up P g 1 z ≡ 0) (sym (climb-zero P v) ∙ e) refl
  sum_enough (suc f) v e =
      by_eq v 0 (λ z. subst⁻¹ (λ (w : ℕ). sum_up P g (suc (suc f)) w ≡ sum_up P g (suc f) w) z refl)
      (λ ne. let a : 0 < v = omega arith in
      sum_node (suc f) v a
      ∙ ap (λ k. g v + k) (sum_enough f (parent P v) (climb_shift P f v ∙ sym (climb-suc P f v) ∙ e))
      ∙ sym (sum_node f v a))

------------------------------------------------------------------------
-- Path sums

module _ {P R : List ℕ} (tree : Tree P R) where
  pub path_root : (g : ℕ → ℕ) → path_sum P g 0 ≡ 0
  unfolding path_sum
  path_root g = sum_root P g (length P)

  pub path_step : (g : ℕ → ℕ) (v : ℕ) → 0 < v → v < length P → path_sum P g v ≡ path_sum P g (parent P v) + g v
  unfolding path_sum
  path_step g v a l =
      let n : suc (length P - 1) ≡ length P = omega arith in
      let home : climb P (length P - 1) (parent P v) ≡ 0 =
      climb_shift P (length P - 1) v ∙ sym (climb-suc P (length P - 1) v)
      ∙ ap (λ k. climb P k v) n ∙ tree.leads_home v l in
      ap (λ f. sum_up P g f v) (sym n)
      ∙ sum_node P g (length P - 1) v a
      ∙ ap (λ k. g v + k) (sym (sum_enough P g (length P - 1) (parent P v) home) ∙ ap (λ f. sum_up P g f (parent P v)) n)
      ∙ omega arith

  pub path_adds : (g : ℕ → ℕ) → Adds P g (tabulate (length P) (path_sum P g))
  path_adds g = record {
    root = get_d_tabulate (length P) (path_sum P g) 0 tree.some ∙ path_root g;
    at = λ v a l. get_d_tabulate (length P) (path_sum P g) v l ∙ path_step g v a l
        ∙ ap (λ k. k + g v) (sym (get_d_tabulate (length P) (path_sum P g) (parent P v) (tree.inside v l)));
  }

  -- up the path, with so many steps left to the root
  pub adds_path : {g : ℕ → ℕ} {X : List ℕ} → Adds P g X → (v : ℕ) → v < length P → get_or X v 0 ≡ path_sum P g v
  unfolding climb
  adds_path {g} {X} adds v l = go (length P) v l (tree.leads_home v l)
    where
      go : (k z : ℕ) → z < length P → climb P k z ≡ 0 → get_or X z 0 ≡ path_sum P g z
      go zero z h e = subst⁻¹ (λ (w : ℕ). get_or X w 0 ≡ path_sum P g w) e (adds.root ∙ sym (path_root g))
      go (suc k) z h e =
          by_eq z 0 (λ q. subst⁻¹ (λ (w : ℕ). get_or X w 0 ≡ path_sum P g w) q (adds.root ∙ sym (path_root g)))
          (λ ne. let a : 0 < z = omega arith in
          adds.at z a h
          ∙ ap (λ i. i + g z) (go k (parent P z) (tree.inside z h) (climb_shift P k z ∙ e))
          ∙ sym (path_step g z a h))

  pub adds_le : {g h : ℕ → ℕ} {X Y : List ℕ} → Adds P g X → Adds P h Y
      → ((z : ℕ) → 0 < z → z < length P → g z ≤ h z) → (v : ℕ) → v < length P → get_or X v 0 ≤ get_or Y v 0
  unfolding climb
  adds_le {g} {h} {X} {Y} a b less v l = go (length P) v l (tree.leads_home v l)
    where
      root : (z : ℕ) → z ≡ 0 → get_or X z 0 ≤ get_or Y z 0
      root z e = omega (arith, ap (λ (w : ℕ). get_or X w 0) e, a.root)

      go : (k z : ℕ) → z < length P → climb P k z ≡ 0 → get_or X z 0 ≤ get_or Y z 0
      go zero z i e = root z e
      go (suc k) z i e =
          by_eq z 0 (root z)
          (λ ne.
          let above : 0 < z = omega arith in
          omega (
            arith,
            a.at z above i,
            b.at z above i,
            less z above i,
            go k (parent P z) (tree.inside z i) (climb_shift P k z ∙ e),
          ))

  pub path_cong : (g h : ℕ → ℕ) → ((z : ℕ) → 0 < z → z < length P → g z ≡ h z) → (v : ℕ) → v < length P
      → path_sum P g v ≡ path_sum P h v
  path_cong g h same v l = sym (adds_path (path_adds g) v l) ∙ adds_path (adds_cong (path_adds g) same) v l

  ------------------------------------------------------------------------
  -- Bounds

  -- an entry is at least that of each ancestor
  adds-climb : {g : ℕ → ℕ} {X : List ℕ} → Adds P g X → (k z : ℕ) → z < length P
      → get_or X (climb P k z) 0 ≤ get_or X z 0
  unfolding climb
  adds-climb adds zero z l = omega arith
  adds-climb {g} {X} adds (suc k) z l =
      let below = adds-climb adds k z l in
      by_eq (climb P k z) 0
      (λ e. omega (arith, ap (λ w. get_or X (parent P w) 0) e, ap (λ w. get_or X w 0) e, ap (λ w. get_or X w 0) tree.root))
      (λ ne. omega (arith, adds.at (climb P k z) (omega arith) (climb-inside P tree.inside k z l)))

  -- and so at least each step on the path
  pub adds-under : {g : ℕ → ℕ} {X : List ℕ} → Adds P g X → (v z : ℕ) → 0 < v → z < length P → under P v z ≡ true
      → g v ≤ get_or X z 0
  adds-under {g} {X} adds v z a l t =
      let up = under_steps P v z t in
      let low : get_or X v 0 ≤ get_or X z 0 = subst (λ w. get_or X w 0 ≤ get_or X z 0) up.2 (adds-climb adds up.0 z l) in
      omega (arith, adds.at v a (under-inside tree v z l t))

  ------------------------------------------------------------------------
  -- Steps that go by a node's number: a path's are different, each below that of the parent

  module _ (step : ℕ → ℕ) where
    pub reach_root : reach P R step 0 ≡ sum step (length P - 1)
    reach_root = omega (arith, path_root (step_by P R step), ap (λ k. sum step (k - 1)) (root_last tree))

    pub reach_up : (v : ℕ) → 0 < v → v < length P → reach P R step v ≤ reach P R step (parent P v)
    reach_up v a l =
        let later = (numbering tree).parent_later v a l in
        let some = (numbering tree).from_1 v l in
        omega (
          arith,
          path_step (step_by P R step) v a l,
          sum_term step (post_number P R v - 1) (post_number P R (parent P v) - 1) (omega arith),
        )

    pub reach-climb : (k v : ℕ) → v < length P → reach P R step v ≤ reach P R step (climb P k v)
    unfolding climb
    reach-climb zero v l = omega arith
    reach-climb (suc k) v l =
        let below = reach-climb k v l in
        by_eq (climb P k v) 0
        (λ e. omega (
          arith,
          ap (λ z. reach P R step (parent P z)) e,
          ap (reach P R step) e,
          ap (reach P R step) tree.root,
        ))
        (λ ne. omega (arith, reach_up (climb P k v) (omega arith) (climb-inside P tree.inside k v l)))

    pub reach_all : (v : ℕ) → v < length P → reach P R step v ≤ sum step (length P - 1)
    reach_all v l =
        omega (arith, reach-climb (length P) v l, ap (reach P R step) (tree.leads_home v l), reach_root)

    pub path_bound : (v : ℕ) → v < length P → path_sum P (step_by P R step) v ≤ sum step (length P - 1)
    path_bound v l = omega (arith, reach_all v l)
