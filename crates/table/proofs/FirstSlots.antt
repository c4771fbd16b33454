-- The loops that find the first slots: counting the children of each node, and summing the counts up.
use mathlib.Core.Bool.{Bool, true, false}
use mathlib.Core.List.{List}
use mathlib.Core.Path.{◌≡◌, refl, sym, ap, subst, subst⁻¹, ◌∙◌}
use Prim.Native.Nat.{ℕ, ◌+◌, ◌-◌, ◌*◌, ◌^◌, ◌≤◌, ◌<◌}
use native.Mathlib.Omega.{arith}
use lib.ListN.{length, get_or, set, take, drop}
use Rattle.std.proofs.lemmas.Grind.{common_steps}
use Rattle.laws.specs.Regions.{Only, read_set, only_refl, only_trans, only_within, only_set}
use Rattle.laws.specs.Search.{bit, count}
use Rattle.laws.specs.SearchLaws.{count-zero, count_more, count_le}
use Rattle.laws.specs.Sums.{sum, sum-zero, sum_more, sum_mono}
use Rattle.laws.specs.Tests.{by_lt, false_of}
use Rattle.table.specs.Children.{child_of, child_test, root_no_child, children-total}
use Rattle.table.specs.Table.{parent, is_child, children}
use Rattle.table.specs.Parts.{Scratch, Zeroed, Tallied, Started}

------------------------------------------------------------------------
-- Tallies

-- at the place of p the number of those below v that count for p; v itself counts for q alone
pub tally_more : (f : ℕ → ℕ → Bool) (at : ℕ → ℕ) (m : ℕ) (l d : List ℕ) (v q : ℕ)
    → ((p r : ℕ) → at p ≡ at r → p ≡ r) → at q < length l → q < m → d ≡ set l (at q) (get_or l (at q) 0 + 1)
    → ((p : ℕ) → p < m → get_or l (at p) 0 ≡ count (f p) v) → f q v ≡ true → ((p : ℕ) → (p ≡ q → ⊥) → f p v ≡ false)
    → (p : ℕ) → p < m → get_or d (at p) 0 ≡ count (f p) (v + 1)
tally_more f at m l d v q inj hq hm e all here other p hp =
    ap (λ (z : List ℕ). get_or z (at p) 0) e
    ∙ read_set l (at q) (at p) _ _ hq
    (λ e.
    subst⁻¹ (λ (k : ℕ). get_or l (at q) 0 + 1 ≡ count (f k) (v + 1)) (inj p q e)
    (omega (arith, count_more (f q) v, all q hm, ap bit here)))
    (λ ne. omega (arith, count_more (f p) v, all p hp, ap bit (other p (λ s. ne (ap at s)))))

-- v counts for none
pub tally_none : (f : ℕ → Bool) (v x : ℕ) → x ≡ count f v → f v ≡ false → x ≡ count f (v + 1)
tally_none f v x e h = omega (arith, count_more f v, ap bit h)

pub record Tallying (P W X : List ℕ) (v : ℕ) : Type 0 where
  pub upto : v ≤ length P
  pub none : get_or X 0 0 ≡ 0
  pub done : (p : ℕ) → p < length P → get_or X (p + 1) 0 ≡ count (is_child P p) v
  pub kept : Only 0 (length P + 1) W X

pub tallying_start : {P W : List ℕ} → Scratch P W → Zeroed 0 (2 * length P) W → Tallying P W W 1
tallying_start {P} {W} w z = record {
  upto = w.nodes.some;
  none = z.at 0 (omega arith) (omega arith);
  done = λ p b. zeroed p b ∙ sym (no_child p);
  kept = only_refl 0 (length P + 1) W;
}
  where
    no_child : (p : ℕ) → count (is_child P p) 1 ≡ 0
    no_child p = omega (arith, count_more (is_child P p) 0, count-zero (is_child P p), ap bit (root_no_child P p))

    zeroed : (p : ℕ) → p < length P → get_or W (p + 1) 0 ≡ 0
    zeroed p b =
        by_lt (p + 1) (2 * length P) (λ c. z.at (p + 1) (omega arith) c)
        (λ c. absurd (omega arith))

-- the parents of the nodes from 1 on
abbrev pub later : List ℕ → List ℕ
later P = take (length P - 1) (drop 1 P)

later-count : (P : List ℕ) → length (later P) ≡ length P - 1
later-count P = grind (arith, common_steps)

later_parent : (P : List ℕ) (j : ℕ) → j < length (later P) → get_or (later P) j 0 ≡ parent P (j + 1)
later_parent P j l = grind (arith, common_steps)

-- what the turn at the parent of node j + 1 reads and writes
module _ {P W X : List ℕ} {j : ℕ} (w : Scratch P W) (i : Tallying P W X (j + 1)) (l : j < length (later P)) where
  node_inside : j + 1 < length P
  node_inside = omega (arith, later-count P)

  parent_inside : get_or (later P) j 0 < length P
  parent_inside = omega (arith, later_parent P j l, w.nodes.inside (j + 1) node_inside)

  pub tallying_in : get_or (later P) j 0 + 1 < length X
  tallying_in = omega (arith, parent_inside, i.kept.long, w.room)

  pub tallying_few : get_or X (get_or (later P) j 0 + 1) 0 + 1 < 2 ^ 32
  tallying_few =
      omega (
        arith,
        i.done (get_or (later P) j 0) parent_inside,
        count_le (is_child P (get_or (later P) j 0)) (j + 1),
        node_inside,
        w.few,
      )

  pub tallying_step
      : Tallying P W (set X (get_or (later P) j 0 + 1) (get_or X (get_or (later P) j 0 + 1) 0 + 1)) (j + 1 + 1)
  tallying_step = record {
    upto = omega (arith, node_inside);
    none = read_set X (get_or (later P) j 0 + 1) 0 _ 0 tallying_in (λ s. absurd (omega arith)) (λ s. i.none);
    done = tally_more (is_child P) (λ (x : ℕ). x + 1) (length P) X _ (j + 1) (get_or (later P) j 0)
        (λ a b s. omega arith) tallying_in parent_inside refl i.done
        (child_test P _ (j + 1) (record { above = omega arith; up = sym (later_parent P j l) }))
        (λ r ne. false_of (λ t. ne (sym (child_of P r (j + 1) t).up ∙ sym (later_parent P j l))));
    kept = only_set _ _ i.kept (omega arith) (omega (arith, parent_inside)) refl;
  }

pub tallying_end : {P W X : List ℕ} {j : ℕ} → Tallying P W X (j + 1) → length (later P) ≤ j
    → Tallied P X × Only 0 (length P + 1) W X
unfolding children
tallying_end {P} {W} {X} {j} i h =
    let e : j + 1 ≡ length P = omega (arith, later-count P, i.upto) in (
      record {
        none = i.none;
        at = λ p l. subst (λ (m : ℕ). get_or X (p + 1) 0 ≡ count (is_child P p) m) e (i.done p l);
      },
      i.kept,
    )

------------------------------------------------------------------------
-- First slots: below p they stand, above p the tallies still do

pub record Accumulating (P W X : List ℕ) (p : ℕ) : Type 0 where
  pub done : (q : ℕ) → q ≤ p → get_or X q 0 ≡ sum (children P) q
  pub left : (q : ℕ) → p ≤ q → q < length P → get_or X (q + 1) 0 ≡ children P q
  pub kept : Only 0 (length P + 1) W X

pub accumulating_start : {P W : List ℕ} → Tallied P W → Accumulating P W W 0
accumulating_start {P} {W} t = record {
  done = λ q l.
      let z : q ≡ 0 = omega arith in ap (λ (x : ℕ). get_or W x 0) z ∙ t.none
      ∙ sym (ap (sum (children P)) z ∙ sum-zero (children P));
  left = λ q l m. t.at q m;
  kept = only_refl 0 (length P + 1) W;
}

module _ {P W X : List ℕ} {p : ℕ} (w : Scratch P W) (i : Accumulating P W X p) (l : p < length P) where
  accumulated : get_or X (p + 1) 0 + get_or X p 0 ≡ sum (children P) (p + 1)
  accumulated = omega (arith, i.done p (omega arith), i.left p (omega arith) l, sum_more (children P) p)

  pub accumulating_few : get_or X (p + 1) 0 + get_or X p 0 < length P
  accumulating_few =
      omega (
        arith,
        accumulated,
        children-total P w.nodes,
        sum_mono (children P) (p + 1) (length P) (omega arith),
      )

  pub accumulating_step : Accumulating P W (set X (p + 1) (get_or X (p + 1) 0 + get_or X p 0)) (p + 1)
  accumulating_step = record {
    done = λ q m.
        read_set X (p + 1) q _ _ inside (λ e. accumulated ∙ ap (sum (children P)) (sym e))
        (λ ne. i.done q (less q m ne));
    left = λ q m o.
        read_set X (p + 1) (q + 1) _ _ inside (λ e. absurd (omega arith))
        (λ ne. i.left q (omega arith) o);
    kept = only_set (p + 1) _ i.kept (omega arith) (omega arith) refl;
  }
    where
      inside : p + 1 < length X
      inside = omega arith

      less : (q : ℕ) → q ≤ p + 1 → (q ≡ p + 1 → ⊥) → q ≤ p
      less q m ne = omega arith

pub started_all : {P W A B C : List ℕ} → Scratch P W → Zeroed 0 (2 * length P) A × Only 0 (2 * length P) W A
    → Tallied P B × Only 0 (length P + 1) A B → Started P C × Only 0 (length P + 1) B C
    → Started P C × Zeroed (length P + 1) (2 * length P) C × Only 0 (2 * length P) W C
started_all w z t s =
    let o = only_trans t.1 s.1 in (
      s.0,
      record { at = λ k l m. o.above k l ∙ z.0.at k (omega arith) m },
      only_trans z.1 (only_within o (omega arith) (omega arith)),
    )

pub scratch_kept : {P W X : List ℕ} → Scratch P W → length X ≡ length W → Scratch P X
scratch_kept w e = record { nodes = w.nodes; few = w.few; room = omega arith }
