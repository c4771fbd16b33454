-- A fresh drawing, filled from the root down: what is written of each list agrees with it at the numbers above j.
use mathlib.Core.List.{List}
use mathlib.Core.Path.{◌≡◌, sym, ap, subst, ◌∙◌}
use Prim.Native.Nat.{ℕ, ◌+◌, ◌-◌, ◌*◌, ◌^◌, ◌≤◌, ◌<◌}
use native.Mathlib.Omega.{arith}
use lib.ListN.{length, get_or, set, length-set}
use lib.Seq.{ext_get_or}
use Rattle.laws.specs.Regions.{read_set}
use Rattle.table.proofs.NumberingLaws.{numbering, root_last}
use Rattle.table.specs.Table.{parent, post_number}
use Rattle.table.specs.TableLaws.{Tree}
use Rattle.slopes.specs.declared.Rule.{Rule}
use Rattle.slopes.specs.declared.Slope.{Slope}
use Rattle.slopes.specs.Slopes.{across_of, up_of, edge}
use Rattle.drawing.specs.Drawing.{Drawing, lent, fresh}
use Rattle.drawing.specs.DrawingLaws.{Coordinate, Drawn, same_drawing}
use Rattle.drawing.specs.FreshLaws.{fresh_once, fresh_drawn}
use Rattle.drawing.specs.Parts.{Blank}
use Rattle.table.specs.Numbering.{Numbers}

------------------------------------------------------------------------
-- One list

pub record Filled (P R F X : List ℕ) (j : ℕ) : Type 0 where
  pub want : length F ≡ length P
  pub long : length X ≡ length P
  pub at : (z : ℕ) → z < length P → j < post_number P R z → get_or X z 0 ≡ get_or F z 0

module _ {P R : List ℕ} (tree : Tree P R) where
  filled_none : {F X : List ℕ} → length F ≡ length P → length X ≡ length P → Filled P R F X (length P)
  filled_none want long =
      record { want = want; long = long; at = λ z l b. absurd (omega (arith, (numbering tree).to_n z l)) }

  filled_set : {F X Y : List ℕ} {j : ℕ} → Filled P R F X j → (v a : ℕ) → v < length P → post_number P R v ≡ j
      → a ≡ get_or F v 0 → Y ≡ set X v a → Filled P R F Y (j - 1)
  filled_set {F} {X} {Y} {j} f v a l e is q = record {
    want = f.want;
    long = ap length q ∙ length-set X v a ∙ f.long;
    at = λ z h b. ap (λ (L : List ℕ). get_or L z 0) q
        ∙ read_set X v z a (get_or F z 0) (omega arith)
        (λ s. is ∙ ap (λ k. get_or F k 0) (sym s))
        (λ ne. f.at z h (above z h b ne));
  }
    where
      above : (z : ℕ) → z < length P → j - 1 < post_number P R z → (z ≡ v → ⊥) → j < post_number P R z
      above z h b ne =
          let differ : post_number P R z ≡ post_number P R v → ⊥ = λ s. ne ((numbering tree).once z v h l s) in
          omega arith

  filled_all : {F X : List ℕ} → Filled P R F X 0 → X ≡ F
  filled_all {F} {X} f =
      ext_get_or 0 X F (f.long ∙ sym f.want)
      (λ i h. f.at i (omega arith) ((numbering tree).from_1 i (omega arith)))

------------------------------------------------------------------------
-- The three lists

pub record Laying (P R : List ℕ) (rule : Rule) (s : Drawing) (j : ℕ) : Type 0 where
  pub tree : Tree P R
  pub goal : Drawn (2 ^ 32 - 1) P R rule (fresh P R rule)
  pub times : Filled P R (fresh P R rule).times s.times j
  pub x : Filled P R (fresh P R rule).x s.x j
  pub y : Filled P R (fresh P R rule).y s.y j

-- the place of the node with number j is its parent's, which is filled, and the part of its slope
hung : {P R : List ℕ} {rule : Rule} → Tree P R → {j v p limit : ℕ} {slope : Slope} (part : Slope → ℕ) {F X : List ℕ}
    → Numbers P R j v → Filled P R F X j → Coordinate limit P R rule (fresh P R rule).times part F
    → p ≡ parent P v → slope ≡ edge P R rule v → get_or X p 0 + part slope ≡ get_or F v 0
hung {P} {R} {rule} tree {v = v} {slope = slope} part {F} {X} n f c ep es =
    let up = c.adds.at v n.above n.inside in
    let later = (numbering tree).parent_later v n.above n.inside in
    let number = n.number in
    let there = f.at (parent P v) (tree.inside v n.inside) (omega arith) in
    let step : get_or (fresh P R rule).times v 0 * part (edge P R rule v) ≡ part slope =
    ap (λ k. k * part (edge P R rule v)) (fresh_once tree rule v n.inside) ∙ omega (arith, ap part es) in
    omega (arith, ap (λ k. get_or X k 0) ep)

pub laying_start : {P R : List ℕ} {rule : Rule} {s : Drawing} {W T X Y : List ℕ} → Blank P R rule s W
    → T ≡ set s.times 0 1 → X ≡ set s.x 0 0 → Y ≡ set s.y 0 0 → Laying P R rule (lent T X Y) (length P - 1)
laying_start {P} {R} {rule} {s} b p q r =
    record {
      tree = tree;
      goal = goal;
      times = root s.times goal.long b.sized.times 1 (sym goal.root_once) p;
      x = root s.x goal.x.long b.sized.x 0 (sym goal.x.adds.root) q;
      y = root s.y goal.y.long b.sized.y 0 (sym goal.y.adds.root) r;
    }
  where
    tree : Tree P R
    tree = b.sized.numbered.tree

    goal : Drawn (2 ^ 32 - 1) P R rule (fresh P R rule)
    goal = fresh_drawn tree rule (omega (arith, b.wide)) (omega (arith, b.tall))

    root : {F Y : List ℕ} (X : List ℕ) → length F ≡ length P → length X ≡ length P → (a : ℕ) → a ≡ get_or F 0 0
        → Y ≡ set X 0 a → Filled P R F Y (length P - 1)
    root X want long a is q =
        filled_set tree {X = X} (filled_none tree want long) 0 a tree.some (root_last tree) is q

module _ {P R : List ℕ} {rule : Rule} {T X Y : List ℕ} {j v p : ℕ} {slope : Slope}
    (l : Laying P R rule (lent T X Y) j)
    (n : Numbers P R j v) (up : p ≡ parent P v) (is : slope ≡ edge P R rule v) where
  pub laying_x : (p < length X) × (v < length X) × (get_or X p 0 + slope.across < 2 ^ 32)
  laying_x = let inside = n.inside in (
    omega (arith, l.x.long, l.tree.inside v inside),
    omega (arith, l.x.long),
    omega (arith, hung l.tree across_of n l.x l.goal.x up is, l.goal.x.within v inside),
  )

  pub laying_y : (p < length Y) × (v < length Y) × (get_or Y p 0 + slope.up < 2 ^ 32)
  laying_y = let inside = n.inside in (
    omega (arith, l.y.long, l.tree.inside v inside),
    omega (arith, l.y.long),
    omega (arith, hung l.tree up_of n l.y l.goal.y up is, l.goal.y.within v inside),
  )

  pub laying_step : {T' X' Y' : List ℕ} → T' ≡ set T v 1 → X' ≡ set X v (get_or X p 0 + slope.across)
      → Y' ≡ set Y v (get_or Y p 0 + slope.up) → Laying P R rule (lent T' X' Y') (j - 1)
  laying_step e q r = let tree = l.tree in record {
    tree = tree;
    goal = l.goal;
    times = filled_set tree l.times v 1 n.inside n.number (sym (fresh_once tree rule v n.inside)) e;
    x = filled_set tree l.x v _ n.inside n.number (hung tree across_of n l.x l.goal.x up is) q;
    y = filled_set tree l.y v _ n.inside n.number (hung tree up_of n l.y l.goal.y up is) r;
  }

pub laying_end : {P R : List ℕ} {rule : Rule} {t : Drawing} {j : ℕ} → Laying P R rule t j → j ≤ 0
    → t ≡ fresh P R rule
laying_end {P} {R} {j = j} l e =
    let z : j ≡ 0 = omega arith in
    same_drawing (all z l.times) (all z l.x) (all z l.y)
  where
    all : j ≡ 0 → {F X : List ℕ} → Filled P R F X j → X ≡ F
    all z {F} {X} f = filled_all l.tree (subst (λ k. Filled P R F X k) z f)
