-- The test of refusal 8, node by node: the least node that does not fit.
use mathlib.Core.Bool.{Bool, true, false, not, ◌&&◌}
use mathlib.Core.List.{List}
use mathlib.Core.Path.{◌≡◌, refl, sym, ap, ap₂, subst⁻¹, ◌∙◌}
use Prim.Native.Nat.{ℕ, ◌+◌, ◌-◌, ◌*◌, ◌^◌, ◌≤◌, ◌<◌}
use native.Mathlib.Nat.{mul-le-mul}
use native.Mathlib.Omega.{arith}
use lib.Dec.{leb, eqb}
use lib.ListN.{length, get_or}
use borrow.Author.Tests.{lt-leb, le-leb, eqb-true}
use Rattle.laws.specs.Search.{least}
use Rattle.laws.specs.SearchLaws.{least_is}
use Rattle.laws.specs.Tests.{by_test, by_eq, differ}
use Rattle.table.specs.Numbering.{Numbers}
use Rattle.table.proofs.NumberingLaws.{numbering, root_last}
use Rattle.table.specs.Table.{parent, post_number}
use Rattle.table.specs.TableLaws.{Tree}
use Rattle.slopes.specs.declared.Rule.{Rule}
use Rattle.slopes.specs.declared.Slope.{Slope}
use Rattle.slopes.specs.Slopes.{across_of, up_of, edge}
use Rattle.drawing.specs.Drawing.{Drawing, placed, node_fits}
use Rattle.drawing.specs.DrawingLaws.{both_placed, placed_root, placed_node, fits_root, fits_node}
use Rattle.drawing.specs.SheetLaws.{held_root, held_node}
use Rattle.inspecting.specs.Parts.{AllFit, placed_from, root_fits, misheld}
use Rattle.laws.specs.Tests.{first_fails, first_holds}

------------------------------------------------------------------------
-- Numbers that fit

-- a product of two 32-bit numbers leaves room for a third in 64 bits
pub product_fits : (a b : ℕ) → a < 2 ^ 32 → b < 2 ^ 32 → a * b + 2 ^ 32 ≤ 2 ^ 64
product_fits a b h g =
    let low : a ≤ 4294967295 = omega arith in
    let less : b ≤ 4294967295 = omega arith in
    omega (arith, mul-le-mul low less)

------------------------------------------------------------------------
-- One node

module _ (limit : ℕ) (P R : List ℕ) (rule : Rule) (s : Drawing) {v t p : ℕ} {slope : Slope} (above : 0 < v)
    (times : t ≡ get_or s.times v 0) (up : p ≡ parent P v) (is : slope ≡ edge P R rule v) where
  placed_is : (part : Slope → ℕ) (X : List ℕ) {r : Bool} {d : ℕ} → d ≡ t * part slope → r ≡ placed_from limit X p v d
      → r ≡ placed limit P R rule s.times part X v
  placed_is part X far e =
      e ∙ ap₂ (λ a b. eqb (get_or X v 0) (a + b) && leb (get_or X v 0) limit) (ap (λ k. get_or X k 0) up)
      (far ∙ ap₂ (λ a b. a * part b) times is)
      ∙ sym (placed_node limit P R rule s.times part X v above)

  module _ {r : Bool} {d : ℕ} (some : 1 ≤ t) (across : d ≡ t * slope.across) (e : r ≡ placed_from limit
      s.x p v d) where
    pub fits_not_x : r ≡ false → false ≡ node_fits limit P R rule s v
    fits_not_x fails =
        first_fails _ (sym (placed_is across_of s.x across e) ∙ fails)
        ∙ first_holds _ (le-leb 1 (get_or s.times v 0) (omega arith))
        ∙ sym (fits_node limit P R rule s v above)

    pub fits_x : r ≡ true → {q : Bool} {h : ℕ} → h ≡ t * slope.up → q ≡ placed_from limit s.y p v h
        → q ≡ node_fits limit P R rule s v
    fits_x ok far f =
        placed_is up_of s.y far f ∙ first_holds _ (sym (placed_is across_of s.x across e) ∙ ok)
        ∙ first_holds _ (le-leb 1 (get_or s.times v 0) (omega arith)) ∙ sym (fits_node limit P R rule s v above)

pub fits_never : (limit : ℕ) (P R : List ℕ) (rule : Rule) (s : Drawing) {v t : ℕ} → 0 < v → t ≡ get_or s.times v 0
    → t < 1
    → false ≡ node_fits limit P R rule s v
fits_never limit P R rule s {v} above e none =
    first_fails _ (lt-leb 1 (get_or s.times v 0) (omega arith)) ∙ sym (fits_node limit P R rule s v above)

-- the root: no place is more than the limit at 0
module _ (limit : ℕ) (P R : List ℕ) (rule : Rule) (s : Drawing) where
  zero-within : (a : ℕ) → eqb a 0 && leb a limit ≡ eqb a 0
  zero-within a =
      by_test (eqb a 0)
      (λ e. ap (λ b. b && leb a limit) e ∙ le-leb a limit (omega (arith, eqb-true a 0 e)) ∙ sym e)
      (λ e. ap (λ b. b && leb a limit) e ∙ sym e)

  pub root_test : node_fits limit P R rule s 0 ≡ root_fits s
  unfolding both_placed
  root_test =
      fits_root limit P R rule s
      ∙ ap₂ (λ a b. eqb (get_or s.times 0 0) 1 && (a && b))
      (placed_root limit P R rule s.times across_of s.x ∙ zero-within (get_or s.x 0 0))
      (placed_root limit P R rule s.times up_of s.y ∙ zero-within (get_or s.y 0 0))

------------------------------------------------------------------------
-- The least node that does not fit, of a drawing whose root fits

module _ (limit : ℕ) (P R : List ℕ) (rule : Rule) (s : Drawing) where
  abbrev misfit : ℕ → Bool
  misfit z = not (node_fits limit P R rule s z)

  pub misfit_root : {r : Bool} → 0 < length P → r ≡ root_fits s → r ≡ false → 0 ≡ least misfit (length P)
  misfit_root some e f =
      least_is misfit (length P) 0 (omega arith) (λ k l. absurd (omega arith))
      (λ l. ap not (root_test limit P R rule s ∙ sym e ∙ f))

-- node by node: every node below v fits
pub record FitBelow (limit : ℕ) (P R : List ℕ) (rule : Rule) (s : Drawing) (v : ℕ) : Type 0 where
  pub some : 1 ≤ v
  pub inside : v ≤ length P
  pub before : (z : ℕ) → z < v → node_fits limit P R rule s z ≡ true

pub below_start : {limit : ℕ} {P R : List ℕ} {rule : Rule} {s : Drawing} → 0 < length P → root_fits s ≡ true
    → FitBelow limit P R rule s 1
below_start {limit} {P} {R} {rule} {s} some root = record {
  some = omega arith;
  inside = some;
  before = λ z l.
      subst⁻¹ (λ k. node_fits limit P R rule s k ≡ true) (omega arith) (root_test limit P R rule s ∙ root);
}

module _ {limit : ℕ} {P R : List ℕ} {rule : Rule} {s : Drawing} {v : ℕ} (x : FitBelow limit P R rule s v) where
  pub below_step : {r : Bool} → v < length P → r ≡ node_fits limit P R rule s v → r ≡ true
      → FitBelow limit P R rule s (v + 1)
  below_step l e t = record {
    some = omega arith;
    inside = omega arith;
    before = λ z h. by_eq z v (λ q. subst⁻¹ (λ k. node_fits limit P R rule s k ≡ true) q (sym e ∙ t))
        (λ ne. x.before z (omega arith));
  }

  pub below_not : {r : Bool} → v < length P → r ≡ node_fits limit P R rule s v → r ≡ false
      → v ≡ least (misfit limit P R rule s) (length P)
  below_not l e f =
      least_is (misfit limit P R rule s) (length P) v (omega arith) (λ k h. ap not (x.before k h))
      (λ h. ap not (sym e ∙ f))

  pub below_end : length P ≤ v → length P ≡ least (misfit limit P R rule s) (length P)
  below_end h =
      least_is (misfit limit P R rule s) (length P) (length P) (omega arith) (λ k l. ap not (x.before k (omega arith)))
      (λ l. absurd (omega arith))

-- by number, the last first: every node with a number above j fits
pub record FitAbove (limit : ℕ) (P R : List ℕ) (rule : Rule) (s : Drawing) (j : ℕ) : Type 0 where
  pub tree : Tree P R
  pub after : (z : ℕ) → z < length P → j < post_number P R z → node_fits limit P R rule s z ≡ true

-- the root has the last number
pub above_start : {limit : ℕ} {P R : List ℕ} {rule : Rule} {s : Drawing} → Tree P R → root_fits s ≡ true
    → FitAbove limit P R rule s (length P - 1)
above_start {limit} {P} {R} {rule} {s} tree root = record {
  tree = tree;
  after = λ z l b.
      let last : post_number P R z ≡ post_number P R 0 = omega (arith, (numbering tree).to_n z l, root_last tree) in
      subst⁻¹ (λ k. node_fits limit P R rule s k ≡ true) ((numbering tree).once z 0 l tree.some last)
      (root_test limit P R rule s ∙ root);
}

-- the node with number j
pub above_not : {limit : ℕ} {P R : List ℕ} {rule : Rule} {s : Drawing} {j v : ℕ} {r : Bool} → Numbers P R j v
    → r ≡ node_fits limit P R rule s v → r ≡ false → AllFit limit P R rule s false
above_not {v = v} n e f = record { yes = λ t. absurd (differ t refl); no = λ t. (v, n.inside, sym e ∙ f) }

module _ {limit : ℕ} {P R : List ℕ} {rule : Rule} {s : Drawing} {j : ℕ} (x : FitAbove limit P R rule s j) where
  pub above_step : {v : ℕ} {r : Bool} → Numbers P R j v → r ≡ node_fits limit P R rule s v → r ≡ true
      → FitAbove limit P R rule s (j - 1)
  above_step {v} n e t = record {
    tree = x.tree;
    after = λ z l b. by_eq z v (λ q. subst⁻¹ (λ k. node_fits limit P R rule s k ≡ true) q (sym e ∙ t))
        (λ ne.
        let differs : post_number P R z ≡ post_number P R v → ⊥ =
        λ q. ne ((numbering x.tree).once z v l n.inside q) in
        let number = n.number in
        x.after z l (omega arith));
  }

  pub above_end : j ≤ 0 → AllFit limit P R rule s true
  above_end h = record {
    yes = λ t z l. x.after z l (omega (arith, (numbering x.tree).from_1 z l));
    no = λ t. absurd (differ refl t);
  }

-- where all fit, none is the least that doesn't
pub none-misfit : {limit : ℕ} {P R : List ℕ} {rule : Rule} {s : Drawing} {r : Bool} → AllFit limit P R rule s r
    → r ≡ true → length P ≡ least (misfit limit P R rule s) (length P)
none-misfit {limit} {P} {R} {rule} {s} x t =
    least_is (misfit limit P R rule s) (length P) (length P) (omega arith) (λ k l. ap not (x.yes t k l))
    (λ l. absurd (omega arith))

------------------------------------------------------------------------
-- Entries of held

module _ (held : List ℕ) where
  module _ {a : ℕ} (is : a ≡ get_or held 0 0) where
    pub root_misheld : (a ≡ 0 → ⊥) → misheld held 0 ≡ true
    root_misheld ne = ap not (held_root held ∙ lt-leb (get_or held 0 0) 0 (omega arith))

    pub root_unheld : a ≡ 0 → misheld held 0 ≡ false
    root_unheld e = ap not (held_root held ∙ le-leb (get_or held 0 0) 0 (omega arith))

  module _ (v : ℕ) (above : 1 ≤ v) {a : ℕ} (is : a ≡ get_or held v 0) where
    pub node_misheld : 1 < a → misheld held v ≡ true
    node_misheld h = ap not (held_node held v above ∙ lt-leb (get_or held v 0) 1 (omega arith))

    pub node_well : a ≤ 1 → misheld held v ≡ false
    node_well h = ap not (held_node held v above ∙ le-leb (get_or held v 0) 1 (omega arith))
