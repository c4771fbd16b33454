-- Turning the edges from u up to the root round: those below z, where the loop stands, are turned, and no other.
use mathlib.Core.Bool.{true, false}
use mathlib.Core.List.{List}
use mathlib.Core.Path.{◌≡◌, refl, sym, ap, subst, subst⁻¹, ◌∙◌}
use Prim.Native.Nat.{ℕ, ◌+◌, ◌-◌, ◌*◌, ◌≤◌, ◌<◌}
use native.Mathlib.Omega.{arith}
use lib.ListN.{length, get_or, set, length-set}
use Rattle.laws.specs.Regions.{Only}
use Rattle.laws.specs.Tests.{by_eq, by_test, differ, false_of}
use Rattle.table.specs.Ancestry.{under_refl, under_parent, under_trans, under_on, under_steps, climb_root}
use Rattle.table.specs.Table.{parent, climb, under}
use Rattle.table.specs.TableLaws.{Tree}
use Rattle.monotone.specs.Cones.{Part, SmallEdges}
use Rattle.monotone.specs.PathEdges.{child_below}
use Rattle.monotone.specs.Parts.{EdgeTurned, TurnedPart, Away}
use Rattle.monotone.proofs.Stores.{store_here, store_else}

------------------------------------------------------------------------
-- One part of the vectors

pub record TurningPart (P : List ℕ) (u z at : ℕ) (W X : List ℕ) : Type 0 where
  pub turned : (y : ℕ) → 0 < y → y < length P → under P y u ≡ true → under P y z ≡ false
      → get_or X (at + y) 0 + get_or W (at + y) 0 ≡ 4294967296
  pub same : (y : ℕ) → y < length P → (0 < y → under P y u ≡ true → under P y z ≡ true)
      → get_or X (at + y) 0 ≡ get_or W (at + y) 0

-- the number of z is turned round, and those of the others stay
record Flipped (P : List ℕ) (z at : ℕ) (X Y : List ℕ) : Type 0 where
  here : get_or Y (at + z) 0 + get_or X (at + z) 0 ≡ 4294967296
  others : (y : ℕ) → y < length P → (y ≡ z → ⊥) → get_or Y (at + y) 0 ≡ get_or X (at + y) 0

module _ {P R : List ℕ} (T : Tree P R) {u z at : ℕ} {W X : List ℕ} (some : 0 < z)
    (inside : z < length P) (above : under P z u ≡ true) where
  part_step : {Y : List ℕ} → TurningPart P u z at W X → Flipped P z at X Y → TurningPart P u (parent P z) at W Y
  part_step {Y} t f = record {
    turned = λ y p l s b. by_eq y z
        (λ e. subst⁻¹ (λ (i : ℕ). get_or Y (at + i) 0 + get_or W (at + i) 0 ≡ 4294967296) e
        (omega (arith, f.here, t.same z inside (λ p s. under_refl T z inside))))
        (λ ne. omega (
          arith,
          f.others y l ne,
          t.turned y p l s
              (false_of (λ c. differ (under_on T y z inside c (λ e. ne (sym e))) b)),
        ));
    same = λ y l h. by_eq y z
        (λ e. absurd (differ (subst (λ (i : ℕ). under P i (parent P z) ≡ true) e
        (h (subst⁻¹ (λ (i : ℕ). 0 < i) e some) (subst⁻¹ (λ (i : ℕ). under P i u ≡ true) e above)))
        (child_below T z some inside)))
        (λ ne. f.others y l ne ∙ t.same y l
        (λ p s. under_trans T y (parent P z) z inside (h p s) (under_parent T z inside)));
  }

------------------------------------------------------------------------
-- Both parts

-- no other node is above the root
pub root_below : {P R : List ℕ} → Tree P R → (y : ℕ) → 0 < y → under P y 0 ≡ false
root_below {P} T y p = false_of (λ s.
    let steps : (k : ℕ) × (k ≤ length P) × (climb P k 0 ≡ y) = under_steps P y 0 s in
    let e : y ≡ 0 = sym steps.2 ∙ climb_root P T.root steps.0 in
    omega arith)

pub record Turning (P : List ℕ) (u z : ℕ) (W X : List ℕ) : Type 0 where
  pub inside : z < length P
  pub above : under P z u ≡ true
  pub across : TurningPart P u z (length P) W X
  pub up : TurningPart P u z (2 * length P) W X

-- one store, then the other
module _ (n z : ℕ) (some : 0 < z) (inside : z < n) {W : List ℕ} (edges : SmallEdges n W) where
  pub edge_across : (n + z < length W) × Part (get_or W (n + z) 0)
  edge_across = (omega arith, edges.across z some inside)

  module _ {X : List ℕ} (first : X ≡ set W (n + z) (4294967296 - get_or W (n + z) 0)) where
    up_kept : get_or X (2 * n + z) 0 ≡ get_or W (2 * n + z) 0
    up_kept = store_else W (n + z) _ first (2 * n + z) (λ e. omega arith)

    x_long : length X ≡ length W
    x_long = ap length first ∙ simp length-set

    pub edge_up : (2 * n + z < length X) × Part (get_or X (2 * n + z) 0)
    edge_up = (omega (arith, edges.long, x_long), subst⁻¹ Part up_kept (edges.up z some inside))

    pub edge_turned : {Y : List ℕ} → Y ≡ set X (2 * n + z) (4294967296 - get_or X (2 * n + z) 0) → EdgeTurned n z W Y
    edge_turned {Y} second = record {
      across = omega (
        arith,
        store_else X (2 * n + z) _ second (n + z) (λ e. omega arith),
        store_here W (n + z) _ edge_across.0 first,
        (edges.across z some inside).most,
      );
      up = omega (arith, up_kept, store_here X (2 * n + z) _ edge_up.0 second, (edges.up z some inside).most);
      others = λ k a b. store_else X (2 * n + z) _ second k b ∙ store_else W (n + z) _ first k a;
      long = (ap length second ∙ simp length-set) ∙ x_long;
    }

module _ {P R : List ℕ} (T : Tree P R) {u : ℕ} (l : u < length P) {W : List ℕ} where
  pub turning_start : Turning P u u W W
  turning_start = record {
    inside = l;
    above = under_refl T u l;
    across = none_yet (length P);
    up = none_yet (2 * length P);
  }
    where
      none_yet : (at : ℕ) → TurningPart P u u at W W
      none_yet at = record { turned = λ y p l s b. absurd (differ s b); same = λ y l h. refl }

  module _ {z : ℕ} {X : List ℕ} (some : 0 < z) (t : Turning P u z W X) where
    pub turning_step : {Y : List ℕ} → EdgeTurned (length P) z X Y → Turning P u (parent P z) W Y
    turning_step e = record {
      inside = T.inside z t.inside;
      above = under_trans T (parent P z) z u l (under_parent T z t.inside) t.above;
      across = part_step T some t.inside t.above t.across (record {
        here = e.across;
        others = λ y m ne. e.others (length P + y) (λ q. ne (omega arith)) (λ q. omega arith);
      });
      up = part_step T some t.inside t.above t.up (record {
        here = e.up;
        others = λ y m ne. e.others (2 * length P + y) (λ q. omega arith) (λ q. ne (omega arith));
      });
    }

-- the edges stay small
pub turning_edges : {P : List ℕ} {u z : ℕ} {W X : List ℕ} → Turning P u z W X
    → length X ≡ length W → SmallEdges (length P) W → SmallEdges (length P) X
turning_edges {P} {u} {z} {W} {X} t long e = record {
  few = e.few;
  long = long ∙ e.long;
  across = λ y s l. part (length P) t.across y s l (e.across y s l);
  up = λ y s l. part (2 * length P) t.up y s l (e.up y s l);
}
  where
    part : (at : ℕ) → TurningPart P u z at W X → (y : ℕ) → 0 < y → y < length P
        → Part (get_or W (at + y) 0) → Part (get_or X (at + y) 0)
    part at p y s l q = by_test (under P y u)
        (λ a. by_test (under P y z)
        (λ b. subst⁻¹ Part (p.same y l (λ _ _. b)) q)
        (λ b. record {
          least = omega (arith, p.turned y s l a b, q.most);
          most = omega (arith, p.turned y s l a b, q.least);
        }))
        (λ a. subst⁻¹ Part (p.same y l (λ _ b. absurd (differ b a))) q)

pub edge_only : {n z : ℕ} {X Y : List ℕ} → z < n → EdgeTurned n z X Y → Only n (3 * n) X Y
edge_only l e = record {
  long = e.long;
  below = λ k h. e.others k (λ q. omega arith) (λ q. omega arith);
  above = λ k h. e.others k (λ q. omega arith) (λ q. omega arith);
}

-- stores in the first region leave the parts
pub turning_kept : {P : List ℕ} {u z : ℕ} {W X Y : List ℕ} → ((k : ℕ) → length P ≤ k → get_or Y k 0 ≡ get_or X k 0)
    → Turning P u z W X → Turning P u z W Y
turning_kept {P} {u} {z} {W} {X} {Y} same t = record {
  inside = t.inside;
  above = t.above;
  across = part (length P) (omega arith) t.across;
  up = part (2 * length P) (omega arith) t.up;
}
  where
    part : (at : ℕ) → length P ≤ at → TurningPart P u z at W X → TurningPart P u z at W Y
    part at h p = record {
      turned = λ y s l a b. omega (arith, same (at + y) (omega arith), p.turned y s l a b);
      same = λ y l f. same (at + y) (omega arith) ∙ p.same y l f;
    }

pub turning_end : {P R : List ℕ} → Tree P R → {u z : ℕ} {W X : List ℕ} → z ≤ 0 → Turning P u z W X → Away P u W X
turning_end {P} T {u} {z} {W} {X} h t = record { across = part_end t.across; up = part_end t.up }
  where
    below : (y : ℕ) → 0 < y → under P y z ≡ false
    below y p = subst⁻¹ (λ (i : ℕ). under P y i ≡ false) (let e : z ≡ 0 = omega arith in e) (root_below T y p)

    part_end : {at : ℕ} → TurningPart P u z at W X → TurnedPart P u at W X
    part_end p = record {
      turned = λ y s m a. p.turned y s m a (below y s);
      same = λ y m f. p.same y m (λ s a. absurd (differ a (f s)));
    }
