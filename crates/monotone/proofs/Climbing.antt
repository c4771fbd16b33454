-- The cones of the paths from u up to z: each known cone is that of the path to its node, and those of u and its
-- ancestors up to z are known. The edges below z are turned round, and no other can be a side of z's cone.
use mathlib.Core.Bool.{Bool, true, false, not, ◌&&◌}
use mathlib.Core.List.{List, [], ◌∷◌}
use mathlib.Core.Path.{◌≡◌, refl, sym, ap, subst, subst⁻¹, ◌∙◌}
use Prim.Native.Nat.{ℕ, ◌+◌, ◌*◌, ◌≤◌, ◌<◌}
use native.Mathlib.Omega.{arith}
use lib.IntN.{pos, ◌-ℤ◌}
use lib.ListN.{length, get_or, set}
use borrow.Author.Tests.{not-true}
use Rattle.laws.specs.Regions.{Only, only_refl, only_trans, only_within, only_set, only_store}
use Rattle.laws.specs.Tests.{by_eq, differ, false_of, both, both_is}
use Rattle.table.specs.Ancestry.{under_refl, under_parent, under_trans, under_on}
use Rattle.table.specs.Table.{parent, under}
use Rattle.table.specs.TableLaws.{Tree}
use Rattle.table.specs.Parts.{Zeroed}
use Rattle.monotone.specs.Plane.{Vec}
use Rattle.monotone.specs.Cones.{Part, SmallEdges, part_at, edge_at, Holds, empty, Formed, Grown}
use Rattle.monotone.specs.PathEdges.{OnPath, child_below, path_none, path_up}
use Rattle.monotone.specs.Parts.{EdgeTurned, TurnedPart, Away, Said, Told, Climbed}
use Rattle.monotone.proofs.Growth.{holds_some, formed_one, holds_as}
use Rattle.monotone.proofs.Stores.{store_here, store_else}
use Rattle.monotone.proofs.Turning.{TurningPart, Turning, root_below, turning_start, turning_step}
use Rattle.monotone.proofs.Turning.{turning_edges, turning_kept, turning_end, edge_only}

------------------------------------------------------------------------
-- Stores in the first region leave the edges

pub edges_kept : {n : ℕ} {W X : List ℕ} → Only 0 n W X → SmallEdges n W → SmallEdges n X
edges_kept o e = record {
  few = e.few;
  long = o.long ∙ e.long;
  across = λ z s l. subst⁻¹ Part (o.above _ (omega arith)) (e.across z s l);
  up = λ z s l. subst⁻¹ Part (o.above _ (omega arith)) (e.up z s l);
}

pub vectors_kept : {n : ℕ} {W X : List ℕ} → Only 0 n W X → edge_at n X ≡ edge_at n W
vectors_kept {n} {W} {X} o = λ i z. record {
  across = pos (o.above (n + z) (omega arith) i) -ℤ pos 2147483648;
  up = pos (o.above (2 * n + z) (omega arith) i) -ℤ pos 2147483648;
}

------------------------------------------------------------------------
-- Cones stored

pub said_some : {P : List ℕ} {edge : ℕ → Vec} {u k v : ℕ} → Said P edge u k v → k ≡ 0 → ⊥
said_some s = holds_some s.holds

module _ {P : List ℕ} {edge : ℕ → Vec} {u : ℕ} where
  pub told_kept : {X Y : List ℕ} → ((v : ℕ) → v < length P → get_or Y v 0 ≡ get_or X v 0)
      → Told P edge u X → Told P edge u Y
  told_kept same t = record {
    said = λ v l some. subst⁻¹ (λ (k : ℕ). Said P edge u k v) (same v l) (t.said v l (λ z. some (same v l ∙ z)));
  }

  pub told_store : {X Y : List ℕ} (v k : ℕ) → v < length X → Y ≡ set X v k
      → Said P edge u k v → Told P edge u X → Told P edge u Y
  told_store {X} {Y} v k b q s t = record {
    said = λ w l some. by_eq w v
        (λ e. subst⁻¹ (λ (i : ℕ). Said P edge u (get_or Y i 0) i) e
        (subst⁻¹ (λ (i : ℕ). Said P edge u i v) (store_here X v k b q) s))
        (λ ne. subst⁻¹ (λ (i : ℕ). Said P edge u i w) (store_else X v k q w ne)
        (t.said w l (λ z. some (store_else X v k q w ne ∙ z))));
  }

------------------------------------------------------------------------
-- The loop

-- y is u or an ancestor below z
abbrev pub passed : List ℕ → ℕ → ℕ → ℕ → Bool
passed P u z y = under P y u && not (under P y z)

-- the cone of the path to z, with sides below z
pub record Arrived (P : List ℕ) (u z : ℕ) (away : List ℕ) (k : ℕ) : Type 0 where
  pub way : List Vec
  pub path : OnPath P (edge_at (length P) away) u z way
  pub holds : Holds (length P) (passed P u z) (edge_at (length P) away) k way

pub record Climbing (P : List ℕ) (u z : ℕ) (W X : List ℕ) (k : ℕ) : Type 0 where
  pub turning : Turning P u z W X
  pub here : get_or X z 0 ≡ k
  pub arrived : (A : List ℕ) → Away P u W A → Arrived P u z A k
  pub told : (A : List ℕ) → Away P u W A → Told P (edge_at (length P) A) u X
  pub known : (v : ℕ) → v < length P → under P v u ≡ true → under P v z ≡ false → get_or X v 0 ≡ 0 → ⊥
  pub formed : Formed (length P) k
  pub only : Only 0 (3 * length P) W X

module _ {P R : List ℕ} (T : Tree P R) {u : ℕ} (l : u < length P) where
  pub climbing_start : (W : List ℕ) {X : List ℕ} → u < length W → Zeroed 0 (length P) W → X ≡ set W u 1
      → Climbing P u u X X 1
  climbing_start W {X} long none q = record {
    turning = turning_start T l;
    here = store_here W u 1 long q;
    arrived = λ A a. record { way = []; path = path_none T (edge_at (length P) A) u l; holds = empty refl refl };
    told = λ A a. told_store {X = W} u 1 long q
        (record { way = []; path = path_none T (edge_at (length P) A) u l; holds = empty refl refl })
        (record { said = λ v b some. absurd (some (none.at v (omega arith) b)) });
    known = λ v b s t. absurd (differ s t);
    formed = formed_one refl;
    only = only_refl 0 (3 * length P) X;
  }

-- the edges are small where the loop begins, and wherever it has come
pub first_edges : {n u : ℕ} {W X : List ℕ} → u < n → X ≡ set W u 1 → SmallEdges n W → SmallEdges n X
first_edges {u = u} l q e = edges_kept (only_store u 1 (omega arith) l q) e

pub climbing_edges : {P : List ℕ} {u z k : ℕ} {W X : List ℕ} → Climbing P u z W X k → SmallEdges (length P) W
    → SmallEdges (length P) X
climbing_edges c e = turning_edges c.turning c.only.long e

-- a part that is turned is the same wherever it is
part_same : {P : List ℕ} {u z at : ℕ} {W X A : List ℕ} → TurningPart P u z at W X → TurnedPart P u at W A
    → (y : ℕ) → 0 < y → y < length P → under P y u ≡ true → under P y z ≡ false → part_at X (at + y) ≡ part_at A (at + y)
part_same {at = at} {X = X} {A = A} t a y s l p q =
    ap (λ (k : ℕ). pos k -ℤ pos 2147483648)
    (let e : get_or X (at + y) 0 ≡ get_or A (at + y) 0 = omega (arith, t.turned y s l p q, a.turned y s l p) in e)

module _ {P R : List ℕ} (T : Tree P R) {u : ℕ} (l : u < length P) {W : List ℕ} {z : ℕ} {X : List ℕ} {k : ℕ}
    (some : 0 < z)
    (c : Climbing P u z W X k) {B : List ℕ} (turned : EdgeTurned (length P) z X B) where
  abbrev p : ℕ
  p = parent P z

  inside : z < length P
  inside = c.turning.inside

  pub climbing_turned : Turning P u p W B
  climbing_turned = turning_step T l some c.turning turned

  -- the edges are small, and the parent is a node
  pub turned_edges : SmallEdges (length P) W → SmallEdges (length P) B
  turned_edges e = turning_edges climbing_turned (turned.long ∙ c.only.long) e

  pub turned_parent : SmallEdges (length P) W → p < length B
  turned_parent e = omega (arith, T.inside z inside, (turned_edges e).long)

  -- the words are as they were
  words : (v : ℕ) → v < length P → get_or B v 0 ≡ get_or X v 0
  words v b = turned.others v (λ e. omega arith) (λ e. omega arith)

  side_turned : (A : List ℕ) → Away P u W A → (y : ℕ) → 0 < y → y < length P → passed P u p y ≡ true
      → edge_at (length P) B y ≡ edge_at (length P) A y
  side_turned A a y s b t =
      let test : (under P y u ≡ true) × (not (under P y p) ≡ true) = both (under P y u) (not (under P y p)) t in
      λ i. record {
        across = part_same climbing_turned.across a.across y s b test.0 (not-true _ test.1) i;
        up = part_same climbing_turned.up a.up y s b test.0 (not-true _ test.1) i;
      }

  passed-z : passed P u p z ≡ true
  passed-z = both_is c.turning.above (ap not (child_below T z some inside))

  passed_more : (y : ℕ) → passed P u z y ≡ true → passed P u p y ≡ true
  passed_more y t =
      let test : (under P y u ≡ true) × (not (under P y z) ≡ true) = both (under P y u) (not (under P y z)) t in
      both_is test.0 (ap not (false_of (λ a. differ
      (under_trans T y p z inside a (under_parent T z inside)) (not-true _ test.1))))

  module _ (r : ℕ) (g : Grown (length P) (edge_at (length P) B) k z r) where
    pub climbing_arrived : (A : List ℕ) → Away P u W A → Arrived P u p A r
    climbing_arrived A a =
        let before : Arrived P u z A k = c.arrived A a in
        record {
          way = edge_at (length P) A z ∷ before.way;
          path = path_up T (edge_at (length P) A) u l z before.way inside some c.turning.above before.path;
          holds = subst (λ (e : Vec). Holds (length P) (passed P u p) (edge_at (length P) A) r (e ∷ before.way))
              (side_turned A a z some inside passed-z)
              (holds_as (λ y s b t. (t, side_turned A a y s b t))
              (g.holds (passed P u p) passed-z before.way
              (holds_as (λ y s b t. (passed_more y t, sym (side_turned A a y s b (passed_more y t))))
              before.holds)));
        }

    said_p : (A : List ℕ) → Away P u W A → Said P (edge_at (length P) A) u r p
    said_p A a =
        let there : Arrived P u p A r = climbing_arrived A a in
        record { way = there.way; path = there.path; holds = holds_as (λ y s b t. (refl, refl)) there.holds }

    pub climbing_step : {Y : List ℕ} → p < length B → Y ≡ set B p r → Climbing P u p W Y r
    climbing_step {Y} long q = record {
      turning = turning_kept (λ i h. store_else B p r q i (λ e. omega (arith, T.inside z inside))) climbing_turned;
      here = store_here B p r long q;
      arrived = climbing_arrived;
      told = λ A a. told_store {X = B} p r long q (said_p A a) (told_kept words (c.told A a));
      known = known;
      formed = g.formed;
      only = only_set p r (only_trans c.only (only_within (edge_only inside turned) (omega arith) (omega arith)))
          (omega arith) (omega (arith, T.inside z inside)) q;
    }
      where
        known : (v : ℕ) → v < length P → under P v u ≡ true → under P v p ≡ false → get_or Y v 0 ≡ 0 → ⊥
        known v b s t e = by_eq v p
            (λ h. differ (subst⁻¹ (λ (i : ℕ). under P i p ≡ true) h (under_refl T p (T.inside z inside))) t)
            (λ ne.
            let was : get_or X v 0 ≡ 0 = sym (words v b) ∙ (sym (store_else B p r q v ne) ∙ e) in
            by_eq v z
            (λ h. c.formed.some (sym c.here ∙ subst (λ (i : ℕ). get_or X i 0 ≡ 0) h was))
            (λ nz. c.known v b s (false_of (λ a. differ (under_on T v z inside a (λ h. nz (sym h))) t)) was))

-- at the root
pub climbing_end : {P R : List ℕ} → Tree P R → {u z : ℕ} {old W X : List ℕ} {k : ℕ} → Only 0 (length P) old W → z ≤ 0
    → Climbing P u z W X k → Climbed P u old X
climbing_end {P} T {u} {z} {old} {W} {X} {k} o h c =
    let a : Away P u W X = turning_end T h c.turning in
    record {
      away = record {
        across = part (length P) (omega arith) a.across;
        up = part (2 * length P) (omega arith) a.up;
      };
      row = record {
        told = c.told X a;
        above = λ v b s. by_eq v z
            (λ e q. c.formed.some (sym c.here ∙ subst (λ (i : ℕ). get_or X i 0 ≡ 0) e q))
            (λ ne. c.known v b s (subst⁻¹ (λ (i : ℕ). under P v i ≡ false) root (root_below T v (omega arith))));
      };
      only = only_trans (only_within o (omega arith) (omega arith)) c.only;
    }
  where
    root : z ≡ 0
    root = omega arith

    part : (at : ℕ) → length P ≤ at → TurnedPart P u at W X → TurnedPart P u at old X
    part at b p = record {
      turned = λ y s m t. omega (arith, o.above (at + y) (omega arith), p.turned y s m t);
      same = λ y m f. p.same y m f ∙ o.above (at + y) (omega arith);
    }
