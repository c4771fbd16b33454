-- The cones of the paths from u down to every node: in the order from the last place down to the first a parent comes
-- before its children, so its cone is known. SmallEdges that are turned round twice are as they were.
use mathlib.Core.Bool.{true, false}
use mathlib.Core.List.{List, ◌∷◌}
use mathlib.Core.Path.{◌≡◌, refl, sym, ap, subst, subst⁻¹, ◌∙◌}
use Prim.Native.Nat.{ℕ, ◌+◌, ◌-◌, ◌*◌, ◌≤◌, ◌<◌}
use native.Mathlib.Omega.{arith}
use lib.ListN.{length, get_or}
use Rattle.laws.specs.Regions.{Only, only_refl, only_set}
use Rattle.laws.specs.Tests.{by_eq, by_lt, by_test, false_of}
use Rattle.table.specs.Ancestry.{under_root}
use Rattle.table.specs.Table.{parent, under}
use Rattle.table.specs.TableLaws.{Tree}
use Rattle.monotone.specs.Plane.{Vec}
use Rattle.monotone.specs.Cones.{Part, SmallEdges, edge_at, any, Grown}
use Rattle.monotone.specs.PathEdges.{path_down}
use Rattle.monotone.specs.Parts.{WithEdges, TurnedPart, Away, Turned, Said, Row, Climbed, Reached, ConeKnown}
use Rattle.monotone.specs.Parts.{known, grown, ChildrenFirst, Coned}
use Rattle.monotone.proofs.Growth.{holds_formed}
use Rattle.monotone.proofs.Stores.{store_here, store_else}
use Rattle.monotone.proofs.Climbing.{edges_kept, vectors_kept, said_some, told_store}

------------------------------------------------------------------------
-- What stays

-- the last region is all that an order depends on
pub ordered_kept : {P W X : List ℕ} → ((j : ℕ) → 3 * length P ≤ j → get_or X j 0 ≡ get_or W j 0) → ChildrenFirst P W
    → ChildrenFirst P X
ordered_kept {P} {W} {X} same o = record {
  number = o.number;
  inside = λ j l. omega (arith, same (3 * length P + j) (omega arith), o.inside j l);
  place = λ j l. ap o.number (same (3 * length P + j) (omega arith)) ∙ o.place j l;
  once = o.once;
  least = o.least;
  most = o.most;
  later = o.later;
}

pub edges_stay : {P W X : List ℕ} → Only 0 (length P) W X → WithEdges P W → WithEdges P X
edges_stay o r = record { ranks = r.ranks; tree = r.tree; edges = edges_kept o r.edges }

pub edges_away : {P : List ℕ} {u : ℕ} {W X : List ℕ} → Away P u W X → length X ≡ length W
    → WithEdges P W → WithEdges P X
edges_away {P} {u} {W} {X} t long r = record {
  ranks = r.ranks;
  tree = r.tree;
  edges = record {
    few = r.edges.few;
    long = long ∙ r.edges.long;
    across = λ z s l. part (length P) t.across z s l (r.edges.across z s l);
    up = λ z s l. part (2 * length P) t.up z s l (r.edges.up z s l);
  };
}
  where
    part : (at : ℕ) → TurnedPart P u at W X → (z : ℕ) → 0 < z → z < length P
        → Part (get_or W (at + z) 0) → Part (get_or X (at + z) 0)
    part at p z s l q = by_test (under P z u)
        (λ a. record {
          least = omega (arith, p.turned z s l a, q.most);
          most = omega (arith, p.turned z s l a, q.least);
        })
        (λ a. subst⁻¹ Part (p.same z l (λ _. a)) q)

------------------------------------------------------------------------
-- The loop

pub record Spreading (P : List ℕ) (u j : ℕ) (W X : List ℕ) : Type 0 where
  pub few : j ≤ length P
  pub order : ChildrenFirst P X
  pub row : Row P (edge_at (length P) W) u X
  pub done : (v : ℕ) → v < length P → j < order.number v → get_or X v 0 ≡ 0 → ⊥
  pub only : Only 0 (length P) W X

pub spreading_start : {P : List ℕ} {u : ℕ} {W : List ℕ} → ChildrenFirst P W
    → Row P (edge_at (length P) W) u W → Spreading P u (length P) W W
spreading_start {P} {u} {W} o r = record {
  few = omega arith;
  order = o;
  row = r;
  done = λ v l h. absurd (omega (arith, o.most v l));
  only = only_refl 0 (length P) W;
}

-- at the place before j
module _ {P R : List ℕ} (T : Tree P R) {u : ℕ} (l : u < length P) {W : List ℕ} (edges : SmallEdges (length P) W)
    {j : ℕ} {X : List ℕ}
    (some : 0 < j) (s : Spreading P u j W X) where
  abbrev node : ℕ
  node = get_or X (3 * length P + (j - 1)) 0

  pub node_in : node < length P
  node_in = s.order.inside (j - 1) (omega arith)

  node_number : s.order.number node ≡ j
  node_number = s.order.place (j - 1) (omega arith) ∙ omega arith

  -- the node at this place is the only one with its number
  the_node : (v : ℕ) → v < length P → j - 1 < s.order.number v → s.order.number v ≤ j → v ≡ node
  the_node v b h h' = s.order.once v node b node_in (omega (arith, node_number))

  not_above : get_or X node 0 ≡ 0 → under P node u ≡ false
  not_above e = false_of (λ a. s.row.above node node_in a e)

  node_some : get_or X node 0 ≡ 0 → 0 < node
  node_some e = by_lt 0 node (λ h. h) (λ h.
      let z : node ≡ 0 = omega arith in
      absurd (s.row.above node node_in (subst⁻¹ (λ (i : ℕ). under P i u ≡ true) z (under_root T u l)) e))

  parent_said : get_or X node 0 ≡ 0 → Said P (edge_at (length P) W) u (get_or X (parent P node) 0) (parent P node)
  parent_said e =
      s.row.told.said (parent P node) (T.inside node node_in)
      (s.done (parent P node) (T.inside node node_in)
      (omega (arith, node_number, s.order.later node (node_some e) node_in)))

  pub spreading_reached : Reached P X node
  spreading_reached = record {
    inside = node_in;
    some = node_some;
    formed = λ e. holds_formed (parent_said e).holds;
  }

  pub spreading_step : {Y : List ℕ} → ConeKnown P X node Y → Spreading P u (j - 1) W Y
  unfolding ordered_kept
  spreading_step {Y} (known k q) = subst⁻¹ (Spreading P u (j - 1) W) q (record {
    few = omega arith;
    order = s.order;
    row = s.row;
    done = λ v b h. by_lt j (s.order.number v) (s.done v b)
        (λ h'. subst⁻¹ (λ (i : ℕ). get_or X i 0 ≡ 0 → ⊥) (the_node v b h h') k);
    only = s.only;
  })
  spreading_step {Y} (grown r e g q) = record {
    few = omega arith;
    order = ordered_kept (λ i h. store_else X node r q i (λ p. omega (arith, node_in))) s.order;
    row = record {
      told = told_store node r long q next s.row.told;
      above = λ v b a z. stays v z (s.row.above v b a);
    };
    done = λ v b h. by_lt j (s.order.number v) (λ m z. stays v z (s.done v b m))
        (λ h'. subst⁻¹ (λ (i : ℕ). get_or Y i 0 ≡ 0 → ⊥) (the_node v b h h') (λ z. said_some next (sym here ∙ z)));
    only = only_set node r s.only (omega arith) node_in q;
  }
    where
      long : node < length X
      long = omega (arith, node_in, s.only.long, edges.long)

      here : get_or Y node 0 ≡ r
      here = store_here X node r long q

      next : Said P (edge_at (length P) W) u r node
      next = record {
        way = edge_at (length P) W node ∷ (parent_said e).way;
        path = path_down T (edge_at (length P) W) u l node (parent_said e).way node_in
            (not_above e) (parent_said e).path;
        holds = (subst (λ (f : ℕ → Vec). Grown (length P) f (get_or X (parent P node) 0) node r) (vectors_kept s.only) g
            ).holds any refl (parent_said e).way (parent_said e).holds;
      }

      -- what was known stays known
      stays : (v : ℕ) → get_or Y v 0 ≡ 0 → (get_or X v 0 ≡ 0 → ⊥) → ⊥
      stays v z f = by_eq v node
          (λ p. said_some next (sym here ∙ subst (λ (i : ℕ). get_or Y i 0 ≡ 0) p z))
          (λ ne. f (sym (store_else X node r q v ne) ∙ z))

------------------------------------------------------------------------
-- From the entry to the end

-- a list that agrees beyond the first region has the same parts turned
part_between : {P : List ℕ} {u at : ℕ} {W A B X : List ℕ} → length P ≤ at
    → Only 0 (length P) W A → TurnedPart P u at A B
    → Only 0 (length P) B X → TurnedPart P u at W X
part_between {P} {u} {at} {W} {A} {B} {X} h o t p = record {
  turned = λ z s l a.
      omega (arith, o.above (at + z) (omega arith), p.above (at + z) (omega arith), t.turned z s l a);
  same = λ z l f. p.above (at + z) (omega arith) ∙ t.same z l f ∙ o.above (at + z) (omega arith);
}

-- turned twice
part_twice : {P : List ℕ} {u : ℕ} {W X Y : List ℕ} (at : ℕ) → TurnedPart P u at W X → TurnedPart P u at X Y
    → (z : ℕ) → z < length P → get_or Y (at + z) 0 ≡ get_or W (at + z) 0
part_twice {P} {u} at t r z l = by_lt 0 z
    (λ s. by_test (under P z u)
    (λ a. omega (arith, t.turned z s l a, r.turned z s l a))
    (λ a. r.same z l (λ _. a) ∙ t.same z l (λ _. a)))
    (λ h. r.same z l (λ s. absurd (omega arith)) ∙ t.same z l (λ s. absurd (omega arith)))

-- W, cleared to A, climbed to C, spread to X, turned back to Y
module _ {P : List ℕ} {u j : ℕ} {W A C X Y : List ℕ} (cleared : Only 0 (length P) W A) (climbed : Climbed P u A C)
    (end : j ≤ 0) (spread : Spreading P u j C X) (back : Turned P u X Y) where
  away : Away P u W C
  away = record {
    across = part_between (omega arith) cleared climbed.away.across (only_refl 0 (length P) C);
    up = part_between (omega arith) cleared climbed.away.up (only_refl 0 (length P) C);
  }

  home : Away P u C Y
  home = record {
    across = part_between (omega arith) spread.only back.away.across (only_refl 0 (length P) Y);
    up = part_between (omega arith) spread.only back.away.up (only_refl 0 (length P) Y);
  }

  place_beyond : (k : ℕ) → length P ≤ k → get_or Y k 0 ≡ get_or W k 0
  place_beyond k h =
      by_lt k (2 * length P)
      (λ l. at (length P) (k - length P) (omega arith)
      (part_twice (length P) away.across home.across (k - length P) (omega arith)))
      (λ h₂. by_lt k (3 * length P)
      (λ l. at (2 * length P) (k - 2 * length P) (omega arith)
      (part_twice (2 * length P) away.up home.up (k - 2 * length P) (omega arith)))
      (λ h₃. back.only.above k h₃ ∙ spread.only.above k h ∙ climbed.only.above k h₃ ∙ cleared.above k h))
    where
      at : (a z : ℕ) → a + z ≡ k → get_or Y (a + z) 0 ≡ get_or W (a + z) 0 → get_or Y k 0 ≡ get_or W k 0
      at a z e s = subst (λ (i : ℕ). get_or Y i 0 ≡ get_or W i 0) e s

  pub coned : Coned P u W Y
  coned = record {
    turned = C;
    away = away;
    said = λ v l.
        subst⁻¹ (λ (k : ℕ). Said P (edge_at (length P) C) u k v) (back.only.below v l)
        (spread.row.told.said v l (spread.done v l (omega (arith, spread.order.least v l))));
    only = record {
      long = back.only.long ∙ spread.only.long ∙ climbed.only.long ∙ cleared.long;
      below = λ k l. absurd (omega arith);
      above = place_beyond;
    };
  }
