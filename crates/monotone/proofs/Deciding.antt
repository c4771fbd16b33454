-- What the cones of the paths from u say of a drawing: the pair (u, v) has no direction exactly where v's cone is 2. So
-- the pairs that the loops have passed all have one.
use mathlib.Core.Bool.{true, false}
use mathlib.Core.List.{List}
use mathlib.Core.Logic.{inl, inr, ⊎_elim}
use mathlib.Core.Path.{◌≡◌, subst⁻¹}
use Prim.Native.Nat.{ℕ, ◌+◌, ◌*◌, ◌≤◌, ◌<◌}
use native.Mathlib.Omega.{arith}
use lib.IntN.{pos, neg_ℤ, ◌-ℤ◌}
use lib.ListN.{length, get_or}
use Rattle.std.proofs.Common.{Option, None}
use Rattle.laws.specs.Differences.{IsDiff, recast, diff_pos, diff_neg, diff_add, diff_eq}
use Rattle.laws.specs.Regions.{Only}
use Rattle.laws.specs.Tests.{by_lt, by_test}
use Rattle.table.specs.Paths.{step}
use Rattle.table.specs.Table.{parent, under}
use Rattle.table.specs.TableLaws.{Tree}
use Rattle.monotone.specs.Monotone.{HasDirection, FirstTurn}
use Rattle.monotone.specs.MonotoneLaws.{Before}
use Rattle.monotone.specs.Plane.{HasHalfPlane, cone_open}
use Rattle.monotone.specs.Cones.{part_at, edge_at, Holds, any, empty, shut, wide}
use Rattle.monotone.specs.PathEdges.{away, has_direction, has_half_plane}
use Rattle.monotone.specs.Parts.{TurnedPart, Away, Said, Coned, DrawnPart, DrawnEdges}

------------------------------------------------------------------------
-- SmallEdges of a drawing

sub_is : (a b : ℕ) → IsDiff (pos a -ℤ pos b) a b
sub_is a b =
    recast (pos a -ℤ pos b) (a + 0) (0 + b) a b
    (diff_add (pos a) (neg_ℤ (pos b)) a 0 0 b (diff_pos a) (diff_neg (pos b) b 0 (diff_pos b))) (omega arith)

-- two differences with the same sum across
sub_same : (a b c d : ℕ) → a + d ≡ c + b → pos a -ℤ pos b ≡ pos c -ℤ pos d
sub_same a b c d e = diff_eq (pos a -ℤ pos b) (pos c -ℤ pos d) a b c d (sub_is a b) (sub_is c d) e

module _ {P c : List ℕ} {u at : ℕ} {W X : List ℕ} (drawn : DrawnPart P c at W) (turned : TurnedPart P u at W X) where
  part_up : (z : ℕ) → 0 < z → z < length P → under P z u ≡ true → part_at X (at + z) ≡ step c z (parent P z)
  part_up z s l a =
      sub_same (get_or X (at + z) 0) 2147483648 (get_or c (parent P z) 0) (get_or c z 0)
      (omega (arith, drawn.drawn z l, turned.turned z s l a))

  part_down : (z : ℕ) → 0 < z → z < length P → under P z u ≡ false → part_at X (at + z) ≡ step c (parent P z) z
  part_down z s l a =
      sub_same (get_or X (at + z) 0) 2147483648 (get_or c z 0) (get_or c (parent P z) 0)
      (omega (arith, drawn.drawn z l, turned.same z l (λ _. a)))

edge-away : {P x y : List ℕ} {u : ℕ} {W X : List ℕ} → DrawnEdges P x y W → Away P u W X
    → (z : ℕ) → 0 < z → z < length P → edge_at (length P) X z ≡ away P x y u z
unfolding away
edge-away {P} {u = u} d t z s l = by_test (under P z u)
    (λ a. rw a (λ i. record {
      across = part_up d.across t.across z s l a i;
      up = part_up d.up t.up z s l a i;
    }))
    (λ a. rw a (λ i. record {
      across = part_down d.across t.across z s l a i;
      up = part_down d.up t.up z s l a i;
    }))

pub drawn_kept : {P x y W X : List ℕ} → Only 0 (length P) W X → DrawnEdges P x y W → DrawnEdges P x y X
drawn_kept {P} {x} {y} {W} {X} o d = record {
  across = record { drawn = λ z l. omega (arith, o.above (length P + z) (omega arith), d.across.drawn z l) };
  up = record { drawn = λ z l. omega (arith, o.above (2 * length P + z) (omega arith), d.up.drawn z l) };
}

------------------------------------------------------------------------
-- A cone decides its pair

module _ {P R : List ℕ} (T : Tree P R) {x y : List ℕ} {u : ℕ} (l : u < length P) {W X : List ℕ} (c : Coned P u W X)
    (d : DrawnEdges P x y W) (v : ℕ) (m : v < length P) where
  edges : (z : ℕ) → 0 < z → z < length P → edge_at (length P) c.turned z ≡ away P x y u z
  edges = edge-away d c.away

  pub directed : (get_or X v 0 ≡ 2 → ⊥) → HasDirection P x y u v
  directed ne =
      has_direction T x y (edge_at (length P) c.turned) u v l m edges s.way s.path (opened s.holds)
    where
      s : Said P (edge_at (length P) c.turned) u (get_or X v 0) v
      s = c.said v m

      opened : Holds (length P) any (edge_at (length P) c.turned) (get_or X v 0) s.way → HasHalfPlane s.way
      opened (empty e n) = subst⁻¹ HasHalfPlane n
          (record { direction = record { across = pos 0; up = pos 0 }; ahead = tt })
      opened (shut e f) = absurd (ne e)
      opened (wide p a b k) = cone_open k

  pub turns : get_or X v 0 ≡ 2 → HasDirection P x y u v → ⊥
  turns two h = closed s.holds
      (has_half_plane T x y (edge_at (length P) c.turned) u v l m edges s.way s.path h)
    where
      s : Said P (edge_at (length P) c.turned) u (get_or X v 0) v
      s = c.said v m

      closed : Holds (length P) any (edge_at (length P) c.turned) (get_or X v 0) s.way → HasHalfPlane s.way → ⊥
      closed (empty e n) g = omega arith
      closed (shut e f) g = f g
      closed (wide p a b k) g = omega arith

------------------------------------------------------------------------
-- The pairs passed

-- every pair before (u, v) has a direction, in any drawing that the edges of W are of
pub record Passed (P W : List ℕ) (u v : ℕ) : Type 0 where
  pub all : (x y : List ℕ) → DrawnEdges P x y W → (a b : ℕ) → a < b → b < length P → Before a b u v
      → HasDirection P x y a b

-- none of the cones between u and v is 2
pub record Clear (X : List ℕ) (u v : ℕ) : Type 0 where
  pub none : (w : ℕ) → u < w → w < v → get_or X w 0 ≡ 2 → ⊥

module _ {P R : List ℕ} (T : Tree P R) {u v : ℕ} (l : u < length P) {W X Y : List ℕ} (only : Only 0 (length P) W X)
    (c : Coned P u X Y) (passed : Passed P W u 0) (clear : Clear Y u v) where
  -- those before (u, v)
  before : (x y : List ℕ) → DrawnEdges P x y W → (a b : ℕ) → a < b → b < length P → Before a b u v
      → HasDirection P x y a b
  before x y d a b h k = ⊎_elim (λ i. passed.all x y d a b h k (inl i))
      (λ i. subst⁻¹ (λ (e : ℕ). HasDirection P x y e b) i.0
      (directed T l c (drawn_kept only d) b k (clear.none b (let j : u < b = omega arith in j) i.1)))

  pub passed_row : length P ≤ v → Passed P W (u + 1) 0
  passed_row end = record {
    all = λ x y d a b h k. ⊎_elim
        (λ i. before x y d a b h k (by_lt a u inl
        (λ j. inr (let e : a ≡ u = omega arith in e, let f : b < v = omega arith in f))))
        (λ i. absurd (omega arith));
  }

  pub first_turn : u < v → v < length P → get_or Y v 0 ≡ 2 → (x y : List ℕ) → DrawnEdges P x y W → FirstTurn P x y u v
  first_turn h k two x y d = record {
    ordered = h;
    inside = k;
    turns = turns T l c (drawn_kept only d) v k two;
    earlier = before x y d;
  }

------------------------------------------------------------------------
-- The loop over u

pub record OverRows (P W : List ℕ) (u : ℕ) (X : List ℕ) (turning : Option (ℕ × ℕ)) : Type 0 where
  pub only : Only 0 (length P) W X
  pub passed : Passed P W u 0
  pub still : turning ≡ None
