-- The edges of a tree path. An edge is named by its lower node, and a function gives each its vector, walked away from
-- the path's start. The path from u to an ancestor grows by the edge up to the next one; the path to any other node is
-- that to its parent and the edge down.
--
--   PathAhead P edge d u v   == every edge of the path from u to v is ahead of d
--   OnPath P edge u v us     == that is so exactly where us are ahead of d
--   hop x y a b              == the vector from node a to node b of a drawing
--   away P x y u z           == the edge of z, walked away from u: up where z is u or its ancestor, else down
use Rattle.std.specs.Prelude.{Bool, List, [], ◌∷◌, ◌≡◌}
use Rattle.std.proofs.Math.Bool.{true, false, cond}
use Rattle.std.proofs.Math.Path.{ap, subst, subst⁻¹}
use Rattle.std.proofs.Common.{◌∙◌, arith}
use Prim.Native.Nat.{ℕ, zero, suc, ◌-◌, ◌<◌}
use Rattle.std.proofs.Math.ListN.{length}
use Rattle.laws.specs.SearchLaws.{least_cong}
use Rattle.laws.specs.Tests.{by_lt, differ, false_of, same_test}
use Rattle.table.specs.Ancestry.{climb_shift, climb_onward, climb-inside, depth, depth-parent, under-climb}
use Rattle.table.specs.Ancestry.{under_parent, under_refl, under_trans, under_antisym, under_on, steps_up_common}
use Rattle.table.specs.Ancestry.{steps_up_lowest, steps_up_is, steps_up-zero, steps_up_way, steps_up_meet}
use Rattle.table.specs.Paths.{step}
use Rattle.table.specs.Table.{parent, climb, under, steps_up}
use Rattle.table.specs.TableLaws.{Tree}
use Rattle.monotone.specs.Monotone.{HasDirection}
use Rattle.monotone.specs.Plane.{Vec, Ahead, AllAhead, HasHalfPlane}

pub record PathAhead (P : List ℕ) (edge : ℕ → Vec) (d : Vec) (u v : ℕ) : Type 0 where
  pub going_up : (i : ℕ) → i < steps_up P u v → Ahead d (edge (climb P i u))
  pub going_down : (j : ℕ) → j < steps_up P v u → Ahead d (edge (climb P j v))

pub record OnPath (P : List ℕ) (edge : ℕ → Vec) (u v : ℕ) (us : List Vec) : Type 0 where
  pub path : (d : Vec) → AllAhead d us → PathAhead P edge d u v
  pub ahead : (d : Vec) → PathAhead P edge d u v → AllAhead d us

abbrev pub hop : List ℕ → List ℕ → ℕ → ℕ → Vec
hop x y a b = record { across = step x a b; up = step y a b }

unfoldable pub away : List ℕ → List ℕ → List ℕ → ℕ → ℕ → Vec
away P x y u z = cond (under P z u) (hop x y z (parent P z)) (hop x y (parent P z) z)

------------------------------------------------------------------------
-- Steps to a neighbour

module _ {P R : List ℕ} (T : Tree P R) where
  -- no child is above its parent
  pub child_below : (v : ℕ) → 0 < v → v < length P → under P v (parent P v) ≡ false
  child_below v z l = false_of (λ t.
      let e : v ≡ parent P v = under_antisym T v (parent P v) l (T.inside v l) t (under_parent T v l) in
      omega (arith, depth-parent T v z l, ap (depth P) e))

  -- the steps up to an ancestor lead there
  pub steps_up_to : (u w : ℕ) → u < length P → w < length P → under P w u ≡ true → climb P (steps_up P u w) u ≡ w
  unfolding climb
  steps_up_to u w l m t = steps_up_meet T u w l m ∙ ap (λ (k : ℕ). climb P k w) (steps_up-zero T w u m l t)

  -- to an ancestor's parent it is one step more
  pub steps_up-parent : (u w : ℕ) → u < length P → w < length P → 0 < w → under P w u ≡ true
      → steps_up P u (parent P w) ≡ suc (steps_up P u w)
  unfolding climb
  steps_up-parent u w l m z t =
      steps_up_is T u (parent P w) (suc (steps_up P u w)) l (T.inside w m)
      (subst⁻¹ (λ (a : ℕ). under P a (parent P w) ≡ true) (ap (parent P) (steps_up_to u w l m t))
      (under_refl T (parent P w) (T.inside w m)))
      (λ i h. false_of (before i h))
    where
      before : (i : ℕ) → i < suc (steps_up P u w) → under P (climb P i u) (parent P w) ≡ true → ⊥
      before i h s =
          let inside : climb P i u < length P = climb-inside P T.inside i u l in
          let onward : climb P (steps_up P u w - i) (climb P i u) ≡ w =
          climb_onward P (steps_up P u w) i u (omega arith) ∙ steps_up_to u w l m t in
          let same : climb P i u ≡ w = under_antisym T (climb P i u) w inside m
          (under_trans T (climb P i u) (parent P w) w m s (under_parent T w m))
          (subst (λ (a : ℕ). under P a (climb P i u) ≡ true) onward
          (under-climb T (steps_up P u w - i) (climb P i u) inside)) in
          differ (subst (λ (a : ℕ). under P a (parent P w) ≡ true) same s) (child_below w z m)

  module _ (u v : ℕ) (l : u < length P) (m : v < length P) (t : under P v u ≡ false) where
    -- to a node that is no ancestor it is as many steps up as to its parent
    pub steps_up_same : steps_up P u v ≡ steps_up P u (parent P v)
    unfolding steps_up
    steps_up_same = least_cong _ _ (length P) (λ k h. same_test _ _
        (λ s. under_on T (climb P k u) v m s
        (λ e. differ (subst⁻¹ (λ (a : ℕ). under P a u ≡ true) e (under-climb T k u l)) t))
        (λ s. under_trans T (climb P k u) (parent P v) v m s (under_parent T v m)))

    -- and one step more down
    pub steps_up_more : steps_up P v u ≡ suc (steps_up P (parent P v) u)
    unfolding climb
    steps_up_more =
        steps_up_is T v u (suc (steps_up P (parent P v) u)) m l
        (subst (λ (a : ℕ). under P a u ≡ true) (climb_shift P (steps_up P (parent P v) u) v)
        (steps_up_common T (parent P v) u (T.inside v m) l))
        before
      where
        before : (k : ℕ) → k < suc (steps_up P (parent P v) u) → under P (climb P k v) u ≡ false
        before zero h = t
        before (suc k) h =
            subst (λ (a : ℕ). under P a u ≡ false) (climb_shift P k v) (steps_up_lowest T (parent P v) u k (omega arith))

------------------------------------------------------------------------
-- Growing a path

module _ {P R : List ℕ} (T : Tree P R) (edge : ℕ → Vec) (u : ℕ) (l : u < length P) where
  pub path_none : OnPath P edge u u []
  path_none = record {
    path = λ d a. record {
      going_up = λ i h. absurd (omega (arith, steps_up-zero T u u l l (under_refl T u l)));
      going_down = λ i h. absurd (omega (arith, steps_up-zero T u u l l (under_refl T u l)));
    };
    ahead = λ d p. tt;
  }

  -- up from an ancestor to its parent
  pub path_up : (w : ℕ) (us : List Vec) → w < length P → 0 < w → under P w u ≡ true
      → OnPath P edge u w us → OnPath P edge u (parent P w) (edge w ∷ us)
  unfolding climb
  path_up w us m z t o = record {
    path = λ d a. record {
      going_up = λ i h. by_lt i (steps_up P u w) (λ b. (o.path d a.1).going_up i b) (λ b.
          let e : i ≡ steps_up P u w = omega (arith, longer) in
          subst⁻¹ (λ (a : ℕ). Ahead d (edge a)) (ap (λ (k : ℕ). climb P k u) e ∙ to) a.0);
      going_down = λ j h. absurd (omega (arith, steps_up-zero T (parent P w) u (T.inside w m) l above));
    };
    ahead = λ d p. (
      subst (λ (a : ℕ). Ahead d (edge a)) to (p.going_up (steps_up P u w) (omega (arith, longer))),
      o.ahead d (record {
        going_up = λ i h. p.going_up i (omega (arith, longer));
        going_down = λ j h. absurd (omega (arith, steps_up-zero T w u m l t));
      }),
    );
  }
    where
      to : climb P (steps_up P u w) u ≡ w
      to = steps_up_to T u w l m t

      longer : steps_up P u (parent P w) ≡ suc (steps_up P u w)
      longer = steps_up-parent T u w l m z t

      above : under P (parent P w) u ≡ true
      above = under_trans T (parent P w) w u l (under_parent T w m) t

  -- down to a node that is no ancestor
  pub path_down : (v : ℕ) (us : List Vec) → v < length P → under P v u ≡ false
      → OnPath P edge u (parent P v) us → OnPath P edge u v (edge v ∷ us)
  unfolding climb
  path_down v us m t o = record {
    path = λ d a. record {
      going_up = λ i h. (o.path d a.1).going_up i (omega (arith, steps_up_same T u v l m t));
      going_down = λ j h. down d a j (omega (arith, steps_up_more T u v l m t));
    };
    ahead = λ d p. (
      p.going_down 0 (omega (arith, steps_up_more T u v l m t)),
      o.ahead d (record {
        going_up = λ i h. p.going_up i (omega (arith, steps_up_same T u v l m t));
        going_down = λ j h.
            subst⁻¹ (λ (a : ℕ). Ahead d (edge a)) (climb_shift P j v)
            (p.going_down (suc j) (omega (arith, steps_up_more T u v l m t)));
      }),
    );
  }
    where
      down : (d : Vec) → AllAhead d (edge v ∷ us) → (j : ℕ) → j < suc (steps_up P (parent P v) u)
          → Ahead d (edge (climb P j v))
      down d a zero h = a.0
      down d a (suc j) h =
          subst (λ (a : ℕ). Ahead d (edge a)) (climb_shift P j v) ((o.path d a.1).going_down j (omega arith))

------------------------------------------------------------------------
-- The path of a drawing

module _ {P R : List ℕ} (T : Tree P R) (x y : List ℕ) (edge : ℕ → Vec) (u v : ℕ) (l : u < length P) (m : v < length P)
    (drawn : (z : ℕ) → 0 < z → z < length P → edge z ≡ away P x y u z) where
  -- an edge that the path goes up, and one that it goes down
  up_edge : (i : ℕ) → i < steps_up P u v → edge (climb P i u) ≡ hop x y (climb P i u) (climb P (suc i) u)
  unfolding climb away
  up_edge i h =
      drawn (climb P i u) (steps_up_way T u v i m h) (climb-inside P T.inside i u l)
      ∙ ap (λ (b : Bool). cond b (hop x y (climb P i u) (climb P (suc i) u))
      (hop x y (climb P (suc i) u) (climb P i u)))
      (under-climb T i u l)

  down_edge : (j : ℕ) → j < steps_up P v u → edge (climb P j v) ≡ hop x y (climb P (suc j) v) (climb P j v)
  unfolding climb away
  down_edge j h =
      drawn (climb P j v) (steps_up_way T v u j l h) (climb-inside P T.inside j v m)
      ∙ ap (λ (b : Bool). cond b (hop x y (climb P j v) (climb P (suc j) v))
      (hop x y (climb P (suc j) v) (climb P j v)))
      (steps_up_lowest T v u j h)

  pub has_direction : (us : List Vec) → OnPath P edge u v us → HasHalfPlane us → HasDirection P x y u v
  has_direction us o h =
      let d : Vec = h.direction in
      let p : PathAhead P edge h.direction u v = o.path h.direction h.ahead in
      record {
        d = d.across;
        e = d.up;
        rises = record {
          going_up = λ i b. record { above_0 = subst (Ahead d) (up_edge i b) (p.going_up i b) };
          going_down = λ j b. record { above_0 = subst (Ahead d) (down_edge j b) (p.going_down j b) };
        };
      }

  pub has_half_plane : (us : List Vec) → OnPath P edge u v us → HasDirection P x y u v → HasHalfPlane us
  has_half_plane us o h =
      let d : Vec = record { across = h.d; up = h.e } in
      record {
        direction = d;
        ahead = o.ahead d (record {
          going_up = λ i b. subst⁻¹ (Ahead d) (up_edge i b) (h.rises.going_up i b).above_0;
          going_down = λ j b. subst⁻¹ (Ahead d) (down_edge j b) (h.rises.going_down j b).above_0;
        });
      }
