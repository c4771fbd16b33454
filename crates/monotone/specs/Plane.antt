-- Vectors of the plane with whole coordinates, the open half planes that hold a list of them, and cones: the two
-- vectors of a list that stand for all of it.
--
--   Vec                    == a vector
--   cross a b, dot a b     == the cross product and the dot product
--   Ahead d u              == u is in the open half plane ahead of d
--   AllAhead d us          == so are all of us
--   HasHalfPlane us        == some open half plane holds all of us
--   Opens lo hi            == from lo counter-clockwise to hi is less than half a turn, and hi is lo where it is none
--   Cone lo hi us          == us are ahead of d exactly where lo and hi are
use Rattle.std.specs.Prelude.{◌≡◌, refl, ◌⊎◌, List, [], ◌∷◌, ℕ, zero, suc, ℤ, pos, negsuc, neg_ℤ, ◌+ℤ◌, ◌-ℤ◌, ◌*ℤ◌}
use Rattle.std.specs.Prelude.{◌<ℤ◌, ◌≤ℤ◌}
use Rattle.std.proofs.Common.{sym, ◌∙◌, ap, ap₂, subst, inl, inr, ⊎_elim}
use Rattle.std.proofs.Math.Path.{subst⁻¹}
use Rattle.std.proofs.Math.IntN.{zero-*ℤ, *ℤ-zero, ℤ_discrete}
use Rattle.std.specs.Int.Signed.{<ℤ_irrefl, clash_ℤ}
use Rattle.laws.specs.Solver.{Expr, v, k, ◌⊕◌, ◌⊖◌, ◌⊗◌, solve}
use Rattle.laws.specs.Signs.{<-to, ≤-to, <→≤, ≤+<, <+≤, ≤+≤, <*<, ≤*≤, neg_pos, neg_nonneg, not_both, cancel, square}
use Rattle.laws.specs.Signs.{square⁺, at_least}

------------------------------------------------------------------------
-- Half planes and cones

pub record Vec : Type 0 where
  pub across : ℤ
  pub up : ℤ

abbrev pub cross : Vec → Vec → ℤ
cross a b = a.across *ℤ b.up -ℤ a.up *ℤ b.across

abbrev pub dot : Vec → Vec → ℤ
dot a b = a.across *ℤ b.across +ℤ a.up *ℤ b.up

abbrev pub Ahead : Vec → Vec → Type 0
Ahead d u = pos 0 <ℤ dot d u

abbrev pub AllAhead : Vec → List Vec → Type 0
AllAhead d [] = Unit {0}
AllAhead d (u ∷ us) = Ahead d u × AllAhead d us

pub record HasHalfPlane (us : List Vec) : Type 0 where
  pub direction : Vec
  pub ahead : AllAhead direction us

abbrev pub Opens : Vec → Vec → Type 0
Opens lo hi = ((lo ≡ hi) × (pos 0 <ℤ dot lo lo)) ⊎ (pos 0 <ℤ cross lo hi)

pub record Cone (lo hi : Vec) (us : List Vec) : Type 0 where
  pub opens : Opens lo hi
  pub sides : (d : Vec) → AllAhead d us → Ahead d lo × Ahead d hi
  pub all : (d : Vec) → Ahead d lo → Ahead d hi → AllAhead d us

------------------------------------------------------------------------
-- Identities. The variables of the solver: d is 0 and 1, lo 2 and 3, hi 4 and 5, u 6 and 7

abbrev cross_e : ℕ → ℕ → Expr
cross_e i j = v i ⊗ v (suc j) ⊖ v (suc i) ⊗ v j

abbrev dot_e : ℕ → ℕ → Expr
dot_e i j = v i ⊗ v j ⊕ v (suc i) ⊗ v (suc j)

abbrev neg_e : Expr → Expr
neg_e a = Expr.neg a

abbrev variables : Vec → Vec → Vec → Vec → List ℤ
variables d lo hi u = d.across ∷ d.up ∷ lo.across ∷ lo.up ∷ hi.across ∷ hi.up ∷ u.across ∷ u.up ∷ []

module _ (d lo hi u : Vec) where
  -- cross(lo, hi) u is cross(u, hi) lo + cross(lo, u) hi
  between : cross lo hi *ℤ dot d u ≡ cross u hi *ℤ dot d lo +ℤ cross lo u *ℤ dot d hi
  between = solve (variables d lo hi u) (cross_e 2 4 ⊗ dot_e 0 6) (cross_e 6 4 ⊗ dot_e 0 2 ⊕ cross_e 2 6 ⊗ dot_e 0 4) tt

  past_high : cross lo u *ℤ dot d hi ≡ cross lo hi *ℤ dot d u +ℤ neg_ℤ (cross u hi) *ℤ dot d lo
  past_high =
      solve (variables d lo hi u) (cross_e 2 6 ⊗ dot_e 0 4) (cross_e 2 4 ⊗ dot_e 0 6 ⊕ neg_e (cross_e 6 4) ⊗ dot_e 0 2) tt

  past_low : cross u hi *ℤ dot d lo ≡ cross lo hi *ℤ dot d u +ℤ neg_ℤ (cross lo u) *ℤ dot d hi
  past_low =
      solve (variables d lo hi u) (cross_e 6 4 ⊗ dot_e 0 2) (cross_e 2 4 ⊗ dot_e 0 6 ⊕ neg_e (cross_e 2 6) ⊗ dot_e 0 4) tt

  opposite : cross lo hi *ℤ dot d u +ℤ (neg_ℤ (cross u hi) *ℤ dot d lo +ℤ neg_ℤ (cross lo u) *ℤ dot d hi) ≡ pos 0
  opposite =
      solve (variables d lo hi u)
      (cross_e 2 4 ⊗ dot_e 0 6 ⊕ (neg_e (cross_e 6 4) ⊗ dot_e 0 2 ⊕ neg_e (cross_e 2 6) ⊗ dot_e 0 4)) (k (pos 0)) tt

  along : dot lo lo *ℤ dot d u ≡ dot lo u *ℤ dot d lo +ℤ cross lo u *ℤ cross lo d
  along = solve (variables d lo hi u) (dot_e 2 2 ⊗ dot_e 0 6) (dot_e 2 6 ⊗ dot_e 0 2 ⊕ cross_e 2 6 ⊗ cross_e 2 0) tt

  against_lo : dot lo lo *ℤ dot d u +ℤ neg_ℤ (dot lo u) *ℤ dot d lo ≡ cross lo u *ℤ cross lo d
  against_lo =
      solve (variables d lo hi u) (dot_e 2 2 ⊗ dot_e 0 6 ⊕ neg_e (dot_e 2 6) ⊗ dot_e 0 2) (cross_e 2 6 ⊗ cross_e 2 0) tt

  dots : cross lo hi *ℤ dot lo u ≡ cross u hi *ℤ dot lo lo +ℤ cross lo u *ℤ dot lo hi
  dots = solve (variables d lo hi u) (cross_e 2 4 ⊗ dot_e 2 6) (cross_e 6 4 ⊗ dot_e 2 2 ⊕ cross_e 2 6 ⊗ dot_e 2 4) tt

swapped : (a b : Vec) → cross b a ≡ neg_ℤ (cross a b)
swapped a b = solve (variables a b a b) (cross_e 2 0) (neg_e (cross_e 0 2)) tt

------------------------------------------------------------------------
-- A cone has a half plane

-- half way between the normals of lo and hi, which are turned towards each other
middle : Vec → Vec → Vec
middle lo hi = record { across = hi.up -ℤ lo.up; up = lo.across -ℤ hi.across }

middle_low : (lo hi : Vec) → cross lo hi ≡ dot (middle lo hi) lo
unfolding middle
middle_low lo hi = solve (variables lo hi lo hi) (cross_e 0 2) ((v 3 ⊖ v 1) ⊗ v 0 ⊕ (v 0 ⊖ v 2) ⊗ v 1) tt

middle_high : (lo hi : Vec) → cross lo hi ≡ dot (middle lo hi) hi
unfolding middle
middle_high lo hi = solve (variables lo hi lo hi) (cross_e 0 2) ((v 3 ⊖ v 1) ⊗ v 2 ⊕ (v 0 ⊖ v 2) ⊗ v 3) tt

pub cone_open : {lo hi : Vec} {us : List Vec} → Cone lo hi us → HasHalfPlane us
cone_open {lo} {hi} c =
    ⊎_elim
    (λ r. record { direction = lo; ahead = c.all lo r.1 (subst (Ahead lo) r.0 r.1) })
    (λ t. record {
      direction = middle lo hi;
      ahead = c.all (middle lo hi) (<-to (middle_low lo hi) t) (<-to (middle_high lo hi) t);
    })
    c.opens

------------------------------------------------------------------------
-- One vector more: each case of the signs of its cross products with lo and hi is exact

below_0 : (z : ℤ) → z <ℤ pos 0 → z ≤ℤ pos 0
below_0 (pos zero) h = at_least 0
below_0 (pos (suc n)) h = absurd (not_both (pos (suc n)) (at_least (suc n)) (neg_pos (pos (suc n)) h))
below_0 (negsuc n) h = record { le = tt }

is_0 : (z : ℤ) → z ≡ pos 0 → z ≤ℤ pos 0
is_0 z h = subst⁻¹ (λ (y : ℤ). y ≤ℤ pos 0) h (at_least 0)

times_0 : (a b : ℤ) → a ≡ pos 0 → pos 0 ≤ℤ (a *ℤ b)
times_0 a b h = subst⁻¹ (λ (y : ℤ). pos 0 ≤ℤ (y *ℤ b)) h (≤-to (sym (zero-*ℤ b)) (at_least 0))

both_0 : (a b : ℤ) → pos 0 *ℤ a +ℤ pos 0 *ℤ b ≡ pos 0
both_0 a b = solve (a ∷ b ∷ []) (k (pos 0) ⊗ v 0 ⊕ k (pos 0) ⊗ v 1) (k (pos 0)) tt

module _ {lo hi : Vec} (u : Vec) {us : List Vec} (c : Cone lo hi us) where
  -- where hi is lo, the two cross products are opposite
  flipped_low : lo ≡ hi → cross u hi ≡ neg_ℤ (cross lo u)
  flipped_low r = subst (λ (z : Vec). cross u z ≡ neg_ℤ (cross lo u)) r (swapped lo u)

  flipped_high : lo ≡ hi → cross lo u ≡ neg_ℤ (cross u hi)
  flipped_high r = subst (λ (z : Vec). cross lo u ≡ neg_ℤ (cross u z)) r (swapped u lo)

  -- u is past hi
  pub high : pos 0 <ℤ cross lo u → cross u hi <ℤ pos 0 → Cone lo u (u ∷ us)
  high p q = record {
    opens = inr p;
    sides = λ d a. ((c.sides d a.1).0, a.0);
    all = λ d al au. (
      au,
      c.all d al (⊎_elim
          (λ r. subst (Ahead d) r.0 al)
          (λ t. cancel (cross lo u) (dot d hi) (<→≤ (cross lo u) p) (<-to (sym (past_high d lo hi u))
          (<+≤ (cross lo hi *ℤ dot d u) (neg_ℤ (cross u hi) *ℤ dot d lo)
          (<*< (cross lo hi) (dot d u) t au)
          (≤*≤ (neg_ℤ (cross u hi)) (dot d lo) (<→≤ (neg_ℤ (cross u hi)) (neg_pos (cross u hi) q)) (<→≤ (dot d lo) al)))))
          c.opens),
    );
  }

  -- u is past lo
  pub low : pos 0 <ℤ cross u hi → cross lo u <ℤ pos 0 → Cone u hi (u ∷ us)
  low q p = record {
    opens = inr q;
    sides = λ d a. (a.0, (c.sides d a.1).1);
    all = λ d au ah. (
      au,
      c.all d (⊎_elim
          (λ r. subst⁻¹ (Ahead d) r.0 ah)
          (λ t. cancel (cross u hi) (dot d lo) (<→≤ (cross u hi) q) (<-to (sym (past_low d lo hi u))
          (<+≤ (cross lo hi *ℤ dot d u) (neg_ℤ (cross lo u) *ℤ dot d hi)
          (<*< (cross lo hi) (dot d u) t au)
          (≤*≤ (neg_ℤ (cross lo u)) (dot d hi) (<→≤ (neg_ℤ (cross lo u)) (neg_pos (cross lo u) p)) (<→≤ (dot d hi) ah)))))
          c.opens) ah,
    );
  }

  -- u is ahead wherever lo and hi are
  kept : ((d : Vec) → Ahead d lo → Ahead d hi → Ahead d u) → Cone lo hi (u ∷ us)
  kept f = record {
    opens = c.opens;
    sides = λ d a. c.sides d a.1;
    all = λ d al ah. (f d al ah, c.all d al ah);
  }

  inside : pos 0 <ℤ cross lo hi → (d : Vec) → pos 0 <ℤ (cross u hi *ℤ dot d lo +ℤ cross lo u *ℤ dot d hi) → Ahead d u
  inside t d h = cancel (cross lo hi) (dot d u) (<→≤ (cross lo hi) t) (<-to (sym (between d lo hi u)) h)

  -- u is between them, or along hi
  pub keep_high : pos 0 <ℤ cross lo u → pos 0 ≤ℤ cross u hi → Cone lo hi (u ∷ us)
  keep_high p q = kept (λ d al ah. ⊎_elim
      (λ r. absurd (not_both (cross u hi) q (<-to (flipped_high r.0) p)))
      (λ t. inside t d (≤+< (cross u hi *ℤ dot d lo) (cross lo u *ℤ dot d hi)
      (≤*≤ (cross u hi) (dot d lo) q (<→≤ (dot d lo) al))
      (<*< (cross lo u) (dot d hi) p ah)))
      c.opens)

  -- u is between them, or along lo
  pub keep_low : pos 0 <ℤ cross u hi → pos 0 ≤ℤ cross lo u → Cone lo hi (u ∷ us)
  keep_low q p = kept (λ d al ah. ⊎_elim
      (λ r. absurd (not_both (cross lo u) p (<-to (flipped_low r.0) q)))
      (λ t. inside t d (<+≤ (cross u hi *ℤ dot d lo) (cross lo u *ℤ dot d hi)
      (<*< (cross u hi) (dot d lo) q al)
      (≤*≤ (cross lo u) (dot d hi) p (<→≤ (dot d hi) ah))))
      c.opens)

  -- u is opposite
  against : pos 0 <ℤ cross lo hi → cross lo u ≤ℤ pos 0 → cross u hi ≤ℤ pos 0 → HasHalfPlane (u ∷ us) → ⊥
  against t p q h =
      let d : Vec = h.direction in
      let al : Ahead h.direction lo = (c.sides h.direction h.ahead.1).0 in
      let ah : Ahead h.direction hi = (c.sides h.direction h.ahead.1).1 in
      <ℤ_irrefl (<-to (opposite d lo hi u)
      (<+≤ (cross lo hi *ℤ dot d u) (neg_ℤ (cross u hi) *ℤ dot d lo +ℤ neg_ℤ (cross lo u) *ℤ dot d hi)
      (<*< (cross lo hi) (dot d u) t h.ahead.0)
      (≤+≤ (neg_ℤ (cross u hi) *ℤ dot d lo) (neg_ℤ (cross lo u) *ℤ dot d hi)
      (≤*≤ (neg_ℤ (cross u hi)) (dot d lo) (neg_nonneg (cross u hi) q) (<→≤ (dot d lo) al))
      (≤*≤ (neg_ℤ (cross lo u)) (dot d hi) (neg_nonneg (cross lo u) p) (<→≤ (dot d hi) ah)))))

  pub against_low : cross lo u <ℤ pos 0 → cross u hi ≤ℤ pos 0 → HasHalfPlane (u ∷ us) → ⊥
  against_low p q h = ⊎_elim
      (λ r. clash_ℤ (<-to (sym (flipped_low r.0)) (neg_pos (cross lo u) p)) q)
      (λ t. against t (below_0 (cross lo u) p) q h)
      c.opens

  pub against_high : cross lo u ≤ℤ pos 0 → cross u hi <ℤ pos 0 → HasHalfPlane (u ∷ us) → ⊥
  against_high p q h = ⊎_elim
      (λ r. clash_ℤ q (≤-to (sym (flipped_low r.0)) (neg_nonneg (cross lo u) p)))
      (λ t. against t p (below_0 (cross u hi) q) h)
      c.opens

  -- u is along both, or zero
  pub keep_along : cross lo u ≡ pos 0 → cross u hi ≡ pos 0 → pos 0 <ℤ dot lo u → Cone lo hi (u ∷ us)
  keep_along p q s = kept (λ d al ah. ⊎_elim
      (λ r. cancel (dot lo lo) (dot d u) (<→≤ (dot lo lo) r.1) (<-to (sym (along d lo hi u))
      (<+≤ (dot lo u *ℤ dot d lo) (cross lo u *ℤ cross lo d)
      (<*< (dot lo u) (dot d lo) s al)
      (times_0 (cross lo u) (cross lo d) p))))
      (λ t. absurd (<ℤ_irrefl (<-to
      (dots d lo hi u
      ∙ ap₂ (λ (y z : ℤ). y *ℤ dot lo lo +ℤ z *ℤ dot lo hi) q p
      ∙ both_0 (dot lo lo) (dot lo hi))
      (<*< (cross lo hi) (dot lo u) t s))))
      c.opens)

  pub against_along : cross lo u ≡ pos 0 → cross u hi ≡ pos 0 → dot lo u ≤ℤ pos 0 → HasHalfPlane (u ∷ us) → ⊥
  against_along p q s h =
      let d : Vec = h.direction in
      ⊎_elim
      (λ r. <ℤ_irrefl (<-to
      (against_lo d lo hi u ∙ ap (λ (z : ℤ). z *ℤ cross lo d) p ∙ zero-*ℤ (cross lo d))
      (<+≤ (dot lo lo *ℤ dot d u) (neg_ℤ (dot lo u) *ℤ dot d lo)
      (<*< (dot lo lo) (dot d u) r.1 h.ahead.0)
      (≤*≤ (neg_ℤ (dot lo u)) (dot d lo) (neg_nonneg (dot lo u) s) (<→≤ (dot d lo) (c.sides d h.ahead.1).0)))))
      (λ t. against t (is_0 (cross lo u) p) (is_0 (cross u hi) q) h)
      c.opens

------------------------------------------------------------------------
-- The first vector

pub cone_first : (u : Vec) → ((u.across ≡ pos 0) × (u.up ≡ pos 0) → ⊥) → Cone u u (u ∷ [])
cone_first u h = record {
  opens = inl (refl, long (ℤ_discrete u.across (pos 0)));
  sides = λ d a. (a.0, a.0);
  all = λ d a _. (a, tt);
}
  where
    long : Dec (u.across ≡ pos 0) → pos 0 <ℤ dot u u
    long (no f) = <+≤ (u.across *ℤ u.across) (u.up *ℤ u.up) (square⁺ u.across f) (square u.up)
    long (yes f) = ≤+< (u.across *ℤ u.across) (u.up *ℤ u.up) (square u.across) (square⁺ u.up (λ g. h (f, g)))

-- zero is ahead of nothing
pub zero-none : (u : Vec) {us : List Vec} → u.across ≡ pos 0 → u.up ≡ pos 0 → HasHalfPlane (u ∷ us) → ⊥
zero-none u f g h =
    <ℤ_irrefl (<-to
    (ap₂ (λ (y z : ℤ). h.direction.across *ℤ y +ℤ h.direction.up *ℤ z) f g
    ∙ ap₂ ◌+ℤ◌ (*ℤ-zero h.direction.across) (*ℤ-zero h.direction.up))
    h.ahead.0)

-- what no half plane holds none holds with more
pub none_more : (u : Vec) {us : List Vec} → (HasHalfPlane us → ⊥) → HasHalfPlane (u ∷ us) → ⊥
none_more u f h = f (record { direction = h.direction; ahead = h.ahead.1 })
