-- In a drawing where every pair of nodes has a direction, no two edges share a point but a common end.
--
-- Any two edges are the first and the last of some tree path. Along a direction of that path the first edge ends no
-- higher than the last one starts, so they share a point only where the first one's end is the last one's start.
--
--   Higher h a b   == node b is higher than node a, by the heights h
--   UpTo h a b     == node b is node a, or higher
use Rattle.std.specs.Prelude.{true, false, List, [], ◌∷◌, ◌⊎◌, ◌≢◌, ◌≡◌, refl, ℤ, pos, neg_ℤ, ◌+ℤ◌, ◌-ℤ◌, ◌*ℤ◌, ◌<ℤ◌}
use Rattle.std.specs.Prelude.{◌≤ℤ◌}
use Rattle.std.proofs.Common.{inl, inr, sym, ap, ap₂, subst, ◌∙◌, arith}
use Prim.Native.Nat.{ℕ, zero, suc, ◌-◌, ◌≤◌, ◌<◌}
use Rattle.std.proofs.Math.IntN.{+ℤ_invr}
use Rattle.std.proofs.Math.ListN.{length}
use Rattle.std.specs.Int.Signed.{<ℤ_irrefl}
use Rattle.laws.specs.Signs.{at_least, above, <-to, ≤-to, <→≤, ≤+<, <+≤, ≤+≤, <*<, ≤*≤}
use Rattle.laws.specs.Solver.{v, ◌⊕◌, ◌⊖◌, ◌⊗◌, solve}
use Rattle.laws.specs.Tests.{by_test, by_lt, differ, false_of}
use Rattle.table.specs.Table.{parent, climb, under, steps_up}
use Rattle.table.specs.TableLaws.{Tree}
use Rattle.table.specs.Numbering.{Numbering}
use Rattle.table.specs.Ancestry.{climb_onward, climb-inside, under_steps, steps_under, under_trans, not_under_child}
use Rattle.table.specs.Ancestry.{steps_up_is, steps_up_some, steps_up_siblings}
use Rattle.table.specs.Paths.{PathRises, SharePoint, CommonEnd}
use Rattle.table.specs.PathLaws.{path_back, height, rises_height, along-height, along-start, share_back, end_back}
use Rattle.slopes.specs.declared.Slope.{Slope}
use Rattle.direction.proofs.RisingPaths.{Rising, DrawnAlong, rising_paths}

------------------------------------------------------------------------
-- Heights

abbrev pub Higher : (ℕ → ℤ) → ℕ → ℕ → Type 0
Higher h a b = pos 0 <ℤ (h b -ℤ h a)

abbrev pub UpTo : (ℕ → ℤ) → ℕ → ℕ → Type 0
UpTo h a b = (a ≡ b) ⊎ Higher h a b

up_to_rise : (h : ℕ → ℤ) (a b c : ℕ) → UpTo h a b → Higher h b c → Higher h a c
up_to_rise h a b c (inl e) g = subst (λ (z : ℕ). Higher h z c) (sym e) g
up_to_rise h a b c (inr f) g =
    <-to (solve (h a ∷ h b ∷ h c ∷ []) ((v 1 ⊖ v 0) ⊕ (v 2 ⊖ v 1)) (v 2 ⊖ v 0) tt)
    (<+≤ (h b -ℤ h a) (h c -ℤ h b) f (<→≤ (h c -ℤ h b) g))

up_to_trans : (h : ℕ → ℤ) (a b c : ℕ) → UpTo h a b → UpTo h b c → UpTo h a c
up_to_trans h a b c f (inl e) = subst (λ (z : ℕ). UpTo h a z) e f
up_to_trans h a b c f (inr g) = inr (up_to_rise h a b c f g)

up_to_least : (h : ℕ → ℤ) (a b : ℕ) → UpTo h a b → pos 0 ≤ℤ (h b -ℤ h a)
up_to_least h a b (inl e) = subst (λ (z : ℕ). pos 0 ≤ℤ (h z -ℤ h a)) e (≤-to (sym (+ℤ_invr (h a))) (at_least 0))
up_to_least h a b (inr f) = <→≤ (h b -ℤ h a) f

-- along a way whose every step leads up, or whose every step leads down
ascent : (h : ℕ → ℤ) (way : ℕ → ℕ) (k : ℕ) → ((i : ℕ) → i < k → Higher h (way i) (way (suc i)))
    → UpTo h (way 0) (way k)
ascent h way zero f = inl refl
ascent h way (suc k) f =
    up_to_trans h (way 0) (way k) (way (suc k)) (ascent h way k (λ i l. f i (omega arith))) (inr (f k (omega arith)))

descent : (h : ℕ → ℤ) (way : ℕ → ℕ) (k : ℕ) → ((i : ℕ) → i < k → Higher h (way (suc i)) (way i))
    → UpTo h (way k) (way 0)
descent h way zero f = inl refl
descent h way (suc k) f =
    up_to_trans h (way (suc k)) (way k) (way 0) (inr (f k (omega arith))) (descent h way k (λ i l. f i (omega arith)))

-- the edge between a and b reaches up to f, and f is no higher than c, where the edge from c up to d starts: what they
-- share is c, and f is c
shared_start : (h : ℕ → ℤ) (a b f c d m i j : ℕ) → 1 ≤ m → i ≤ m → UpTo h a f → UpTo h b f → UpTo h f c → Higher h c d
    → pos m *ℤ h a +ℤ pos i *ℤ (h b -ℤ h a) ≡ pos m *ℤ h c +ℤ pos j *ℤ (h d -ℤ h c)
    → (f ≡ c) × (j ≡ 0)
shared_start h a b f c d m i j m1 im af bf fc cd e = (meet fc, none j refl)
  where
    k : ℕ
    k = m - i

    whole : pos k +ℤ pos i ≡ pos m
    whole = ap pos (omega arith)

    -- m times the way up from the first edge's point to f, from f to c, and from c to the second edge's point
    to_f : ℤ
    to_f = pos k *ℤ (h f -ℤ h a) +ℤ pos i *ℤ (h f -ℤ h b)

    f_to_c : ℤ
    f_to_c = pos m *ℤ (h c -ℤ h f)

    from_c : ℤ
    from_c = pos j *ℤ (h d -ℤ h c)

    -- nothing is left between the two points
    no_gap : to_f +ℤ f_to_c +ℤ from_c ≡ pos 0
    no_gap =
        ap (λ (n : ℤ). to_f +ℤ n *ℤ (h c -ℤ h f) +ℤ from_c) (sym whole)
        ∙ solve (h a ∷ h b ∷ h f ∷ h c ∷ h d ∷ pos k ∷ pos i ∷ pos j ∷ [])
        ((v 5 ⊗ (v 2 ⊖ v 0) ⊕ v 6 ⊗ (v 2 ⊖ v 1)) ⊕ (v 5 ⊕ v 6) ⊗ (v 3 ⊖ v 2) ⊕ v 7 ⊗ (v 4 ⊖ v 3))
        (((v 5 ⊕ v 6) ⊗ v 3 ⊕ v 7 ⊗ (v 4 ⊖ v 3)) ⊖ ((v 5 ⊕ v 6) ⊗ v 0 ⊕ v 6 ⊗ (v 1 ⊖ v 0))) tt
        ∙ ap (λ (n : ℤ). (n *ℤ h c +ℤ from_c) -ℤ (n *ℤ h a +ℤ pos i *ℤ (h b -ℤ h a))) whole
        ∙ ap (λ (z : ℤ). z -ℤ (pos m *ℤ h a +ℤ pos i *ℤ (h b -ℤ h a))) (sym e)
        ∙ +ℤ_invr (pos m *ℤ h a +ℤ pos i *ℤ (h b -ℤ h a))

    to_f_least : pos 0 ≤ℤ to_f
    to_f_least =
        ≤+≤ (pos k *ℤ (h f -ℤ h a)) (pos i *ℤ (h f -ℤ h b))
        (≤*≤ (pos k) (h f -ℤ h a) (at_least k) (up_to_least h a f af))
        (≤*≤ (pos i) (h f -ℤ h b) (at_least i) (up_to_least h b f bf))

    f_to_c_least : pos 0 ≤ℤ f_to_c
    f_to_c_least = ≤*≤ (pos m) (h c -ℤ h f) (at_least m) (up_to_least h f c fc)

    from_c_least : pos 0 ≤ℤ from_c
    from_c_least = ≤*≤ (pos j) (h d -ℤ h c) (at_least j) (<→≤ (h d -ℤ h c) cd)

    meet : UpTo h f c → f ≡ c
    meet (inl q) = q
    meet (inr q) =
        absurd (<ℤ_irrefl (<-to no_gap (<+≤ (to_f +ℤ f_to_c) from_c
        (≤+< to_f f_to_c to_f_least (<*< (pos m) (h c -ℤ h f) (above m1) q)) from_c_least)))

    none : (n : ℕ) → j ≡ n → j ≡ 0
    none zero q = q
    none (suc n) q =
        absurd (<ℤ_irrefl (<-to no_gap (≤+< (to_f +ℤ f_to_c) from_c (≤+≤ to_f f_to_c to_f_least f_to_c_least)
        (<*< (pos j) (h d -ℤ h c) (above (omega arith)) cd))))

------------------------------------------------------------------------
-- TwoEdges of a path

module _ (x y : List ℕ) (d e : ℤ) where
  abbrev h : ℕ → ℤ
  h = height x y d e

  -- the first edge, between a and b, ends at f; the last goes from c to g
  path_ends : (a b f c g m i j : ℕ) → (f ≡ a) ⊎ (f ≡ b) → UpTo h a f → UpTo h b f → UpTo h f c → Higher h c g
      → SharePoint x y a b c g m i j → CommonEnd x y a b c g m i
  path_ends a b f c g m i j end af bf fc cg s =
      let meet : (f ≡ c) × (j ≡ 0) =
      shared_start h a b f c g m i j s.whole s.i_in af bf fc cg
      (sym (along-height x y d e m i a b) ∙ ap₂ (λ (p q : ℤ). d *ℤ p +ℤ e *ℤ q) s.same_x s.same_y
      ∙ along-height x y d e m j c g) in
      record {
        node = c;
        end_of_first = subst (λ (z : ℕ). (z ≡ a) ⊎ (z ≡ b)) meet.0 end;
        end_of_second = inl refl;
        at_x = s.same_x ∙ along-start x m j c g meet.1;
        at_y = s.same_y ∙ along-start y m j c g meet.1;
      }

module _ {P R : List ℕ} (tree : Tree P R) (x y : List ℕ)
    (monotone : (u w : ℕ) → u < w → w < length P → (d e : ℤ) × PathRises P x y d e u w) where
  in_either_order : (u w : ℕ) → u < length P → w < length P → u ≢ w → (d e : ℤ) × PathRises P x y d e u w
  in_either_order u w lu lw ne =
      by_lt u w (λ l. monotone u w l lw)
      (λ l. let r : (d e : ℤ) × PathRises P x y d e w u = monotone w u (omega arith) lu in
      (neg_ℤ r.0, neg_ℤ r.1, path_back P x y r.0 r.1 w u r.2))

  -- w's edge below u's: the path from u's parent down to w
  nested : (u w m i j : ℕ) → 0 < u → u < length P → w < length P → u ≢ w → under P u w ≡ true
      → SharePoint x y (parent P u) u (parent P w) w m i j → CommonEnd x y (parent P u) u (parent P w) w m i
  unfolding climb
  nested u w m i j pu lu lw ne t s = go way.0 way.2
    where
      way : (k : ℕ) × (k ≤ length P) × (climb P k w ≡ u)
      way = under_steps P u w t

      long : (k : ℕ) → climb P (suc k) w ≡ u → steps_up P w (parent P u) ≡ suc (suc k)
      long k q =
          steps_up_is tree w (parent P u) (suc (suc k)) lw (tree.inside u lu)
          (steps_under P tree.inside (climb P (suc (suc k)) w) (parent P u) 0 (tree.inside u lu)
          (ap (parent P) (sym q)))
          (λ i l. false_of (λ above_u. differ
          (under_trans tree u (climb P i w) (parent P u) (tree.inside u lu)
          (steps_under P tree.inside u (climb P i w) (suc k - i) (climb-inside P tree.inside i w lw)
          (climb_onward P (suc k) i w (omega arith) ∙ q))
          above_u)
          (not_under_child tree u pu lu)))

      go : (k : ℕ) → climb P k w ≡ u → CommonEnd x y (parent P u) u (parent P w) w m i
      go zero q = absurd (ne (sym q))
      go (suc k) q =
          let r : (d e : ℤ) × PathRises P x y d e (parent P u) w =
          in_either_order (parent P u) w (tree.inside u lu) lw
          (λ p. differ (subst (λ (z : ℕ). under P u z ≡ true) (sym p) t) (not_under_child tree u pu lu)) in
          let high = height x y r.0 r.1 in
          let down : (l : ℕ) → l < suc (suc k) → Higher high (climb P (suc l) w) (climb P l w) =
          λ l b. rises_height x y r.0 r.1 (climb P (suc l) w) (climb P l w)
          (r.2.going_down l (omega (arith, long k q))) in
          path_ends x y r.0 r.1 (parent P u) u u (parent P w) w m i j (inr refl)
          (inr (subst (λ (z : ℕ). Higher high (parent P z) z) q (down (suc k) (omega arith))))
          (inl refl)
          (subst (λ (z : ℕ). UpTo high z (parent P w)) q
          (descent high (λ (l : ℕ). climb P (suc l) w) k (λ l b. down (suc l) (omega arith))))
          (down 0 (omega arith))
          s

  -- edges neither of which is below the other: the path from u to w
  beside : (u w m i j : ℕ) → u < length P → w < length P → u ≢ w → under P u w ≡ false → under P w u ≡ false
      → SharePoint x y (parent P u) u (parent P w) w m i j → CommonEnd x y (parent P u) u (parent P w) w m i
  unfolding climb
  beside u w m i j lu lw ne f g s =
      let a : (k : ℕ) × (steps_up P u w ≡ suc k) = steps_up_some tree u w lu lw f in
      let b : (k : ℕ) × (steps_up P w u ≡ suc k) = steps_up_some tree w u lw lu g in
      let r : (d e : ℤ) × PathRises P x y d e u w = in_either_order u w lu lw ne in
      let high = height x y r.0 r.1 in
      let up : (k : ℕ) → k < suc a.0 → Higher high (climb P k u) (climb P (suc k) u) =
      λ k l. rises_height x y r.0 r.1 (climb P k u) (climb P (suc k) u) (r.2.going_up k (omega arith)) in
      let down : (k : ℕ) → k < suc b.0 → Higher high (climb P (suc k) w) (climb P k w) =
      λ k l. rises_height x y r.0 r.1 (climb P (suc k) w) (climb P k w) (r.2.going_down k (omega arith)) in
      let top : climb P (suc a.0) u ≡ climb P (suc b.0) w =
      (steps_up_siblings tree u w a.0 b.0 lu lw a.1 b.1).one_parent in
      path_ends x y r.0 r.1 (parent P u) u (parent P u) (parent P w) w m i j (inl refl) (inl refl)
      (inr (up 0 (omega arith)))
      (up_to_trans high (parent P u) (climb P (suc a.0) u) (parent P w)
      (ascent high (λ (k : ℕ). climb P (suc k) u) a.0 (λ k l. up (suc k) (omega arith)))
      (subst (λ (z : ℕ). UpTo high z (parent P w)) (sym top)
      (descent high (λ (k : ℕ). climb P (suc k) w) b.0 (λ k l. down (suc k) (omega arith)))))
      (down 0 (omega arith))
      s

  pub monotone_planar : (u w m i j : ℕ) → 0 < u → u < length P → 0 < w → w < length P → u ≢ w
      → SharePoint x y (parent P u) u (parent P w) w m i j → CommonEnd x y (parent P u) u (parent P w) w m i
  monotone_planar u w m i j pu lu pw lw ne s =
      by_test (under P u w) (λ t. nested u w m i j pu lu lw ne t s)
      (λ f. by_test (under P w u)
      (λ t. end_back s (nested w u m j i pw lw lu (λ e. ne (sym e)) t (share_back s)))
      (λ g. beside u w m i j lu lw ne f g s))

------------------------------------------------------------------------
-- A drawing whose slopes rise with the numbers

module _ {P R : List ℕ} (tree : Tree P R) {number : ℕ → ℕ} (numbering : Numbering P R number) {s : ℕ → Slope}
    (rising : Rising s (length P)) {t : ℕ → ℕ} {x y : List ℕ} (drawn : DrawnAlong P (λ z. s (number z)) t x y) where
  pub no_crossing : (u w m i j : ℕ) → 0 < u → u < length P → 0 < w → w < length P → u ≢ w
      → SharePoint x y (parent P u) u (parent P w) w m i j → CommonEnd x y (parent P u) u (parent P w) w m i
  no_crossing =
      monotone_planar tree x y
      (λ u w l lw. let r = rising_paths tree numbering rising drawn u w (omega arith) lw in (r.0, r.1, r.3))
