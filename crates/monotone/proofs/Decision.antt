-- The check by computation: a function that meets the meaning of the check on all inputs, so that the meaning has an
-- answer, and exactly one. It takes every pair's path by itself.
--
--   Span                    == no vector, the two sides of a cone, or vectors that no half plane holds
--   widen s u, span us      == a span with one vector more, and that of a list
--   path_vectors P x y u v   == the vectors of the tree path from u to v
--   turns_at P x y u v       == u < v, and the pair has no direction
--   decide L ..             == the answer
use Rattle.std.specs.Prelude.{Bool, true, false, cond, not, ◌&&◌, ◌||◌, ◌≡◌, refl, T, ℤ, pos, ◌<ℤ◌, ◌≤ℤ◌}
use mathlib.Core.List.{List, [], ◌∷◌}
use Rattle.std.proofs.Math.Logic.{⊎_elim}
use Rattle.std.proofs.Math.Option.{Option, none, some}
use Rattle.std.proofs.Common.{subst, arith}
use Rattle.std.proofs.Math.Path.{subst⁻¹}
use Prim.Native.Nat.{ℕ, zero, suc, ◌≤◌, ◌<◌}
use Rattle.std.proofs.Math.Dec.{ltb}
use Rattle.std.proofs.Math.ListN.{length}
use Rattle.std.specs.Int.Signed.{lt_z, lt_z_yes, lt_z_no}
use borrow.Author.Tests.{ltb-true, ltb-false, lt-ltb, not-true}
use Rattle.laws.specs.Search.{least, Refusal}
use Rattle.laws.specs.SearchLaws.{least_below, least_passes, least-none}
use Rattle.laws.specs.Signs.{≤≥}
use Rattle.laws.specs.Tests.{by_test, by_eq, both, both_is, differ, neither}
use Rattle.table.specs.declared.Limits.{Limits}
use Rattle.table.specs.Table.{climb, steps_up}
use Rattle.monotone.specs.declared.Verdict.{Verdict}
use Rattle.monotone.specs.declared.Verdict.TheVariants.{Monotone, Turns, Refused}
use Rattle.monotone.specs.Monotone.{HasDirection, FirstTurn, check_fault, Says}
use Rattle.monotone.specs.PathEdges.{hop}
use Rattle.monotone.specs.Plane.{Vec, cross, dot, Ahead, AllAhead, HasHalfPlane, Cone, cone_open, cone_first}
use Rattle.monotone.specs.Plane.{zero-none, none_more, high, low, keep_high, keep_low, keep_along, against_low}
use Rattle.monotone.specs.Plane.{against_high, against_along}

------------------------------------------------------------------------
-- Vectors and half planes

pub data Span : Type 0 where
  no_vector : Span
  between : Vec → Vec → Span
  never : Span

abbrev is_zero : Vec → Bool
is_zero u = not (lt_z u.across (pos 0) || lt_z (pos 0) u.across) && not (lt_z u.up (pos 0) || lt_z (pos 0) u.up)

unfoldable pub widen : Span → Vec → Span
widen no_vector u = cond (is_zero u) never (between u u)
widen never u = never
widen (between lo hi) u =
    cond (lt_z (pos 0) (cross lo u)) (cond (lt_z (cross u hi) (pos 0)) (between lo u) (between lo hi))
    (cond (lt_z (pos 0) (cross u hi)) (cond (lt_z (cross lo u) (pos 0)) (between u hi) (between lo hi))
    (cond (lt_z (cross lo u) (pos 0)) never
    (cond (lt_z (cross u hi) (pos 0)) never
    (cond (lt_z (pos 0) (dot lo u)) (between lo hi) never))))

unfoldable pub span : List Vec → Span
span [] = no_vector
span (u ∷ us) = widen (span us) u

abbrev SpanOf : Span → List Vec → Type 0
SpanOf no_vector us = us ≡ []
SpanOf (between lo hi) us = Cone lo hi us
SpanOf never us = HasHalfPlane us → ⊥

module _ {a b : ℤ} where
  less : lt_z a b ≡ true → a <ℤ b
  less e = lt_z_yes (subst⁻¹ T e tt)

  least_is : lt_z a b ≡ false → b ≤ℤ a
  least_is e = lt_z_no (subst⁻¹ (λ (t : Bool). T (not t)) e tt)

zero_test : (z : ℤ) → not (lt_z z (pos 0) || lt_z (pos 0) z) ≡ true → z ≡ pos 0
zero_test z t =
    let n = neither (lt_z z (pos 0)) (lt_z (pos 0) z) (not-true _ t) in
    ≤≥ z (least_is n.1) (least_is n.0)

test_zero : (z : ℤ) → z ≡ pos 0 → not (lt_z z (pos 0) || lt_z (pos 0) z) ≡ true
test_zero z e = subst⁻¹ (λ (y : ℤ). not (lt_z y (pos 0) || lt_z (pos 0) y) ≡ true) e refl

widen_of : (s : Span) (u : Vec) (us : List Vec) → SpanOf s us → SpanOf (widen s u) (u ∷ us)
unfolding widen
widen_of no_vector u us e = by_test (is_zero u)
    (λ t. rw t (let z = both _ _ t in zero-none u (zero_test u.across z.0) (zero_test u.up z.1)))
    (λ t. rw t (subst⁻¹ (λ (l : List Vec). Cone u u (u ∷ l)) e
    (cone_first u (λ h. differ (both_is (test_zero u.across h.0) (test_zero u.up h.1)) t))))
widen_of never u us f = none_more u f
widen_of (between lo hi) u us c = by_test (lt_z (pos 0) (cross lo u))
    (λ p. rw p (by_test (lt_z (cross u hi) (pos 0))
    (λ q. rw q (high u c (less p) (less q)))
    (λ q. rw q (keep_high u c (less p) (least_is q)))))
    (λ p. rw p (by_test (lt_z (pos 0) (cross u hi))
    (λ q. rw q (by_test (lt_z (cross lo u) (pos 0))
    (λ r. rw r (low u c (less q) (less r)))
    (λ r. rw r (keep_low u c (less q) (least_is r)))))
    (λ q. rw q (by_test (lt_z (cross lo u) (pos 0))
    (λ r. rw r (against_low u c (less r) (least_is q)))
    (λ r. rw r (by_test (lt_z (cross u hi) (pos 0))
    (λ s. rw s (against_high u c (least_is p) (less s)))
    (λ s. rw s (by_test (lt_z (pos 0) (dot lo u))
    (λ t. rw t (keep_along u c (≤≥ _ (least_is p) (least_is r)) (≤≥ _ (least_is q) (least_is s)) (less t)))
    (λ t. rw t (against_along u c (≤≥ _ (least_is p) (least_is r)) (≤≥ _ (least_is q) (least_is s))
    (least_is t)))))))))))

pub span_of : (us : List Vec) → SpanOf (span us) us
unfolding span
span_of [] = refl
span_of (u ∷ us) = widen_of (span us) u us (span_of us)

abbrev is_never : Span → Bool
is_never no_vector = false
is_never (between lo hi) = false
is_never never = true

never_none : (s : Span) (us : List Vec) → SpanOf s us → is_never s ≡ true → HasHalfPlane us → ⊥
never_none no_vector us o e = absurd (differ e refl)
never_none (between lo hi) us o e = absurd (differ e refl)
never_none never us o e = o

else_some : (s : Span) (us : List Vec) → SpanOf s us → is_never s ≡ false → HasHalfPlane us
else_some no_vector us o e =
    subst⁻¹ HasHalfPlane o (record { direction = record { across = pos 0; up = pos 0 }; ahead = tt })
else_some (between lo hi) us o e = cone_open o
else_some never us o e = absurd (differ refl e)

------------------------------------------------------------------------
-- Paths

-- the first k edges up from u, and the last k down to v, before the vectors us
unfoldable pub upward : List ℕ → List ℕ → List ℕ → ℕ → ℕ → List Vec → List Vec
upward P x y zero u us = us
upward P x y (suc k) u us = hop x y (climb P k u) (climb P (suc k) u) ∷ upward P x y k u us

unfoldable pub downward : List ℕ → List ℕ → List ℕ → ℕ → ℕ → List Vec → List Vec
downward P x y zero v us = us
downward P x y (suc k) v us = hop x y (climb P (suc k) v) (climb P k v) ∷ downward P x y k v us

unfoldable pub path_vectors : List ℕ → List ℕ → List ℕ → ℕ → ℕ → List Vec
path_vectors P x y u v = upward P x y (steps_up P u v) u (downward P x y (steps_up P v u) v [])

module _ (P x y : List ℕ) (d : Vec) where
  -- a predicate that holds below k and at k
  one_more : (Q : ℕ → Type 0) (k : ℕ) → ((i : ℕ) → i < k → Q i) → Q k → (i : ℕ) → i < suc k → Q i
  one_more Q k below here i l = by_eq i k (λ e. subst⁻¹ Q e here) (λ ne. below i (omega arith))

  up_all : (k u : ℕ) (us : List Vec) → AllAhead d (upward P x y k u us)
      → ((i : ℕ) → i < k → Ahead d (hop x y (climb P i u) (climb P (suc i) u))) × AllAhead d us
  unfolding upward
  up_all zero u us a = (λ i l. absurd (omega arith), a)
  up_all (suc k) u us a =
      let r = up_all k u us a.1 in
      (one_more (λ i. Ahead d (hop x y (climb P i u) (climb P (suc i) u))) k r.0 a.0, r.1)

  all_up : (k u : ℕ) (us : List Vec) → ((i : ℕ) → i < k → Ahead d (hop x y (climb P i u) (climb P (suc i) u)))
      → AllAhead d us
      → AllAhead d (upward P x y k u us)
  unfolding upward
  all_up zero u us f a = a
  all_up (suc k) u us f a = (f k (omega arith), all_up k u us (λ i l. f i (omega arith)) a)

  down_all : (k v : ℕ) (us : List Vec) → AllAhead d (downward P x y k v us)
      → (j : ℕ) → j < k → Ahead d (hop x y (climb P (suc j) v) (climb P j v))
  unfolding downward
  down_all zero v us a = λ j l. absurd (omega arith)
  down_all (suc k) v us a =
      one_more (λ j. Ahead d (hop x y (climb P (suc j) v) (climb P j v))) k (down_all k v us a.1) a.0

  all_down : (k v : ℕ) (us : List Vec) → ((j : ℕ) → j < k → Ahead d (hop x y (climb P (suc j) v) (climb P j v)))
      → AllAhead d us
      → AllAhead d (downward P x y k v us)
  unfolding downward
  all_down zero v us f a = a
  all_down (suc k) v us f a = (f k (omega arith), all_down k v us (λ j l. f j (omega arith)) a)

module _ (P x y : List ℕ) (u v : ℕ) where
  has_direction : HasHalfPlane (path_vectors P x y u v) → HasDirection P x y u v
  unfolding path_vectors
  has_direction h =
      let d : Vec = h.direction in
      let r = up_all P x y d (steps_up P u v) u (downward P x y (steps_up P v u) v []) h.ahead in
      record {
        d = d.across;
        e = d.up;
        rises = record {
          going_up = λ i l. record { above_0 = r.0 i l };
          going_down = λ j l. record { above_0 = down_all P x y d (steps_up P v u) v [] r.1 j l };
        };
      }

  has_half_plane : HasDirection P x y u v → HasHalfPlane (path_vectors P x y u v)
  unfolding path_vectors
  has_half_plane h =
      let d : Vec = record { across = h.d; up = h.e } in
      record {
        direction = d;
        ahead = all_up P x y d (steps_up P u v) u (downward P x y (steps_up P v u) v [])
            (λ i l. (h.rises.going_up i l).above_0)
            (all_down P x y d (steps_up P v u) v [] (λ j l. (h.rises.going_down j l).above_0) tt);
      }

------------------------------------------------------------------------
-- The first pair

unfoldable pub turns_at : List ℕ → List ℕ → List ℕ → ℕ → ℕ → Bool
turns_at P x y u v = ltb u v && is_never (span (path_vectors P x y u v))

-- the first second node of u's pairs, and the first first node
unfoldable pub second_node : List ℕ → List ℕ → List ℕ → ℕ → ℕ
second_node P x y u = least (turns_at P x y u) (length P)

unfoldable pub first_node : List ℕ → List ℕ → List ℕ → ℕ
first_node P x y = least (λ u. ltb (second_node P x y u) (length P)) (length P)

abbrev found : List ℕ → List ℕ → List ℕ → ℕ → Verdict
found P x y u = cond (ltb u (length P)) (Turns u (second_node P x y u)) Monotone

abbrev answer : Option Refusal → Verdict → Verdict
answer none r = r
answer (some f) r = Refused f.number f.node

unfoldable pub decide : Limits → List ℕ → List ℕ → List ℕ → List ℕ → ℕ → Verdict
decide L P R x y work = answer (check_fault L P R x y work) (found P x y (first_node P x y))

module _ (P x y : List ℕ) where
  turns_none : (u v : ℕ) → turns_at P x y u v ≡ true → (u < v) × (HasDirection P x y u v → ⊥)
  unfolding turns_at
  turns_none u v t =
      let b = both (ltb u v) _ t in
      let us = path_vectors P x y u v in
      (ltb-true u v b.0, λ h. never_none (span us) us (span_of us) b.1 (has_half_plane P x y u v h))

  else_directed : (u v : ℕ) → u < v → turns_at P x y u v ≡ false → HasDirection P x y u v
  unfolding turns_at
  else_directed u v l t = has_direction P x y u v (by_test (is_never (span (path_vectors P x y u v)))
      (λ n. absurd (differ (both_is (lt-ltb u v l) n) t))
      (λ n. else_some (span (path_vectors P x y u v)) _ (span_of (path_vectors P x y u v)) n))

  -- every pair of a first node before the first one has a direction
  row_directed : (u v : ℕ) → u < first_node P x y → u < v → v < length P → HasDirection P x y u v
  unfolding first_node second_node
  row_directed u v h l k =
      else_directed u v l (least-none (turns_at P x y u) (length P)
      (ltb-false _ _ (least_below (λ u. ltb (second_node P x y u) (length P)) (length P) u h)) v k)

  second_in : first_node P x y < length P → second_node P x y (first_node P x y) < length P
  unfolding first_node
  second_in l = ltb-true _ _ (least_passes (λ u. ltb (second_node P x y u) (length P)) (length P) l)

  second_turns : (u : ℕ) → second_node P x y u < length P → turns_at P x y u (second_node P x y u) ≡ true
  unfolding second_node
  second_turns u l = least_passes (turns_at P x y u) (length P) l

  before : (u b : ℕ) → u < b → b < second_node P x y u → HasDirection P x y u b
  unfolding second_node
  before u b h l = else_directed u b h (least_below (turns_at P x y u) (length P) b l)

  found_right : (L : Limits) (R : List ℕ) (work : ℕ) → check_fault L P R x y work ≡ none
      → Says L P R x y work (found P x y (first_node P x y))
  unfolding Says
  found_right L R work ok = by_test (ltb (first_node P x y) (length P))
      (λ t. rw t (ok, first_turn (ltb-true _ _ t)))
      (λ t. rw t (
        ok,
        record {
          directed = λ u v l k.
              let all : length P ≤ first_node P x y = ltb-false (first_node P x y) (length P) t in
              row_directed u v (omega arith) l k;
        },
      ))
    where
      first_turn : first_node P x y < length P → FirstTurn P x y (first_node P x y) (second_node P x y (first_node P x y))
      first_turn l =
          let u : ℕ = first_node P x y in
          let v : ℕ = second_node P x y (first_node P x y) in
          let k : second_node P x y (first_node P x y) < length P = second_in l in
          let t = turns_none u v (second_turns u k) in
          record {
            ordered = t.0;
            inside = k;
            turns = t.1;
            earlier = λ a b h i. ⊎_elim (λ e. row_directed a b e h i)
                (λ e. subst⁻¹ (λ (c : ℕ). HasDirection P x y c b) e.0
                (before u b (subst (λ (c : ℕ). c < b) e.0 h) e.1));
          }

pub decide_says : (L : Limits) (P R x y : List ℕ) (work : ℕ) → Says L P R x y work (decide L P R x y work)
unfolding decide Says
decide_says L P R x y work = by (check_fault L P R x y work) refl
  where
    by : (o : Option Refusal) → check_fault L P R x y work ≡ o
        → Says L P R x y work (answer o (found P x y (first_node P x y)))
    by none e = found_right P x y L R work e
    by (some f) e = e
