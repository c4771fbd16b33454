-- The laws of neighbouring slopes.
--
--   bordered_stride         == of k + d levels every 2^d-th fraction is one of k levels
--   neighbours_sum          == a fraction's two neighbours sum to 2 t + 1 times it, if its position ends in t zeros
use Rattle.std.specs.Prelude.{List, [], ◌∷◌, ◌≡◌, refl, get_or}
use Rattle.std.proofs.Math.Path.{sym, ap}
use Rattle.std.proofs.Common.{ap₂, ◌∙◌, mul-le-mul_right, pow-add, get_or-append-add}
use Prim.Native.Nat.{ℕ, zero, suc, ◌+◌, ◌-◌, ◌*◌, ◌^◌, ◌≤◌, ◌<◌}
use Rattle.std.proofs.Math.Nat.{pow-suc}
use native.Mathlib.Omega.{arith}
use Rattle.std.specs.Int.Count.{count_trailing_zeros}
use Rattle.std.proofs.Math.ListN.{length, get_or-append, get_or-eq_default}
use Rattle.std.proofs.Math.Pow.{pow_pos}
use Rattle.std.proofs.Math.Seq.{get_or_at}
use Rattle.laws.specs.Tests.{by_lt}
use Rattle.slopes.specs.declared.Rule.{Rule}
use Rattle.slopes.specs.declared.Rule.TheVariants.{Steep, Balanced}
use Rattle.slopes.specs.declared.Slope.{Slope}
use Rattle.slopes.proofs.Descent.{Ends, trailing_ends, by_position}
use Rattle.slopes.proofs.LevelLaws.{levels-length, Part, across_part, up_part}
use Rattle.slopes.proofs.SlopeLaws.{levels_for_enough, slope_size}
use Rattle.slopes.specs.Slopes.{across_of, up_of, ◌⊕◌, levels, flat, upright, fraction_at, levels_for}
use Rattle.slopes.specs.Slopes.{slope_at}
use Rattle.slopes.specs.Neighbours.{Neighbours, bordered, bordered_at, multiple, steep}

------------------------------------------------------------------------
-- Places

-- within a list the default doesn't matter
get_d_any : (ss : List Slope) (i : ℕ) (d e : Slope) → i < length ss → get_or ss i d ≡ get_or ss i e
get_d_any [] i d e h = absurd (omega arith)
get_d_any (s ∷ ss) zero d e h = refl
get_d_any (s ∷ ss) (suc i) d e h = get_d_any ss i d e (omega arith)

module _ (k : ℕ) (l r : Slope) where
  bordered_left : (j : ℕ) → j ≤ 2 ^ k → bordered (suc k) l r j ≡ bordered k l (l ⊕ r) j
  unfolding levels
  bordered_left j h =
      let m = l ⊕ r in
      let long = levels-length k l (l ⊕ r) in
      by_lt j (2 ^ k)
      (λ b. get_or-append (l ∷ levels k l m) (m ∷ levels k m r) r j (omega arith)
      ∙ get_d_any (l ∷ levels k l m) j r m (omega arith))
      (λ b. get_or_at (l ∷ levels k l m) m (levels k m r) r j (omega arith)
      ∙ sym (get_or-eq_default (l ∷ levels k l m) m {n = j} (omega arith)))

  bordered_right : (i : ℕ) → bordered (suc k) l r (2 ^ k + i) ≡ bordered k (l ⊕ r) r i
  unfolding levels
  bordered_right i =
      let m = l ⊕ r in
      let e : 2 ^ k + i ≡ length (l ∷ levels k l (l ⊕ r)) + i = omega (arith, levels-length k l (l ⊕ r)) in
      rw e (get_or-append-add (l ∷ levels k l m) (m ∷ levels k m r) i r)

bordered_end : (k : ℕ) (l r : Slope) (j : ℕ) → j ≡ 2 ^ k → bordered k l r j ≡ r
bordered_end k l r j e = get_or-eq_default (l ∷ levels k l r) r {n = j} (omega (arith, levels-length k l r))

pub bordered_stride : (k d : ℕ) (l r : Slope) (j : ℕ) → j ≤ 2 ^ k → bordered (k + d) l r (j * 2 ^ d) ≡ bordered k l r j
unfolding levels
bordered_stride zero d l r zero h = let none : 0 * 2 ^ d ≡ 0 = omega arith in rw none
bordered_stride zero d l r (suc j) h =
    let e : suc j ≡ 1 = omega arith in
    let none : 0 + d ≡ d = omega arith in
    rw e (rw none (bordered_end d l r (1 * 2 ^ d) (omega arith)))
bordered_stride (suc k) d l r j h =
    let more : suc k + d ≡ suc (k + d) = omega arith in
    let power = pow-add 2 k d in
    by_lt (2 ^ k) j
    (λ b. let i = j - 2 ^ k in
    let here : j ≡ 2 ^ k + i = omega arith in
    let at : j * 2 ^ d ≡ 2 ^ (k + d) + i * 2 ^ d = ap (λ m. m * 2 ^ d) here ∙ omega (arith, power) in
    rw (more, at, bordered_right (k + d) l r (i * 2 ^ d), bordered_stride k d (l ⊕ r) r i (omega (arith, pow-suc 2 k)))
    (sym (ap (bordered (suc k) l r) here ∙ bordered_right k l r i)))
    (λ b. let within : j * 2 ^ d ≤ 2 ^ (k + d) = rw power (mul-le-mul_right (2 ^ d) b) in
    rw (more, bordered_left (k + d) l r (j * 2 ^ d) within, bordered_stride k d l (l ⊕ r) j b)
    (sym (bordered_left k l r j b)))

------------------------------------------------------------------------
-- Sums of neighbours

module _ (f : Slope → ℕ) (part : Part f) where
  first_between : (k : ℕ) (l r : Slope) → f (bordered k l r 1) ≡ f r + k * f l
  unfolding levels
  first_between zero l r = omega arith
  first_between (suc k) l r =
      ap f (bordered_left k l r 1 (omega (arith, pow_pos k)))
      ∙ omega (arith, first_between k l (l ⊕ r), part.adds l r)

  last_between : (k : ℕ) (l r : Slope) → f (bordered k l r (2 ^ k - 1)) ≡ f l + k * f r
  unfolding levels
  last_between zero l r = omega arith
  last_between (suc k) l r =
      let e : 2 ^ suc k - 1 ≡ 2 ^ k + (2 ^ k - 1) = omega (arith, pow-suc 2 k, pow_pos k) in
      ap (λ j. f (bordered (suc k) l r j)) e ∙ ap f (bordered_right k l r (2 ^ k - 1))
      ∙ omega (arith, last_between k (l ⊕ r) r, part.adds l r)

  abbrev Summed : ℕ → Slope → Slope → ℕ → ℕ → Type 0
  Summed k l r t j = f (bordered k l r (j - 1)) + f (bordered k l r (suc j)) ≡ (2 * t + 1) * f (bordered k l r j)

  summed_middle : (k : ℕ) (l r : Slope) → Summed (suc k) l r k (2 ^ k)
  summed_middle k l r =
      let m = l ⊕ r in
      let one : suc (2 ^ k) ≡ 2 ^ k + 1 = omega arith in
      let none : 2 ^ k ≡ 2 ^ k + 0 = omega arith in
      let before = ap f (bordered_left k l r (2 ^ k - 1) (omega arith)) ∙ last_between k l (l ⊕ r) in
      let after = ap (λ j. f (bordered (suc k) l r j)) one ∙ ap f (bordered_right k l r 1)
      ∙ first_between k (l ⊕ r) r in
      let here : f (bordered (suc k) l r (2 ^ k)) ≡ f (l ⊕ r) =
      ap (λ j. f (bordered (suc k) l r j)) none ∙ ap f (bordered_right k l r 0) in
      rw (before, after, here) (omega (arith, part.adds l r))

  summed_left : (k : ℕ) (l r : Slope) (t j : ℕ) → j < 2 ^ k → Summed k l (l ⊕ r) t j → Summed (suc k) l r t j
  summed_left k l r t j h s =
      rw (
        bordered_left k l r (j - 1) (omega arith),
        bordered_left k l r (suc j) (omega arith),
        bordered_left k l r j (omega arith),
      ) s

  summed_right : (k : ℕ) (l r : Slope) (t j : ℕ) → 1 ≤ j → Summed k (l ⊕ r) r t j → Summed (suc k) l r t (2 ^ k + j)
  summed_right k l r t j h s =
      let before : 2 ^ k + j - 1 ≡ 2 ^ k + (j - 1) = omega arith in
      let after : suc (2 ^ k + j) ≡ 2 ^ k + suc j = omega arith in
      rw (before, after, bordered_right k l r (j - 1), bordered_right k l r (suc j), bordered_right k l r j) s

  pub neighbours_sum : (k t j : ℕ) (l r : Slope) → Ends j t → j < 2 ^ k → Summed k l r t j
  neighbours_sum k t j l r q h =
      by_position t j (λ i p. (l r : Slope) → Summed i l r t p) q
      (summed_middle t)
      (λ i p more some less one on l r. summed_right i l r t p some (on (l ⊕ r) r))
      (λ i p more some less other on l r. summed_left i l r t p less (on l (l ⊕ r)))
      k h l r

pub bordered_is : (k j : ℕ) → 1 ≤ j → j < 2 ^ k → bordered k flat upright j ≡ fraction_at k j
bordered_is k j h g =
    let e : j ≡ suc (j - 1) = omega arith in
    ap (bordered k flat upright) e
    ∙ get_d_any (levels k flat upright) (j - 1) upright flat (omega (arith, levels-length k flat upright))

pub bordered_last : (k j : ℕ) → j ≡ 2 ^ k → bordered k flat upright j ≡ upright
bordered_last k = bordered_end k flat upright

-- the slopes themselves
pub bordered_slope : (rule : Rule) (n j : ℕ) → 1 ≤ j → j < n → bordered_at rule n j ≡ slope_at rule n j
unfolding bordered_at slope_at
bordered_slope Steep n j h g = refl
bordered_slope Balanced n j h g = bordered_is (levels_for n) j h (omega (arith, levels_for_enough n))

pub neighbours_slope : {rule : Rule} {n j : ℕ} {s t : Slope} → Neighbours rule n j s t → 1 ≤ j → j < n
    → s ≡ slope_at rule n j
neighbours_slope {rule} {n} {j} x h g = x.here ∙ bordered_slope rule n j h g

pub bordered-size : (rule : Rule) (n j : ℕ) → j < n
    → ((bordered_at rule n j).across ≤ n) × ((bordered_at rule n j).up ≤ n)
unfolding bordered_at
bordered-size Steep n j h = (omega arith, omega arith)
bordered-size Balanced n zero h = (omega arith, omega arith)
bordered-size Balanced n (suc j) h =
    let size = slope_size Balanced n (suc j) (omega arith) h in
    rw (bordered_slope Balanced n (suc j) (omega arith) h) (omega arith, omega arith)

------------------------------------------------------------------------
-- One step back

-- the next after the slope before is the slope itself
before_same : {rule : Rule} {n j : ℕ} {s t u : Slope} → Neighbours rule n j s t → 1 ≤ j
    → u ≡ bordered_at rule n (j - 1) → Neighbours rule n (j - 1) u s
before_same {rule} {n} x some e = record { here = e; after = x.here ∙ ap (bordered_at rule n) (omega arith) }

pub steep-step : {rule : Rule} {n j : ℕ} {s t u : Slope} → rule ≡ Steep → Neighbours rule n j s t → 1 ≤ j
    → u ≡ steep (j - 1) → Neighbours rule n (j - 1) u s
unfolding bordered_at
steep-step told x some is = before_same x some (rw told is)

module _ {rule : Rule} {n j : ℕ} {s t : Slope} (told : rule ≡ Balanced) (x : Neighbours rule n j s t) (some : 1 ≤ j)
    (low : j < n)
    (few : n < 2 ^ 32) where
  before_is : (f : Slope → ℕ) → Part f → multiple j * f s ≡ f (bordered_at rule n (j - 1)) + f t
  unfolding bordered_at
  before_is f part =
      rw (x.here, x.after, told)
      (sym (neighbours_sum f part (levels_for n) (count_trailing_zeros 32 j) j flat upright
      (trailing_ends 32 j some (omega arith)) (omega (arith, levels_for_enough n))))

  pub fits_across : {m : ℕ} → m ≡ multiple j → (t.across ≤ m * s.across) × (m * s.across - t.across < 2 ^ 32)
  fits_across e =
      let is = before_is across_of across_part in
      rw e (omega arith, omega (arith, (bordered-size rule n (j - 1) (omega arith)).0))

  pub fits_up : {m : ℕ} → m ≡ multiple j → (t.up ≤ m * s.up) × (m * s.up - t.up < 2 ^ 32)
  fits_up e =
      let is = before_is up_of up_part in
      rw e (omega arith, omega (arith, (bordered-size rule n (j - 1) (omega arith)).1))

  pub balanced-step : {m a b : ℕ} → m ≡ multiple j → a ≡ m * s.across - t.across → b ≡ m * s.up - t.up
      → Neighbours rule n (j - 1) (record { across = a; up = b }) s
  balanced-step e p q =
      before_same x some
      (ap₂ (λ (a b : ℕ). record { across = a; up = b })
      (p ∙ ap (λ i. i * s.across - t.across) e ∙ omega (arith, before_is across_of across_part))
      (q ∙ ap (λ i. i * s.up - t.up) e ∙ omega (arith, before_is up_of up_part)))
