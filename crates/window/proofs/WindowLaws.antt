-- Laws of windows.
--
--   exact_quotient     == an f64 that holds n, divided by one that holds 2^m
--   times_side         == a position times 2^m, by f64's own product, is the whole number
--   equal_positions    == equal positions in one window, as f64 compares them, mean equal places
--   equal_points       == so does the same point
--   says_one           == there is one answer
use Rattle.std.specs.Prelude.{true, ◌≡◌, ℕ, ◌+◌, ◌-◌, ◌^◌, ◌≤◌, ◌<◌, T, leb, ltb, pos, Float}
use Rattle.std.proofs.Math.Path.{refl}
use Rattle.std.proofs.Common.{arith, leb-true, ltb-true, pow_pos}
use Rattle.std.specs.Float.{binary64}
use Rattle.std.specs.Float.Ieee.{div, mul, eq, of_int, prec}
use Rattle.std.specs.Float.Ieee.Fits.{div-fits}
use Rattle.laws.specs.Refusals.{never_both, same_refusal}
use Rattle.laws.specs.Tests.{both, differ}
use Rattle.window.specs.declared.Point.{Point}
use Rattle.window.specs.declared.View.{View}
use Rattle.window.specs.declared.View.TheVariants.{Shown, Outside, Refused}
use Rattle.window.specs.Window.{within, inside, Exact, Says}
use Rattle.window.specs.FractionLaws.{equal_values, equals_itself, one_float, quotient_exact, product_whole}

------------------------------------------------------------------------
-- Positions

pub exact_quotient : (n m : ℕ) → m ≤ prec binary64 → n < 2 ^ prec binary64
    → Exact (div binary64 (of_int binary64 (pos n)) (of_int binary64 (pos (2 ^ m)))) n m
exact_quotient n m h l =
    record {
      format = div-fits binary64 (of_int binary64 (pos n)) (of_int binary64 (pos (2 ^ m)));
      value = quotient_exact binary64 n m l h (omega arith);
    }

pub times_side : (p : Float) (n m : ℕ) → m ≤ prec binary64 → Exact p n m
    → mul binary64 p (of_int binary64 (pos (2 ^ m))) ≡ of_int binary64 (pos n)
times_side p n m h exact = product_whole binary64 p n m h exact.value

------------------------------------------------------------------------
-- Places

pub within_says : (corner side c : ℕ) → within corner side c ≡ true → (corner ≤ c) × (c < corner + side)
unfolding within
within_says corner side c e =
    let tests = both (leb corner c) (ltb c (corner + side)) e in
    (leb-true corner c tests.0, ltb-true c (corner + side) tests.1)

-- c and d in a window from `corner` on, at equal positions p and q
equal_coordinate : (corner m c d : ℕ) (p q : Float) → within corner (2 ^ m) c ≡ true → within corner (2 ^ m) d ≡ true
    → Exact p (c - corner) m → Exact q (d - corner) m → T (eq p q) → c ≡ d
equal_coordinate corner m c d p q i j v w same =
    let distances = equal_values p q (c - corner) (d - corner) (2 ^ m) same v.value w.value in
    let from = (within_says corner (2 ^ m) c i).0 in
    let to = (within_says corner (2 ^ m) d j).0 in
    omega arith

module _ (most a b m : ℕ) where
  pub equal_positions : (x y x' y' : ℕ) (p q : Point) → Says most x y a b m (Shown p) → Says most x' y' a b m (Shown q)
      → T (eq p.across q.across) → T (eq p.up q.up) → (x ≡ x') × (y ≡ y')
  unfolding Says inside
  equal_positions x y x' y' p q one other across up =
      let i = both (within a (2 ^ m) x) (within b (2 ^ m) y) one.shown in
      let j = both (within a (2 ^ m) x') (within b (2 ^ m) y') other.shown in (
        equal_coordinate a m x x' _ _ i.0 j.0 one.across other.across across,
        equal_coordinate b m y y' _ _ i.1 j.1 one.up other.up up,
      )

  pub equal_points : (x y x' y' : ℕ) (p : Point) → Says most x y a b m (Shown p) → Says most x' y' a b m (Shown p)
      → (x ≡ x') × (y ≡ y')
  unfolding Says
  equal_points x y x' y' p one other =
      equal_positions x y x' y' p p one other
      (equals_itself p.across (x - a) (2 ^ m) one.across.value)
      (equals_itself p.up (y - b) (2 ^ m) one.up.value)

------------------------------------------------------------------------
-- Answers

one_position : (p q : Float) (n m : ℕ) → Exact p n m → Exact q n m → p ≡ q
one_position p q n m v w = one_float binary64 p q n (2 ^ m) (pow_pos m) v.format w.format v.value w.value

module _ (most x y a b m : ℕ) where
  pub says_one : (r s : View) → Says most x y a b m r → Says most x y a b m s → r ≡ s
  unfolding Says
  says_one (Shown p) (Shown q) h k =
      let across = one_position p.across q.across (x - a) m h.across k.across in
      let up = one_position p.up q.up (y - b) m h.up k.up in
      λ i. Shown (record { across = across i; up = up i })
  says_one (Shown p) Outside h k = absurd (differ h.shown k.1)
  says_one (Shown p) (Refused j v) h k = absurd (never_both h.accepted k)
  says_one Outside (Shown q) h k = absurd (differ k.shown h.1)
  says_one Outside Outside h k = refl
  says_one Outside (Refused j v) h k = absurd (never_both h.0 k)
  says_one (Refused j v) (Shown q) h k = absurd (never_both k.accepted h)
  says_one (Refused j v) Outside h k = absurd (never_both k.0 h)
  says_one (Refused j v) (Refused l w) h k = same_refusal Refused h k
