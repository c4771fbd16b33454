-- Screen windows (document 02, request 103; refusal 18).
--
--   greatest            == the greatest exponent that a window may have, 31
--   within corner side c
--                       == the coordinate c lies in a window of this side: corner ≤ c < corner + side
--   inside x y a b m    == in one of side 2^m x does, from the corner's a on, and y, from its b on
--   Exact p n m         == the f64 p times 2^m is the whole number n
--   side_fault most m    == refusal 18: the exponent m is above `most`
--   Shows most .. p     == the window of side 2^m at the corner (a, b) shows the place (x, y), and at the point p
--   Says most .. r      == r is what it answers: shown, outside or 18
use Rattle.std.specs.Prelude.{Bool, true, false, ◌&&◌, ◌≡◌, ℕ, ◌+◌, ◌-◌, ◌^◌, T, leb, ltb, Float}
use Rattle.std.proofs.Math.Option.{Option, none, some}
use Rattle.std.specs.Float.{binary64}
use Rattle.std.specs.Float.Ieee.{fits}
use Rattle.std.specs.Float.Ieee.Exact.{HasValue}
use Rattle.laws.specs.Search.{Refusal, refuse}
use Rattle.window.specs.declared.Point.{Point}
use Rattle.window.specs.declared.View.{View}
use Rattle.window.specs.declared.View.TheVariants.{Shown, Outside, Refused}

abbrev pub greatest : ℕ
greatest = 31

unfoldable pub within : ℕ → ℕ → ℕ → Bool
within corner side c = leb corner c && ltb c (corner + side)

unfoldable pub inside : ℕ → ℕ → ℕ → ℕ → ℕ → Bool
inside x y a b m = within a (2 ^ m) x && within b (2 ^ m) y

-- `format`: the float is one of the format's, written in the one way; `value`: it is finite, has the sign plus, and is
-- n / 2^m
pub record Exact (p : Float) (n m : ℕ) : Type 0 where
  pub format : T (fits binary64 p)
  pub value : HasValue p false n (2 ^ m)

abbrev pub side_fault : ℕ → ℕ → Option Refusal
side_fault most m = refuse (ltb most m) 18 0

module _ (most x y a b m : ℕ) where
  pub record Shows (p : Point) : Type 0 where
    pub accepted : side_fault most m ≡ none
    pub shown : inside x y a b m ≡ true
    pub across : Exact p.across (x - a) m
    pub up : Exact p.up (y - b) m

  unfoldable pub Says : View → Type 0
  Says (Shown p) = Shows p
  Says Outside = (side_fault most m ≡ none) × (inside x y a b m ≡ false)
  Says (Refused k v) = side_fault most m ≡ some (record { number = k; node = v })
