-- Places within the limit, and the edges' parts that they give.
use mathlib.Core.Bool.{true, false}
use mathlib.Core.List.{List}
use mathlib.Core.Path.{◌≡◌}
use Prim.Native.Nat.{ℕ, ◌+◌, ◌≤◌, ◌<◌}
use native.Mathlib.Omega.{arith}
use lib.Dec.{ltb}
use lib.ListN.{length, get_or}
use borrow.Author.Tests.{lt-ltb, le-ltb, ltb-false}
use Rattle.laws.specs.Regions.{Only}
use Rattle.laws.specs.Tests.{either_first, either_second, neither, neither_is}
use Rattle.table.specs.Table.{parent}
use Rattle.monotone.specs.Monotone.{place_beyond}
use Rattle.monotone.specs.Cones.{Part}
use Rattle.monotone.specs.Parts.{NearPlaces, DrawnPart}

------------------------------------------------------------------------
-- Beyond the limit

module _ (place : ℕ) (x y : List ℕ) (v : ℕ) where
  pub beyond_across : place < get_or x v 0 → place_beyond place x y v ≡ true
  unfolding place_beyond
  beyond_across h = either_first _ _ (lt-ltb place (get_or x v 0) h)

  pub beyond_up : place < get_or y v 0 → place_beyond place x y v ≡ true
  unfolding place_beyond
  beyond_up h = either_second (ltb place (get_or x v 0)) _ (lt-ltb place (get_or y v 0) h)

  pub within : get_or x v 0 ≤ place → get_or y v 0 ≤ place → place_beyond place x y v ≡ false
  unfolding place_beyond
  within h k = neither_is (le-ltb place (get_or x v 0) h) (le-ltb place (get_or y v 0) k)

  pub both-within : place_beyond place x y v ≡ false → (get_or x v 0 ≤ place) × (get_or y v 0 ≤ place)
  unfolding place_beyond
  both-within e = let n = neither _ _ e in (ltb-false place (get_or x v 0) n.0, ltb-false place (get_or y v 0) n.1)

------------------------------------------------------------------------
-- Parts of the edges, written from node 0 up to z

pub record Offsetting (P c : List ℕ) (at z : ℕ) (W X : List ℕ) : Type 0 where
  pub most : z ≤ length P
  pub drawn : (w : ℕ) → w < z → get_or X (at + w) 0 + get_or c (parent P w) 0 ≡ get_or c w 0 + 2147483648
  pub only : Only at (at + length P) W X

-- the parts are small
pub drawn_small : {P c : List ℕ} {at : ℕ} {W : List ℕ} → NearPlaces P c → DrawnPart P c at W
    → (z : ℕ) → z < length P → Part (get_or W (at + z) 0)
drawn_small {P} {c} k d z l = record {
  least = omega (arith, d.drawn z l, k.within (parent P z) (k.inside z l));
  most = omega (arith, d.drawn z l, k.within z l);
}
