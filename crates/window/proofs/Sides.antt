-- A window's side as the code has it, coordinates by their distance from its corner, and what the tests of a call say.
use mathlib.Core.Bool.{Bool, true, false, ◌&&◌}
use mathlib.Core.Option.{none}
use mathlib.Core.Path.{◌≡◌, refl, sym, ap, ◌∙◌}
use Prim.Native.Nat.{ℕ, ◌+◌, ◌-◌, ◌*◌, ◌%◌, ◌^◌, ◌≤◌, ◌<◌}
use native.Mathlib.Nat.{one-mul}
use native.Mathlib.Omega.{arith}
use borrow.Author.Tests.{ltb-true, lt-ltb, le-leb, le-ltb}
use lib.Dec.{ltb, lit<}
use lib.Pow.{shl_exact}
use Rattle.laws.specs.Refusals.{refusal, refuse_yes, refuse_no}
use Rattle.laws.specs.Tests.{same_test}
use Rattle.window.specs.Window.{greatest, within, inside, side_fault}

-- 1 << m
pub side : (m : ℕ) → m ≤ greatest → 1 * 2 ^ m % 4294967296 ≡ 2 ^ m
side m h = shl_exact 1 m 32 (lit< tt) (omega arith) ∙ one-mul (2 ^ m)

-- no sum is taken that could overflow
pub within_distance : (corner side c : ℕ) → corner ≤ c → ltb (c - corner) side ≡ within corner side c
unfolding within
within_distance corner side c h =
    rw (le-leb corner c h)
    (same_test (ltb (c - corner) side) (ltb c (corner + side))
    (λ e. lt-ltb c (corner + side) (outward (ltb-true (c - corner) side e)))
    (λ e. lt-ltb (c - corner) side (inward (ltb-true c (corner + side) e))))
  where
    outward : c - corner < side → c < corner + side
    outward l = omega (arith, h)

    inward : c < corner + side → c - corner < side
    inward l = omega (arith, h)

-- what the test says, of the side as the code has it
pub tested : (corner m c : ℕ) {r : Bool} → m ≤ greatest → r ≡ within corner (1 * 2 ^ m % 4294967296) c
    → within corner (2 ^ m) c ≡ r
tested corner m c h e = ap (λ (s : ℕ). within corner s c) (sym (side m h)) ∙ sym e

pub outside_across : (x y a b m : ℕ) → within a (2 ^ m) x ≡ false → inside x y a b m ≡ false
unfolding inside
outside_across x y a b m e = rw e

pub outside_up : (x y a b m : ℕ) → within b (2 ^ m) y ≡ false → inside x y a b m ≡ false
unfolding inside
outside_up x y a b m e = second_false (within a (2 ^ m) x) e
  where
    second_false : (p : Bool) {q : Bool} → q ≡ false → p && q ≡ false
    second_false true e = e
    second_false false e = refl

pub too_wide : (most m : ℕ) → most < m → side_fault most m ≡ refusal 18 0
too_wide most m h = refuse_yes (ltb most m) 18 0 (lt-ltb most m h)

pub no_wider : (most m : ℕ) → m ≤ most → side_fault most m ≡ none
no_wider most m h = refuse_no (ltb most m) 18 0 (le-ltb most m h)
