-- A number below 2^31 and its negation as signed 32-bit numbers. A signed result is read back from its bits.
use mathlib.Core.Bool.{Bool, true, false, cond}
use mathlib.Core.Path.{◌≡◌, ap, ap₂, subst⁻¹, ◌∙◌}
use Prim.Native.Nat.{ℕ, zero, suc, ◌+◌, ◌^◌, ◌<◌}
use native.Mathlib.Omega.{arith}
use lib.IntN.{ℤ, pos, neg_ℤ, ◌-ℤ◌, +ℤ_idl}
use mir.Syntax.{w32}
use mir.Val.{to_z, of_z, SFits}
use mir.ValLaws.{to_z_pos, to_z-of_z}
use Rattle.slopes.specs.declared.Slope.{Slope}
use Rattle.slopes.specs.Slopes.{◌⊕◌}
use Rattle.direction.specs.Heading.{Along}
use Rattle.direction.specs.Direction.{left_of, right_of}
use Rattle.direction.specs.Parts.{SmallSlope}

pub fits_plus : (n : ℕ) → n < 2 ^ 31 → SFits w32 (pos n)
fits_plus n l = record { sfits = l }

pub fits_minus : (n : ℕ) → n < 2 ^ 31 → SFits w32 (neg_ℤ (pos n))
fits_minus zero l = record { sfits = l }
fits_minus (suc n) l = record { sfits = omega arith }

module _ (n : ℕ) (l : n < 2 ^ 31) where
  from_zero : pos 0 -ℤ to_z w32 n ≡ neg_ℤ (pos n)
  from_zero = ap (λ (z : ℤ). pos 0 -ℤ z) (to_z_pos w32 n l) ∙ +ℤ_idl (neg_ℤ (pos n))

  pub minus_fits : SFits w32 (pos 0 -ℤ to_z w32 n)
  minus_fits = subst⁻¹ (SFits w32) from_zero (fits_minus n l)

  pub minus_is : to_z w32 (of_z w32 (pos 0 -ℤ to_z w32 n)) ≡ neg_ℤ (pos n)
  minus_is = to_z-of_z w32 (pos 0 -ℤ to_z w32 n) minus_fits ∙ from_zero

pub read_back : {r z : ℤ} → r ≡ z → SFits w32 z → to_z w32 (of_z w32 r) ≡ z
read_back {r} {z} e f = ap (λ (y : ℤ). to_z w32 (of_z w32 y)) e ∙ to_z-of_z w32 z f

-- the sum of two small slopes, turned; d and e are its parts
module _ {s t : Slope} (ss : SmallSlope s) (st : SmallSlope t) {left : Bool} {d e : ℤ} where
  pub turned_left : left ≡ true → d ≡ neg_ℤ (pos (s.up + t.up)) → e ≡ pos (s.across + t.across)
      → Along (to_z w32 (of_z w32 d)) (to_z w32 (of_z w32 e)) ≡ cond left (left_of (s ⊕ t)) (right_of (s ⊕ t))
  turned_left is ed ee =
      rw is
      (ap₂ Along (read_back ed (fits_minus (s.up + t.up) (omega arith)))
      (read_back ee (fits_plus (s.across + t.across) (omega arith))))

  pub turned_right : left ≡ false → d ≡ pos (s.up + t.up) → e ≡ neg_ℤ (pos (s.across + t.across))
      → Along (to_z w32 (of_z w32 d)) (to_z w32 (of_z w32 e)) ≡ cond left (left_of (s ⊕ t)) (right_of (s ⊕ t))
  turned_right is ed ee =
      rw is
      (ap₂ Along (read_back ed (fits_plus (s.up + t.up) (omega arith)))
      (read_back ee (fits_minus (s.across + t.across) (omega arith))))
