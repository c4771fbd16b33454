-- Parts of vectors and products of two of them fit 64 bits, and are what the machine computes. A signed local holds
-- bits, so an operand is read back from them, `to_z w64 (of_z w64 a)`.
use mathlib.Core.Path.{◌≡◌, refl, ◌∙◌, ap, ap₂, subst, subst⁻¹}
use mathlib.Core.Bool.{Bool, true, false, not, cond}
use Prim.Native.Nat.{ℕ, zero, suc, ◌+◌, ◌*◌, ◌-◌, ◌^◌, ◌≤◌, ◌<◌}
use native.Mathlib.Nat.{mul-le-mul, lt_of_le_of_lt, le_refl}
use native.Mathlib.Omega.{arith}
use lib.Dec.{T, ltb}
use lib.IntN.{ℤ, pos, negsuc, neg_ℤ, nat_abs, ◌+ℤ◌, ◌-ℤ◌, ◌*ℤ◌}
use lib.Signed.{mag, lt_z, ◌<ℤ◌, ◌≤ℤ◌, lt_z_yes, lt_z_no}
use mir.Syntax.{w64}
use mir.Val.{to_z, of_z, SFits}
use mir.ValLaws.{to_z-of_z, to_z_pos}
use Rattle.monotone.specs.Cones.{SmallPart}

------------------------------------------------------------------------
-- Absolute values

nat_abs_neg : (z : ℤ) → nat_abs (neg_ℤ z) ≡ nat_abs z
nat_abs_neg (pos zero) = refl
nat_abs_neg (pos (suc n)) = refl
nat_abs_neg (negsuc n) = refl

nat_abs_mul : (a b : ℤ) → nat_abs (a *ℤ b) ≡ nat_abs a * nat_abs b
nat_abs_mul (pos a) (pos b) = refl
nat_abs_mul (pos a) (negsuc b) = nat_abs_neg (pos (a * suc b))
nat_abs_mul (negsuc a) (pos b) = nat_abs_neg (pos (suc a * b))
nat_abs_mul (negsuc a) (negsuc b) = refl

either_le : (t : Bool) (x y n : ℕ) → suc x ≤ n → y ≤ n → nat_abs (cond t (negsuc x) (pos y)) ≤ n
either_le true x y n h k = h
either_le false x y n h k = k

nat_abs_add : (a b : ℤ) → nat_abs (a +ℤ b) ≤ nat_abs a + nat_abs b
nat_abs_add (pos a) (pos b) = le_refl (a + b)
nat_abs_add (pos a) (negsuc b) =
    either_le (ltb a (suc b)) (suc b - suc a) (a - suc b) (a + suc b) (omega arith) (omega arith)
nat_abs_add (negsuc a) (pos b) =
    either_le (ltb b (suc a)) (suc a - suc b) (b - suc a) (suc a + b) (omega arith) (omega arith)
nat_abs_add (negsuc a) (negsuc b) = omega arith

mag_nat_abs : (z : ℤ) → mag z ≤ nat_abs z
mag_nat_abs (pos n) = le_refl n
mag_nat_abs (negsuc n) = omega arith

fits : (z : ℤ) → nat_abs z < 2 ^ 63 → SFits w64 z
fits z h = record { sfits = lt_of_le_of_lt (mag_nat_abs z) h }

------------------------------------------------------------------------
-- SmallPart numbers

abbrev back : ℤ → ℤ
back z = to_z w64 (of_z w64 z)

pub small-back : (z : ℤ) → SmallPart z → back z ≡ z
small-back z h = to_z-of_z w64 z (fits z (omega arith))

-- what is read back is small
pub back-small : (z : ℤ) → SmallPart z → SmallPart (back z)
back-small z h = subst⁻¹ SmallPart (small-back z h) h

-- a number of 1 to 2^32 - 1 without the 2^31 that was added to it
module _ (n : ℕ) (some : 1 ≤ n) (most : n < 2 ^ 32) where
  shifted : to_z w64 n -ℤ pos 2147483648 ≡ pos n -ℤ pos 2147483648
  shifted = ap (λ (z : ℤ). z -ℤ pos 2147483648) (to_z_pos w64 n (omega arith))

  shifted_small : SmallPart (pos n -ℤ pos 2147483648)
  shifted_small =
      either_le (ltb n 2147483648) (2147483648 - suc n) (n - 2147483648) 2147483647 (omega arith) (omega arith)

  pub part_fits : SFits w64 (to_z w64 n -ℤ pos 2147483648)
  part_fits =
      subst⁻¹ (SFits w64) shifted
      (fits (pos n -ℤ pos 2147483648) (let s : SmallPart (pos n -ℤ pos 2147483648) = shifted_small in omega arith))

  pub part_is : back (to_z w64 n -ℤ pos 2147483648) ≡ pos n -ℤ pos 2147483648
  part_is = to_z-of_z w64 (to_z w64 n -ℤ pos 2147483648) part_fits ∙ shifted

  pub part_small : SmallPart (back (to_z w64 n -ℤ pos 2147483648))
  part_small = subst⁻¹ SmallPart part_is shifted_small

------------------------------------------------------------------------
-- Products

product : (a b : ℤ) → SmallPart a → SmallPart b → nat_abs (a *ℤ b) ≤ 4611686014132420609
product a b h k = subst⁻¹ (λ (n : ℕ). n ≤ 4611686014132420609) (nat_abs_mul a b) (mul-le-mul h k)

module _ (a b : ℤ) (sa : SmallPart a) (sb : SmallPart b) where
  back_product : back a *ℤ back b ≡ a *ℤ b
  back_product = ap₂ ◌*ℤ◌ (small-back a sa) (small-back b sb)

  pub product_fits : SFits w64 (back a *ℤ back b)
  product_fits =
      subst⁻¹ (SFits w64) back_product
      (fits (a *ℤ b) (let h : nat_abs (a *ℤ b) ≤ 4611686014132420609 = product a b sa sb in omega arith))

  pub product_is : back (back a *ℤ back b) ≡ a *ℤ b
  product_is = to_z-of_z w64 (back a *ℤ back b) product_fits ∙ back_product

module _ (a b c d : ℤ) (sa : SmallPart a) (sb : SmallPart b) (sc : SmallPart c) (sd : SmallPart d) where
  abbrev ab : ℤ
  ab = back (back a *ℤ back b)

  abbrev cd : ℤ
  cd = back (back c *ℤ back d)

  sum_back : ab +ℤ cd ≡ a *ℤ b +ℤ c *ℤ d
  sum_back = ap₂ ◌+ℤ◌ (product_is a b sa sb) (product_is c d sc sd)

  diff_back : ab -ℤ cd ≡ a *ℤ b -ℤ c *ℤ d
  diff_back = ap₂ ◌-ℤ◌ (product_is a b sa sb) (product_is c d sc sd)

  pub sum_fits : SFits w64 (ab +ℤ cd)
  sum_fits =
      subst⁻¹ (SFits w64) sum_back
      (fits (a *ℤ b +ℤ c *ℤ d) (omega (arith, nat_abs_add (a *ℤ b) (c *ℤ d), product a b sa sb, product c d sc sd)))

  pub diff_fits : SFits w64 (ab -ℤ cd)
  diff_fits =
      subst⁻¹ (SFits w64) diff_back
      (fits (a *ℤ b -ℤ c *ℤ d)
      (omega (arith, nat_abs_add (a *ℤ b) (neg_ℤ (c *ℤ d)), nat_abs_neg (c *ℤ d), product a b sa sb, product c d sc sd)))

  pub sum_is : back (ab +ℤ cd) ≡ a *ℤ b +ℤ c *ℤ d
  sum_is = to_z-of_z w64 (ab +ℤ cd) sum_fits ∙ sum_back

  pub diff_is : back (ab -ℤ cd) ≡ a *ℤ b -ℤ c *ℤ d
  diff_is = to_z-of_z w64 (ab -ℤ cd) diff_fits ∙ diff_back

------------------------------------------------------------------------
-- Signs. A call's result is r, which is z, and the test reads it back from its bits

module _ {r z : ℤ} (e : r ≡ z) (f : mag r < 2 ^ 63) where
  read : back r ≡ z
  read = to_z-of_z w64 r (record { sfits = f }) ∙ e

  pub above_yes : lt_z (pos 0) (back r) ≡ true → pos 0 <ℤ z
  above_yes t = lt_z_yes (subst (λ (y : ℤ). T (lt_z (pos 0) y)) read (subst⁻¹ T t tt))

  pub above_no : lt_z (pos 0) (back r) ≡ false → z ≤ℤ pos 0
  above_no t = lt_z_no (subst (λ (y : ℤ). T (not (lt_z (pos 0) y))) read (subst⁻¹ (λ (b : Bool). T (not b)) t tt))

  pub below_yes : lt_z (back r) (pos 0) ≡ true → z <ℤ pos 0
  below_yes t = lt_z_yes (subst (λ (y : ℤ). T (lt_z y (pos 0))) read (subst⁻¹ T t tt))

  pub below_no : lt_z (back r) (pos 0) ≡ false → pos 0 ≤ℤ z
  below_no t = lt_z_no (subst (λ (y : ℤ). T (not (lt_z y (pos 0)))) read (subst⁻¹ (λ (b : Bool). T (not b)) t tt))

-- a small number whose bits are zero
pub zero_bits : (z : ℤ) → SmallPart z → of_z w64 z ≡ 0 → z ≡ pos 0
zero_bits (pos n) h e = ap pos e
zero_bits (negsuc n) h e = absurd (omega arith)

pub bits_zero : (z : ℤ) → z ≡ pos 0 → of_z w64 z ≡ 0
bits_zero z e = ap (of_z w64) e
