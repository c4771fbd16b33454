-- The order of whole numbers against zero: sums, products, negations and squares.
use Rattle.std.specs.Prelude.{◌≡◌, refl, ℕ, zero, suc, ◌+◌, ◌*◌, ◌≤◌, ◌<◌, ℤ, pos, negsuc, neg_ℤ, ◌+ℤ◌, ◌*ℤ◌, ◌<ℤ◌}
use Rattle.std.specs.Prelude.{◌≤ℤ◌}
use Rattle.std.proofs.Common.{subst, zero-le, suc-le-suc, mul-pos, arith, ltb→lt, lt→ltb, leb→le, le→leb}
use Rattle.std.proofs.Math.IntN.{*ℤ-zero, *ℤ-negsuc}
use Rattle.std.specs.Int.Signed.{<ℤ_irrefl}

pub at_least : (n : ℕ) → pos 0 ≤ℤ pos n
at_least n = record { le = le→leb 0 n zero-le }

pub above : {n : ℕ} → 0 < n → pos 0 <ℤ pos n
above {n} h = record { lt = lt→ltb 0 n h }

pub positive : (n : ℕ) → pos 0 <ℤ pos (suc n)
positive n = above (suc-le-suc zero-le)

pub under : {n : ℕ} → pos 0 <ℤ pos n → 0 < n
under {n} h = ltb→lt 0 n h.lt

------------------------------------------------------------------------
-- Along an equation

pub <-to : {a b c : ℤ} → b ≡ c → a <ℤ b → a <ℤ c
<-to {a} e h = subst (λ (z : ℤ). a <ℤ z) e h

pub ≤-to : {a b c : ℤ} → b ≡ c → a ≤ℤ b → a ≤ℤ c
≤-to {a} e h = subst (λ (z : ℤ). a ≤ℤ z) e h

------------------------------------------------------------------------
-- Weaker

pub <→≤ : (z : ℤ) → pos 0 <ℤ z → pos 0 ≤ℤ z
<→≤ (pos n) h = at_least n
<→≤ (negsuc n) h = absurd h.lt

------------------------------------------------------------------------
-- Sums

pub ≤+< : (a b : ℤ) → pos 0 ≤ℤ a → pos 0 <ℤ b → pos 0 <ℤ (a +ℤ b)
≤+< (pos a) (pos b) h k = above (let l : 0 < b = under k in omega arith)
≤+< (pos a) (negsuc b) h k = absurd k.lt
≤+< (negsuc a) b h k = absurd h.le

pub <+≤ : (a b : ℤ) → pos 0 <ℤ a → pos 0 ≤ℤ b → pos 0 <ℤ (a +ℤ b)
<+≤ (pos a) (pos b) h k = above (let l : 0 < a = under h in omega arith)
<+≤ (pos a) (negsuc b) h k = absurd k.le
<+≤ (negsuc a) b h k = absurd h.lt

pub ≤+≤ : (a b : ℤ) → pos 0 ≤ℤ a → pos 0 ≤ℤ b → pos 0 ≤ℤ (a +ℤ b)
≤+≤ (pos a) (pos b) h k = at_least (a + b)
≤+≤ (pos a) (negsuc b) h k = absurd k.le
≤+≤ (negsuc a) b h k = absurd h.le

------------------------------------------------------------------------
-- Products

pub <*< : (a b : ℤ) → pos 0 <ℤ a → pos 0 <ℤ b → pos 0 <ℤ (a *ℤ b)
<*< (pos a) (pos b) h k = above (mul-pos (under h) (under k))
<*< (pos a) (negsuc b) h k = absurd k.lt
<*< (negsuc a) b h k = absurd h.lt

pub ≤*≤ : (a b : ℤ) → pos 0 ≤ℤ a → pos 0 ≤ℤ b → pos 0 ≤ℤ (a *ℤ b)
≤*≤ (pos a) (pos b) h k = at_least (a * b)
≤*≤ (pos a) (negsuc b) h k = absurd k.le
≤*≤ (negsuc a) b h k = absurd h.le

------------------------------------------------------------------------
-- Negations

pub neg_pos : (z : ℤ) → z <ℤ pos 0 → pos 0 <ℤ neg_ℤ z
neg_pos (pos zero) h = absurd (<ℤ_irrefl h)
neg_pos (pos (suc n)) h = absurd (below n (ltb→lt (suc n) 0 h.lt))
  where
    below : (n : ℕ) → suc n < 0 → ⊥
    below n h = omega arith
neg_pos (negsuc n) h = positive n

pub neg_nonneg : (z : ℤ) → z ≤ℤ pos 0 → pos 0 ≤ℤ neg_ℤ z
neg_nonneg (pos zero) h = at_least 0
neg_nonneg (pos (suc n)) h = absurd (below n (leb→le (suc n) 0 h.le))
  where
    below : (n : ℕ) → suc n ≤ 0 → ⊥
    below n h = omega arith
neg_nonneg (negsuc n) h = at_least (suc n)

-- a number and its negation are not both above zero, and not one above and the other at least zero
pub not_both : (z : ℤ) → pos 0 ≤ℤ z → pos 0 <ℤ neg_ℤ z → ⊥
not_both (pos zero) h k = <ℤ_irrefl k
not_both (pos (suc n)) h k = k.lt
not_both (negsuc n) h k = h.le

------------------------------------------------------------------------
-- A positive product with a factor that is not negative: the other is positive

pub cancel : (a b : ℤ) → pos 0 ≤ℤ a → pos 0 <ℤ (a *ℤ b) → pos 0 <ℤ b
cancel a (pos zero) h k = absurd (<ℤ_irrefl (<-to (*ℤ-zero a) k))
cancel a (pos (suc n)) h k = positive n
cancel a (negsuc n) h k =
    absurd (not_both (a *ℤ pos (suc n)) (≤*≤ a (pos (suc n)) h (at_least (suc n))) (<-to (*ℤ-negsuc a n) k))

------------------------------------------------------------------------
-- Zero and squares

pub ≤≥ : (z : ℤ) → z ≤ℤ pos 0 → pos 0 ≤ℤ z → z ≡ pos 0
≤≥ (pos zero) h k = refl
≤≥ (pos (suc n)) h k = absurd (below n (leb→le (suc n) 0 h.le))
  where
    below : (n : ℕ) → suc n ≤ 0 → ⊥
    below n h = omega arith
≤≥ (negsuc n) h k = absurd k.le

-- a square is at least zero, and zero only at zero
pub square : (z : ℤ) → pos 0 ≤ℤ (z *ℤ z)
square (pos n) = at_least (n * n)
square (negsuc n) = at_least (suc n * suc n)

pub square⁺ : (z : ℤ) → (z ≡ pos 0 → ⊥) → pos 0 <ℤ (z *ℤ z)
square⁺ (pos zero) h = absurd (h refl)
square⁺ (pos (suc n)) h = above (mul-pos {m = suc n} (suc-le-suc zero-le) (suc-le-suc zero-le))
square⁺ (negsuc n) h = above (mul-pos {m = suc n} (suc-le-suc zero-le) (suc-le-suc zero-le))
