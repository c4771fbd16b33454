-- Whole numbers as differences of natural numbers, so that a fact about the former is shown by arithmetic of the
-- latter.
--
--   IsDiff z m n   == z is m - n
use Rattle.std.specs.Prelude.{◌≡◌, ℕ, zero, suc, ◌+◌, ◌*◌, ◌<◌, ◌≤◌, ltb, ℤ, pos, negsuc, neg_ℤ, ◌+ℤ◌, ◌*ℤ◌, ◌<ℤ◌}
use Rattle.std.proofs.Common.{ap, arith, lt→ltb, ltb-true, ltb-false}
use Rattle.std.proofs.Math.IntN.{sub_ℕ}
use Rattle.laws.specs.Tests.{by_test}

abbrev pub IsDiff : ℤ → ℕ → ℕ → Type 0
IsDiff (pos a) m n = m ≡ n + a
IsDiff (negsuc a) m n = n ≡ m + suc a

pub recast : (z : ℤ) (m n m' n' : ℕ) → IsDiff z m n → m + n' ≡ m' + n → IsDiff z m' n'
recast (pos a) m n m' n' h e = omega arith
recast (negsuc a) m n m' n' h e = omega arith

pub diff_pos : (a : ℕ) → IsDiff (pos a) a 0
diff_pos a = omega arith

pub diff_neg : (z : ℤ) (m n : ℕ) → IsDiff z m n → IsDiff (neg_ℤ z) n m
diff_neg (pos zero) m n h = omega arith
diff_neg (pos (suc a)) m n h = omega arith
diff_neg (negsuc a) m n h = omega arith

pub diff_sub : (a b : ℕ) → IsDiff (sub_ℕ a b) a b
diff_sub a b =
    by_test (ltb a b)
    (λ t. let l : a < b = ltb-true a b t in rw t (omega arith))
    (λ t. let l : b ≤ a = ltb-false a b t in rw t (omega arith))

pub diff_add : (z w : ℤ) (m n k l : ℕ) → IsDiff z m n → IsDiff w k l → IsDiff (z +ℤ w) (m + k) (n + l)
diff_add (pos a) (pos b) m n k l h g = omega arith
diff_add (pos a) (negsuc b) m n k l h g =
    recast (sub_ℕ a (suc b)) a (suc b) (m + k) (n + l) (diff_sub a (suc b)) (omega arith)
diff_add (negsuc a) (pos b) m n k l h g =
    recast (sub_ℕ b (suc a)) b (suc a) (m + k) (n + l) (diff_sub b (suc a)) (omega arith)
diff_add (negsuc a) (negsuc b) m n k l h g = omega arith

pub diff_mul : (z w : ℤ) (m n k l : ℕ) → IsDiff z m n → IsDiff w k l → IsDiff (z *ℤ w) (m * k + n * l) (m * l + n * k)
diff_mul (pos a) (pos b) m n k l h g = rw (h, g) (omega arith)
diff_mul (pos a) (negsuc b) m n k l h g =
    rw (h, g) (diff_neg (pos (a * suc b)) ((n + a) * (k + suc b) + n * k) ((n + a) * k + n * (k + suc b)) (omega arith))
diff_mul (negsuc a) (pos b) m n k l h g =
    rw (h, g) (diff_neg (pos (suc a * b)) (m * l + (m + suc a) * (l + b)) (m * (l + b) + (m + suc a) * l) (omega arith))
diff_mul (negsuc a) (negsuc b) m n k l h g = rw (h, g) (omega arith)

pub diff_lt : (z : ℤ) (m n : ℕ) → IsDiff z m n → n < m → pos 0 <ℤ z
diff_lt (pos a) m n h g = record { lt = lt→ltb 0 a (omega arith) }
diff_lt (negsuc a) m n h g = absurd (omega arith)

pub diff_eq : (z w : ℤ) (m n k l : ℕ) → IsDiff z m n → IsDiff w k l → m + l ≡ k + n → z ≡ w
diff_eq (pos a) (pos b) m n k l h g e = ap pos (omega arith)
diff_eq (pos a) (negsuc b) m n k l h g e = absurd (omega arith)
diff_eq (negsuc a) (pos b) m n k l h g e = absurd (omega arith)
diff_eq (negsuc a) (negsuc b) m n k l h g e = ap negsuc (omega arith)
