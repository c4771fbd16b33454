-- Sums below a bound, counting in two ways, and pigeonholes.
--
--   sum g n             == g 0 + g 1 + .. + g (n - 1)
--   weigh b x           == x if b, else 0
--   weighted_sum f g n   == the sum of g at the numbers below n that pass f
use Rattle.std.specs.Prelude.{Bool, true, false, ◌≡◌, refl, ℕ, zero, suc, ◌+◌, ◌≤◌, ◌<◌, ltb, eqb}
use Rattle.std.proofs.Common.{⊎_elim, sym, ap, ap₂, subst, ◌∙◌, eq-or-lt_of_le, le_of_suc-le-suc, add-one, arith}
use Rattle.std.proofs.Common.{lt-ltb, eqb-true, eq-eqb, ne_eqb}
use Rattle.std.proofs.Math.Path.{subst⁻¹}
use Rattle.laws.specs.Search.{bit, count}
use Rattle.laws.specs.SearchLaws.{count_none, count_some}
use Rattle.laws.specs.Tests.{by_test, by_eq}

------------------------------------------------------------------------
-- Sums

-- the sum of g at the numbers below n
unfoldable pub sum : (ℕ → ℕ) → ℕ → ℕ
sum g zero = 0
sum g (suc n) = sum g n + g n

pub sum-zero : (g : ℕ → ℕ) → sum g 0 ≡ 0
unfolding sum
sum-zero g = refl

pub sum_more : (g : ℕ → ℕ) (n : ℕ) → sum g (n + 1) ≡ sum g n + g n
unfolding sum
sum_more g n = rw add-one refl

pub sum_cong : (g h : ℕ → ℕ) (n : ℕ) → ((k : ℕ) → k < n → g k ≡ h k) → sum g n ≡ sum h n
unfolding sum
sum_cong g h zero e = refl
sum_cong g h (suc n) e = ap₂ (λ (a b : ℕ). a + b) (sum_cong g h n (λ k l. e k (omega arith))) (e n (omega arith))

pub sum_mono : (g : ℕ → ℕ) (m n : ℕ) → m ≤ n → sum g m ≤ sum g n
unfolding sum
sum_mono g m zero h = subst⁻¹ (λ (k : ℕ). sum g k ≤ sum g zero) (z m h) (omega arith)
  where
    z : (a : ℕ) → a ≤ zero → a ≡ zero
    z a l = omega arith
sum_mono g m (suc n) h =
    ⊎_elim (λ e. subst⁻¹ (λ (k : ℕ). sum g k ≤ sum g (suc n)) e (omega arith))
    (λ l. omega (arith, sum_mono g m n (le_of_suc-le-suc l)))
    (eq-or-lt_of_le h)

-- a term past m is in the sum past it
pub sum_term : (g : ℕ → ℕ) (m n : ℕ) → m < n → sum g m + g m ≤ sum g n
unfolding sum
sum_term g m n h = sum_mono g (suc m) n h

pub sum_plus : (g h : ℕ → ℕ) (n : ℕ) → sum (λ (k : ℕ). g k + h k) n ≡ sum g n + sum h n
unfolding sum
sum_plus g h zero = refl
sum_plus g h (suc n) = omega (arith, sum_plus g h n)

pub sum-none : (n : ℕ) → sum (λ (k : ℕ). 0) n ≡ 0
unfolding sum
sum-none zero = refl
sum-none (suc n) = omega (arith, sum-none n)

pub sum_ones : (n : ℕ) → sum (λ (k : ℕ). 1) n ≡ n
unfolding sum
sum_ones zero = refl
sum_ones (suc n) = omega (arith, sum_ones n)

pub sum_bits : (f : ℕ → Bool) (n : ℕ) → sum (λ (k : ℕ). bit (f k)) n ≡ count f n
unfolding sum count
sum_bits f zero = refl
sum_bits f (suc n) = omega (arith, sum_bits f n)

------------------------------------------------------------------------
-- Counting in two ways

-- counting in two ways: each v below k counts for one p below m where h v holds, and for none where not
pub two_ways : (f : ℕ → ℕ → Bool) (h : ℕ → Bool) (m k : ℕ) → ((v : ℕ) → v < k → count (λ (p : ℕ). f p v) m ≡ bit (h v))
    → sum (λ (p : ℕ). count (f p) k) m ≡ count h k
unfolding count
two_ways f h m zero e = sum-none m
two_ways f h m (suc k) e =
    sum_plus (λ (p : ℕ). count (f p) k) (λ (p : ℕ). bit (f p k)) m
    ∙ ap₂ (λ (a b : ℕ). a + b) (two_ways f h m k (λ v l. e v (omega arith)))
    (sum_bits (λ (p : ℕ). f p k) m ∙ e k (omega arith))

-- exactly one passes
pub count-one : (f : ℕ → Bool) (m q : ℕ) → q < m → f q ≡ true → ((p : ℕ) → p < m → (p ≡ q → ⊥) → f p ≡ false)
    → count f m ≡ 1
unfolding count
count-one f zero q l e no_other = absurd (omega arith)
count-one f (suc m) q l e other =
    ⊎_elim
    (λ (s : q ≡ m). omega (
      arith,
      ap bit (subst (λ (x : ℕ). f x ≡ true) s e),
      count_none f m
          (λ k b. other k (omega arith) (λ x. omega arith)),
    ))
    (λ (s : q < m). omega (
      arith,
      ap bit (other m (omega arith) (λ x. omega arith)),
      count-one f m q s e
          (λ p b ne. other p (omega arith) ne),
    ))
    (eq-or-lt_of_le (le_of_suc-le-suc l))

-- m terms of at most 1 sum to at most m
pub sum_le : (g : ℕ → ℕ) (m : ℕ) → ((r : ℕ) → r < m → g r ≤ 1) → sum g m ≤ m
unfolding sum
sum_le g zero h = omega arith
sum_le g (suc m) h = omega (arith, sum_le g m (λ r l. h r (omega arith)), h m (omega arith))

------------------------------------------------------------------------
-- Pigeonholes

-- m terms of at most 1 that sum to m are each 1
pub all_ones : (g : ℕ → ℕ) (m : ℕ) → ((r : ℕ) → r < m → g r ≤ 1) → sum g m ≡ m → (r : ℕ) → r < m → g r ≡ 1
unfolding sum
all_ones g zero h e r l = absurd (omega arith)
all_ones g (suc m) h e r l =
    ⊎_elim
    (λ (s : r ≡ m). subst⁻¹ (λ (x : ℕ). g x ≡ 1) s
    (omega (arith, sum_le g m (λ r l. h r (omega arith)), h m (omega arith))))
    (λ (s : r < m). all_ones g m (λ r l. h r (omega arith))
    (omega (arith, sum_le g m (λ r l. h r (omega arith)), h m (omega arith))) r s)
    (eq-or-lt_of_le (le_of_suc-le-suc l))

-- at most one passes where no two do
pub count_few : (f : ℕ → Bool) (n : ℕ) → ((j k : ℕ) → j < k → k < n → f j ≡ true → f k ≡ true → ⊥) → count f n ≤ 1
unfolding count
count_few f zero h = omega arith
count_few f (suc n) h =
    by_test (f n)
    (λ e. omega (
      arith,
      ap bit e,
      count_none f n
          (λ k l. by_test (f k) (λ t. absurd (h k n l (omega arith) t e)) (λ t. t)),
    ))
    (λ e. omega (arith, ap bit e, count_few f n (λ j k a b. h j k a (omega arith))))

pub count_all : (t : ℕ) → count (λ (i : ℕ). true) t ≡ t
unfolding count
count_all zero = refl
count_all (suc t) = omega (arith, count_all t)

-- the pigeonhole for sequences: t different numbers below n are at most n
pub injective_le : (q : ℕ → ℕ) (t n : ℕ) → ((i : ℕ) → i < t → q i < n)
    → ((i j : ℕ) → i < j → j < t → q i ≡ q j → ⊥) → t ≤ n
injective_le q t n b d =
    omega (
      arith,
      sum_le (λ (v : ℕ). count (λ (i : ℕ). eqb (q i) v) t) n
          (λ v l. count_few (λ (i : ℕ). eqb (q i) v) t
          (λ j k m o x y. d j k m o (eqb-true _ _ x ∙ sym (eqb-true _ _ y)))),
      two_ways (λ (v i : ℕ). eqb (q i) v) (λ (i : ℕ). true) n t
          (λ i l. count-one (λ (v : ℕ). eqb (q i) v) n (q i) (b i l) (eq-eqb (q i) (q i) refl)
          (λ p m ne. ne_eqb (q i) p (λ x. ne (sym x)))),
      count_all t,
    )

-- and n different numbers below n are all of them
pub injective_onto : (q : ℕ → ℕ) (n : ℕ) → ((i : ℕ) → i < n → q i < n) → ((i j : ℕ) → i < j → j < n → q i ≡ q j → ⊥)
    → (v : ℕ) → v < n → (i : ℕ) × (i < n) × (q i ≡ v)
injective_onto q n b d v l =
    let e : count (λ (i : ℕ). eqb (q i) v) n ≡ 1 =
    all_ones (λ (v : ℕ). count (λ (i : ℕ). eqb (q i) v) n) n
    (λ v l. count_few (λ (i : ℕ). eqb (q i) v) n (λ j k m o x y. d j k m o (eqb-true _ _ x ∙ sym (eqb-true _ _ y))))
    (two_ways (λ (v i : ℕ). eqb (q i) v) (λ (i : ℕ). true) n n
    (λ i l. count-one (λ (v : ℕ). eqb (q i) v) n (q i) (b i l) (eq-eqb (q i) (q i) refl)
    (λ p m ne. ne_eqb (q i) p (λ x. ne (sym x)))) ∙ count_all n)
    v l in
    let s : (i : ℕ) × (i < n) × (eqb (q i) v ≡ true) = count_some (λ (i : ℕ). eqb (q i) v) n (omega arith) in
    (s.0, s.1, eqb-true (q s.0) v s.2)

------------------------------------------------------------------------
-- Weighted sums

-- x where the test passes, else 0
abbrev pub weigh : Bool → ℕ → ℕ
weigh true x = x
weigh false x = 0

-- the sum of g at the numbers below n that pass the test f
pub weighted_sum : (ℕ → Bool) → (ℕ → ℕ) → ℕ → ℕ
weighted_sum f g n = sum (λ (v : ℕ). weigh (f v) (g v)) n

sum-weigh-none : (f : ℕ → Bool) (x m : ℕ) → count f m ≡ 0 → sum (λ (p : ℕ). weigh (f p) x) m ≡ 0
unfolding sum count
sum-weigh-none f x zero e = refl
sum-weigh-none f x (suc m) e =
    by_test (f m) (λ t. absurd (omega (arith, ap bit t)))
    (λ t. omega (arith, sum-weigh-none f x m (omega arith), ap (λ (b : Bool). weigh b x) t))

sum-weigh : (f : ℕ → Bool) (x m : ℕ) (b : Bool) → count f m ≡ bit b → sum (λ (p : ℕ). weigh (f p) x) m ≡ weigh b x
unfolding sum count
sum-weigh f x m false e = sum-weigh-none f x m e
sum-weigh f x zero true e = absurd (omega arith)
sum-weigh f x (suc m) true e =
    by_test (f m) (λ t. omega (arith, sum-weigh-none f x m (omega (arith, ap bit t)), ap (λ (b : Bool). weigh b x) t))
    (λ t. omega (arith, sum-weigh f x m true (omega (arith, ap bit t)), ap (λ (b : Bool). weigh b x) t))

-- the sum of g in two ways: each v counts for one p below m where h v holds, and for none where not
pub weighed : (f : ℕ → ℕ → Bool) (h : ℕ → Bool) (g : ℕ → ℕ) (m k : ℕ)
    → ((v : ℕ) → v < k → count (λ (p : ℕ). f p v) m ≡ bit (h v))
    → sum (λ (p : ℕ). weighted_sum (f p) g k) m ≡ weighted_sum h g k
unfolding weighted_sum sum
weighed f h g m zero e = sum-none m
weighed f h g m (suc k) e =
    sum_plus (λ (p : ℕ). weighted_sum (f p) g k) (λ (p : ℕ). weigh (f p k) (g k)) m
    ∙ ap₂ (λ (a b : ℕ). a + b) (weighed f h g m k (λ v l. e v (omega arith)))
    (sum-weigh (λ (p : ℕ). f p k) (g k) m (h k) (e k (omega arith)))

-- one alone passes
pub weigh-one : (f : ℕ → Bool) (g : ℕ → ℕ) (n q : ℕ) → q < n → f q ≡ true
    → ((p : ℕ) → p < n → (p ≡ q → ⊥) → f p ≡ false) → weighted_sum f g n ≡ g q
unfolding weighted_sum
weigh-one f g n q l t other =
    sum_cong _ (λ (v : ℕ). weigh (f v) (g q)) n
    (λ v m. by_eq v q (λ e. ap (λ (x : ℕ). weigh (f v) (g x)) e)
    (λ ne. ap (λ (b : Bool). weigh b (g v)) (other v m ne) ∙ sym (ap (λ (b : Bool). weigh b (g q)) (other v m ne))))
    ∙ sum-weigh f (g q) n true (count-one f n q l t other)

-- the first term and the others
pub split_first : (h : ℕ → ℕ) (n : ℕ) → 0 < n → sum h n ≡ h 0 + weighted_sum (λ (v : ℕ). ltb 0 v) h n
unfolding sum weighted_sum
split_first h zero l = absurd (omega arith)
split_first h (suc zero) l = omega arith
split_first h (suc (suc n)) l =
    omega (
      arith,
      split_first h (suc n) (omega arith),
      ap (λ (b : Bool). weigh b (h (suc n))) (lt-ltb 0 (suc n) (omega arith)),
    )
