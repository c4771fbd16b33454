-- Laws of counting, searching and tabulating below a bound.
use Rattle.std.specs.Prelude.{Bool, true, false, ◌||◌, List, [], ◌∷◌, ◌≡◌, refl, ℕ, zero, suc, ◌+◌, ◌≤◌, ◌<◌, min, ltb}
use Rattle.std.specs.Prelude.{length, get_or}
use Rattle.std.proofs.Common.{⊎_elim, sym, ap, ap₂, ◌∙◌, eq-or-lt_of_le, le_of_suc-le-suc, add-one, arith}
use Rattle.std.proofs.Common.{length-append, ext_get_or, ltb-true, ltb-false}
use Rattle.std.proofs.Math.Path.{subst⁻¹}
use Rattle.std.proofs.Math.ListN.{get_or-append}
use Rattle.std.proofs.lemmas.List.{get_or_at}
use Rattle.laws.specs.Search.{bit, count, least, tabulate}
use Rattle.laws.specs.Tests.{by_test, by_lt, differ, either_first, either_second, neither_is, trichotomy}

------------------------------------------------------------------------
-- How many pass

pub count-zero : (f : ℕ → Bool) → count f 0 ≡ 0
unfolding count
count-zero f = refl

pub count_more : (f : ℕ → Bool) (n : ℕ) → count f (n + 1) ≡ count f n + bit (f n)
unfolding count
count_more f n = rw add-one refl

pub bit_le : (b : Bool) → bit b ≤ 1
bit_le true = omega arith
bit_le false = omega arith

pub count_le : (f : ℕ → Bool) (n : ℕ) → count f n ≤ n
unfolding count
count_le f zero = omega arith
count_le f (suc n) = omega (arith, count_le f n, bit_le (f n))

-- counting the same test
pub count_cong : (f g : ℕ → Bool) (n : ℕ) → ((k : ℕ) → k < n → f k ≡ g k) → count f n ≡ count g n
unfolding count
count_cong f g zero h = refl
count_cong f g (suc n) h =
    ap₂ (λ (a b : ℕ). a + b) (count_cong f g n (λ k l. h k (omega arith))) (ap bit (h n (omega arith)))

-- what passes below m passes below n
pub count_mono : (f : ℕ → Bool) (m n : ℕ) → m ≤ n → count f m ≤ count f n
unfolding count
count_mono f m zero h = subst⁻¹ (λ (k : ℕ). count f k ≤ count f zero) (z m h) (omega arith)
  where
    z : (a : ℕ) → a ≤ zero → a ≡ zero
    z a l = omega arith
count_mono f m (suc n) h =
    ⊎_elim (λ e. subst⁻¹ (λ (k : ℕ). count f k ≤ count f (suc n)) e (omega arith))
    (λ l. omega (arith, count_mono f m n (le_of_suc-le-suc l)))
    (eq-or-lt_of_le h)

-- one that passes is counted
pub count_pos : (f : ℕ → Bool) (n k : ℕ) → k < n → f k ≡ true → 0 < count f n
unfolding count
count_pos f n k l e = omega (arith, count_mono f (suc k) n l, ap bit e)

pub count_none : (f : ℕ → Bool) (n : ℕ) → ((k : ℕ) → k < n → f k ≡ false) → count f n ≡ 0
unfolding count
count_none f zero h = refl
count_none f (suc n) h = omega (arith, count_none f n (λ k l. h k (omega arith)), ap bit (h n (omega arith)))

pub count_some : (f : ℕ → Bool) (n : ℕ) → 0 < count f n → (k : ℕ) × (k < n) × (f k ≡ true)
unfolding count
count_some f zero h = absurd (omega arith)
count_some f (suc n) h =
    by_test (f n) (λ e. (n, omega arith, e))
    (λ e. let r : (k : ℕ) × (k < n)
    × (f k ≡ true) = count_some f n (omega (arith, ap bit e)) in (r.0, omega arith, r.2))

-- two that pass count two
pub count-two : (f : ℕ → Bool) (n j k : ℕ) → j < k → k < n → f j ≡ true → f k ≡ true → 1 < count f n
unfolding count
count-two f n j k l m p q = omega (arith, count_mono f (suc k) n m, count_pos f k j l p, ap bit q)

------------------------------------------------------------------------
-- The least that passes

pub least_le : (f : ℕ → Bool) (n : ℕ) → least f n ≤ n
unfolding least
least_le f zero = omega arith
least_le f (suc n) =
    by_test (ltb (least f n) n) (λ e. rw e (omega (arith, least_le f n)))
    (λ e. rw e (by_test (f n) (λ t. rw t (omega arith)) (λ t. rw t (omega arith))))

pub least_below : (f : ℕ → Bool) (n k : ℕ) → k < least f n → f k ≡ false
unfolding least
least_below f zero k = λ l. absurd (omega arith)
least_below f (suc n) k =
    by_test (ltb (least f n) n) (λ e. rw e (least_below f n k))
    (λ e. rw e (by_test (f n) (λ t. rw t (λ l. least_below f n k (omega (arith, ltb-false (least f n) n e))))
    (λ t. rw t (λ l. ⊎_elim (λ (q : k ≡ n). rw q t)
    (λ (q : k < n). least_below f n k (omega (arith, ltb-false (least f n) n e)))
    (eq-or-lt_of_le (le_of_suc-le-suc l))))))

pub least_passes : (f : ℕ → Bool) (n : ℕ) → least f n < n → f (least f n) ≡ true
unfolding least
least_passes f zero = λ l. absurd (omega arith)
least_passes f (suc n) =
    by_test (ltb (least f n) n) (λ e. rw e (λ l. least_passes f n (ltb-true (least f n) n e)))
    (λ e. rw e (by_test (f n) (λ t. rw t (λ l. t)) (λ t. rw t (λ l. absurd (omega arith)))))

-- what is at most n, passes if below n, and has none before it that passes, is the least
pub least_is : (f : ℕ → Bool) (n r : ℕ) → r ≤ n → ((k : ℕ) → k < r → f k ≡ false) → (r < n → f r ≡ true) → r ≡ least f n
least_is f n r h before here =
    trichotomy r (least f n)
    (λ l. differ (here (omega (arith, least_le f n))) (least_below f n r l))
    (λ l. differ (least_passes f n (omega arith)) (before (least f n) l))

-- where one below n passes, the least does, and is at most that one
pub least-found : (f : ℕ → Bool) (n k : ℕ) → k < n → f k ≡ true → (least f n ≤ k) × (f (least f n) ≡ true)
least-found f n k l e =
    let low : least f n ≤ k = by_lt k (least f n) (λ m. absurd (differ e (least_below f n k m))) (λ m. m) in
    (low, least_passes f n (omega arith))

-- where the search finds nothing, none passes
pub least-none : (f : ℕ → Bool) (n : ℕ) → n ≤ least f n → (k : ℕ) → k < n → f k ≡ false
least-none f n h k l = least_below f n k (omega arith)

pub least_cong : (f g : ℕ → Bool) (n : ℕ) → ((k : ℕ) → k < n → f k ≡ g k) → least f n ≡ least g n
least_cong f g n e =
    least_is g n (least f n) (least_le f n)
    (λ k l. sym (e k (omega (arith, least_le f n))) ∙ least_below f n k l)
    (λ l. sym (e (least f n) l) ∙ least_passes f n l)

-- of two tests
pub least_either : (f g : ℕ → Bool) (n : ℕ) → min (least f n) (least g n) ≡ least (λ z. f z || g z) n
least_either f g n =
    least_is (λ z. f z || g z) n (min (least f n) (least g n)) (omega (arith, least_le f n))
    (λ k l. neither_is (least_below f n k (omega arith)) (least_below g n k (omega arith)))
    (λ l. by_lt (least g n) (least f n)
    (λ less.
    let e : min (least f n) (least g n) ≡ least g n = omega arith in
    subst⁻¹ (λ k. f k || g k ≡ true) e (either_second (f (least g n)) _ (least_passes g n (omega arith))))
    (λ more.
    let e : min (least f n) (least g n) ≡ least f n = omega arith in
    subst⁻¹ (λ k. f k || g k ≡ true) e (either_first _ (g (least f n)) (least_passes f n (omega arith)))))

------------------------------------------------------------------------
-- Tables

pub length-tabulate : (n : ℕ) (f : ℕ → ℕ) → length (tabulate n f) ≡ n
unfolding tabulate
length-tabulate zero f = refl
length-tabulate (suc n) f = length-append (tabulate n f) (f n ∷ []) ∙ omega (arith, length-tabulate n f)

pub get_d_tabulate : (n : ℕ) (f : ℕ → ℕ) (i : ℕ) → i < n → get_or (tabulate n f) i 0 ≡ f i
unfolding tabulate
get_d_tabulate zero f i l = absurd (omega arith)
get_d_tabulate (suc n) f i l =
    by_lt i n
    (λ b. get_or-append (tabulate n f) (f n ∷ []) 0 i (omega (arith, length-tabulate n f)) ∙ get_d_tabulate n f i b)
    (λ b. get_or_at (tabulate n f) (f n) [] 0 i (length-tabulate n f ∙ omega arith) ∙ ap f (omega arith))

-- a list is the table of its own elements, and of whatever agrees with them
pub tabulate_is : (l : List ℕ) (n : ℕ) (f : ℕ → ℕ) → length l ≡ n → ((i : ℕ) → i < n → get_or l i 0 ≡ f i)
    → l ≡ tabulate n f
tabulate_is l n f e at =
    ext_get_or 0 l (tabulate n f) (e ∙ sym (length-tabulate n f))
    (λ i h. at i (omega arith) ∙ sym (get_d_tabulate n f i (omega arith)))
