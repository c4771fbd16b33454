-- Laws of the Stern-Brocot levels between two neighbours: their order, number, places, sums and size.
--
--   level i l r      == the fractions of level i + 1 between l and r, left to right
--   Below s t        == s is less steep than t: the cross product of s and t is above 0
--   Adjacent s t     == the determinant of s and t, which is that cross product, is 1
--   Linked l ss r    == from l by the list ss to r, each is adjacent to the next
--   s ∈ ss           == s stands in the list ss
--   total g ss       == the sum of g over a list
--   Part f           == f is a part of a slope: a mediant's is the sum, and 0/1 and 1/0 have 1 together
use mathlib.Core.List.Memᴰ
use mathlib.Core.List.{List, [], ◌∷◌, ◌++◌, Memᴰ}
use Rattle.std.specs.Prelude.{◌⊎◌, ◌≡◌, refl, length, get_or}
use Rattle.std.proofs.Common.{inl, inr, ⊎_elim, ◌∙◌, mul-le-mul_right, le_of_lt, arith, length-append, pow_mono}
use Rattle.std.proofs.Common.{get_or-append-add}
use Rattle.std.proofs.Math.Path.{ap}
use Prim.Native.Nat.{ℕ, zero, suc, ◌+◌, ◌-◌, ◌*◌, ◌^◌, ◌≤◌, ◌<◌}
use Rattle.std.proofs.Math.Nat.{mul-lt-mul_of_pos_left, lt_of_mul-lt-mul_left, pow-suc}
use Rattle.std.proofs.Math.ListN.{get_or-append}
use Rattle.std.proofs.lemmas.List.{get_or_at}
use Rattle.laws.specs.Sums.{sum, sum_cong, sum_plus}
use Rattle.slopes.specs.declared.Slope.{Slope}
use Rattle.slopes.specs.Slopes.{across_of, up_of, ◌⊕◌, levels, level_numbers, flat, upright}

unfoldable pub level : ℕ → Slope → Slope → List Slope
level zero l r = (l ⊕ r) ∷ []
level (suc i) l r = level i l (l ⊕ r) ++ level i (l ⊕ r) r

------------------------------------------------------------------------
-- Order

abbrev pub Below : Slope → Slope → Type 0
Below s t = s.up * t.across < s.across * t.up

abbrev pub Adjacent : Slope → Slope → Type 0
Adjacent s t = s.across * t.up ≡ s.up * t.across + 1

abbrev pub Linked : Slope → List Slope → Slope → Type 0
Linked l [] r = Adjacent l r
Linked l (s ∷ ss) r = Adjacent l s × Linked s ss r

pub below_trans : (s t u : Slope) → 1 ≤ s.across → Below s t → Below t u → Below s u
below_trans s t u p h g =
    lt_of_mul-lt-mul_left t.across
    (let h' = mul-le-mul_right u.across (le_of_lt h) in let g' = mul-lt-mul_of_pos_left g p in omega arith)

-- a factor of a product above 0 is above 0
factor_left : (a b c : ℕ) → a * b ≡ c + 1 → 1 ≤ a
factor_left zero b c e = absurd (omega arith)
factor_left (suc a) b c e = omega arith

below_across : (s t : Slope) → Below s t → 1 ≤ s.across
below_across s t h = factor_left s.across t.up (s.across * t.up - 1) (omega arith)

pub adjacent_across : (s t : Slope) → Adjacent s t → 1 ≤ s.across
adjacent_across s t h = factor_left s.across t.up (s.up * t.across) h

pub adjacent_up : (s t : Slope) → Adjacent s t → 1 ≤ t.up
adjacent_up s t h = factor_left t.up s.across (s.up * t.across) (omega arith)

linked_join : (l m r : Slope) (a b : List Slope) → Linked l a m → Linked m b r → Linked l (a ++ (m ∷ b)) r
linked_join l m r [] b h g = (h, g)
linked_join l m r (s ∷ a) b h g = (h.0, linked_join s m r a b h.1 g)

-- the levels between adjacent neighbours
pub levels_linked : (k : ℕ) (l r : Slope) → Adjacent l r → Linked l (levels k l r) r
unfolding levels
levels_linked zero l r h = h
levels_linked (suc k) l r h =
    linked_join l (l ⊕ r) r (levels k l (l ⊕ r)) (levels k (l ⊕ r) r)
    (levels_linked k l (l ⊕ r) (omega arith))
    (levels_linked k (l ⊕ r) r (omega arith))

linked_across : (l r : Slope) (ss : List Slope) → Linked l ss r → 1 ≤ l.across
linked_across l r [] h = adjacent_across l r h
linked_across l r (s ∷ ss) h = adjacent_across l s h.0

linked_below : (l r d : Slope) (ss : List Slope) → Linked l ss r → (i : ℕ) → i < length ss → Below l (get_or ss i d)
linked_below l r d [] h i g = absurd (omega arith)
linked_below l r d (s ∷ ss) h zero g = omega arith
linked_below l r d (s ∷ ss) h (suc i) g =
    below_trans l s (get_or ss i d) (adjacent_across l s h.0) (omega arith)
    (linked_below s r d ss h.1 i (omega arith))

module _ (r d : Slope) where
  pub linked_positive : (l : Slope) (ss : List Slope) → Linked l ss r → (i : ℕ) → i < length ss
      → (1 ≤ (get_or ss i d).across) × (1 ≤ (get_or ss i d).up)
  linked_positive l [] h i g = absurd (omega arith)
  linked_positive l (s ∷ ss) h zero g = (linked_across s r ss h.1, adjacent_up l s h.0)
  linked_positive l (s ∷ ss) h (suc i) g = linked_positive s ss h.1 i (omega arith)

  pub linked_increasing : (l : Slope) (ss : List Slope) → Linked l ss r → (i j : ℕ) → i < j → j < length ss
      → Below (get_or ss i d) (get_or ss j d)
  linked_increasing l [] h i j f g = absurd (omega arith)
  linked_increasing l (s ∷ ss) h i zero f g = absurd (omega arith)
  linked_increasing l (s ∷ ss) h zero (suc j) f g = linked_below s r d ss h.1 j (omega arith)
  linked_increasing l (s ∷ ss) h (suc i) (suc j) f g = linked_increasing s ss h.1 i j (omega arith) (omega arith)

  pub linked_adjacent : (l : Slope) (ss : List Slope) → Linked l ss r → (i : ℕ) → suc i < length ss
      → Adjacent (get_or ss i d) (get_or ss (suc i) d)
  linked_adjacent l [] h i g = absurd (omega arith)
  linked_adjacent l (s ∷ []) h i g = absurd (omega arith)
  linked_adjacent l (s ∷ t ∷ ss) h zero g = h.1.0
  linked_adjacent l (s ∷ t ∷ ss) h (suc i) g = linked_adjacent s (t ∷ ss) h.1 i (omega arith)

------------------------------------------------------------------------
-- Number and place

-- entries up to position q - 1, counted from 1, one at q, and others after it
module _ {A : Type 0} (before : List A) (m : A) (after : List A) (q : ℕ) (long : length before + 1 ≡ q) where
  joined_length : length after + 1 ≡ q → length (before ++ (m ∷ after)) + 1 ≡ q * 2
  joined_length same = rw (length-append before (m ∷ after)) (omega arith)

  joined_left : (d : A) (p : ℕ) → 1 ≤ p → p < q → get_or (before ++ (m ∷ after)) (p - 1) d ≡ get_or before (p - 1) d
  joined_left d p h g = get_or-append before (m ∷ after) d (p - 1) (omega arith)

  joined_middle : (d : A) → get_or (before ++ (m ∷ after)) (q - 1) d ≡ m
  joined_middle d = get_or_at before m after d (q - 1) (omega arith)

  joined_right : (d : A) (p : ℕ) → 1 ≤ p → get_or (before ++ (m ∷ after)) (q + p - 1) d ≡ get_or after (p - 1) d
  joined_right d p h =
      let e : q + p - 1 ≡ length before + suc (p - 1) = omega arith in
      rw e (get_or-append-add before (m ∷ after) (suc (p - 1)) d)

pub levels-length : (k : ℕ) (l r : Slope) → length (levels k l r) + 1 ≡ 2 ^ k
unfolding levels
levels-length zero l r = refl
levels-length (suc k) l r =
    rw pow-suc
    (joined_length (levels k l (l ⊕ r)) (l ⊕ r) (levels k (l ⊕ r) r) (2 ^ k) (levels-length k l (l ⊕ r))
    (levels-length k (l ⊕ r) r))

pub level-length : (i : ℕ) (l r : Slope) → length (level i l r) ≡ 2 ^ i
unfolding level
level-length zero l r = refl
level-length (suc i) l r =
    let a = level-length i l (l ⊕ r) in
    let b = level-length i (l ⊕ r) r in
    rw (length-append (level i l (l ⊕ r)) (level i (l ⊕ r) r), pow-suc) (omega arith)

-- of k + 1 levels the first fraction stands at position 2^k, counted from 1; k levels stand before it, and k after it
pub levels_left : (k : ℕ) (l r d : Slope) (p : ℕ) → 1 ≤ p → p < 2 ^ k
    → get_or (levels (suc k) l r) (p - 1) d ≡ get_or (levels k l (l ⊕ r)) (p - 1) d
unfolding levels
levels_left k l r d =
    joined_left (levels k l (l ⊕ r)) (l ⊕ r) (levels k (l ⊕ r) r) (2 ^ k) (levels-length k l (l ⊕ r)) d

pub levels_middle : (k : ℕ) (l r d : Slope) → get_or (levels (suc k) l r) (2 ^ k - 1) d ≡ l ⊕ r
unfolding levels
levels_middle k l r d =
    joined_middle (levels k l (l ⊕ r)) (l ⊕ r) (levels k (l ⊕ r) r) (2 ^ k) (levels-length k l (l ⊕ r)) d

pub levels_right : (k : ℕ) (l r d : Slope) (p : ℕ) → 1 ≤ p
    → get_or (levels (suc k) l r) (2 ^ k + p - 1) d ≡ get_or (levels k (l ⊕ r) r) (p - 1) d
unfolding levels
levels_right k l r d =
    joined_right (levels k l (l ⊕ r)) (l ⊕ r) (levels k (l ⊕ r) r) (2 ^ k) (levels-length k l (l ⊕ r)) d

numbers_length : (k i : ℕ) → length (level_numbers k i) + 1 ≡ 2 ^ k
unfolding level_numbers
numbers_length zero i = refl
numbers_length (suc k) i =
    let half = level_numbers k (suc i) in
    rw pow-suc (joined_length half i half (2 ^ k) (numbers_length k (suc i)) (numbers_length k (suc i)))

-- the levels' numbers stand as their fractions do
pub numbers_left : (k i d p : ℕ) → 1 ≤ p → p < 2 ^ k
    → get_or (level_numbers (suc k) i) (p - 1) d ≡ get_or (level_numbers k (suc i)) (p - 1) d
unfolding level_numbers
numbers_left k i d =
    joined_left (level_numbers k (suc i)) i (level_numbers k (suc i)) (2 ^ k) (numbers_length k (suc i)) d

pub numbers_middle : (k i d : ℕ) → get_or (level_numbers (suc k) i) (2 ^ k - 1) d ≡ i
unfolding level_numbers
numbers_middle k i d =
    joined_middle (level_numbers k (suc i)) i (level_numbers k (suc i)) (2 ^ k) (numbers_length k (suc i)) d

pub numbers_right : (k i d p : ℕ) → 1 ≤ p
    → get_or (level_numbers (suc k) i) (2 ^ k + p - 1) d ≡ get_or (level_numbers k (suc i)) (p - 1) d
unfolding level_numbers
numbers_right k i d =
    joined_right (level_numbers k (suc i)) i (level_numbers k (suc i)) (2 ^ k) (numbers_length k (suc i)) d

------------------------------------------------------------------------
-- Which fractions

infix 50 ◌∈◌
abbrev pub ◌∈◌ : Slope → List Slope → Type 0
s ∈ ss = Memᴰ s ss

-- what is in the levels is in one of them
pub levels_in_level : (k : ℕ) (l r s : Slope) → s ∈ levels k l r → (i : ℕ) × (i < k) × s ∈ level i l r
unfolding levels level
levels_in_level zero l r s m = absurd (Memᴰ.not-nil m)
levels_in_level (suc k) l r s m =
    let mid = l ⊕ r in
    ⊎_elim
    (λ a. let i = levels_in_level k l mid s a in
    (suc i.0, omega arith, Memᴰ.append_left (level i.0 mid r) i.2))
    (λ b. ⊎_elim (λ e. (0, omega arith, Memᴰ.head e))
    (λ a. let i = levels_in_level k mid r s a in
    (suc i.0, omega arith, Memᴰ.append_right (level i.0 l mid) i.2))
    (Memᴰ.cases_cons b))
    (Memᴰ.append_cases (levels k l mid) m)

-- and what is in one of them is in the levels
pub level_in_levels : (k i : ℕ) (l r s : Slope) → i < k → s ∈ level i l r → s ∈ levels k l r
unfolding levels level
level_in_levels zero i l r s h m = absurd (omega arith)
level_in_levels (suc k) zero l r s h m =
    Memᴰ.append_right (levels k l (l ⊕ r)) (Memᴰ.head (Memᴰ.eq_of_singleton m))
level_in_levels (suc k) (suc i) l r s h m =
    ⊎_elim (λ a. Memᴰ.append_left _ (level_in_levels k i l (l ⊕ r) s (omega arith) a))
    (λ b. Memᴰ.append_right (levels k l (l ⊕ r)) (Memᴰ.tail (level_in_levels k i (l ⊕ r) r s (omega arith) b)))
    (Memᴰ.append_cases (level i l (l ⊕ r)) m)

pub get_d_in : (d : Slope) (ss : List Slope) (i : ℕ) → i < length ss → get_or ss i d ∈ ss
get_d_in d [] i h = absurd (omega arith)
get_d_in d (s ∷ ss) zero h = Memᴰ.head refl
get_d_in d (s ∷ ss) (suc i) h = Memᴰ.tail (get_d_in d ss i (omega arith))

-- a level stands between the neighbours
level_between : (i : ℕ) (l r s : Slope) → Adjacent l r → s ∈ level i l r → Below l s × Below s r
unfolding level
level_between zero l r s h m = rw (Memᴰ.eq_of_singleton m) (omega arith, omega arith)
level_between (suc i) l r s h m =
    let mid = l ⊕ r in
    ⊎_elim
    (λ a. let b = level_between i l mid s (omega arith) a in
    (b.0, below_trans s mid r (below_across s mid b.1) b.1 (omega arith)))
    (λ a. let b = level_between i mid r s (omega arith) a in
    (below_trans l mid s (adjacent_across l r h) (omega arith) b.0, b.1))
    (Memᴰ.append_cases (level i l mid) m)

-- a level but the first stands on both sides of the middle
sides : (i : ℕ) (l r s : Slope) → Adjacent l r → s ∈ level (suc i) l r
    → (Below s (l ⊕ r) × (s ∈ level i l (l ⊕ r))) ⊎ (Below (l ⊕ r) s × (s ∈ level i (l ⊕ r) r))
unfolding level
sides i l r s h m =
    ⊎_elim
    (λ a. inl ((level_between i l (l ⊕ r) s (omega arith) a).1, a))
    (λ a. inr ((level_between i (l ⊕ r) r s (omega arith) a).0, a))
    (Memᴰ.append_cases (level i l (l ⊕ r)) m)

-- so what is in it is not the middle
off_middle : (i : ℕ) (l r s : Slope) → Adjacent l r → s ∈ level (suc i) l r → s ≡ l ⊕ r → ⊥
off_middle i l r s h m e =
    ⊎_elim (λ a. let b = rw e at a.0 in omega arith) (λ a. let b = rw e at a.0 in omega arith) (sides i l r s h m)

-- what is in the levels is in only one of them
pub one-level : (i j : ℕ) (l r s : Slope) → Adjacent l r → s ∈ level i l r → s ∈ level j l r → i ≡ j
unfolding level
one-level zero zero l r s h a b = refl
one-level zero (suc j) l r s h a b = absurd (off_middle j l r s h b (Memᴰ.eq_of_singleton a))
one-level (suc i) zero l r s h a b = absurd (off_middle i l r s h a (Memᴰ.eq_of_singleton b))
one-level (suc i) (suc j) l r s h a b =
    ⊎_elim
    (λ p. ⊎_elim (λ q. ap suc (one-level i j l (l ⊕ r) s (omega arith) p.1 q.1))
    (λ q. absurd (omega (arith, p.0, q.0)))
    (sides j l r s h b))
    (λ p. ⊎_elim (λ q. absurd (omega (arith, p.0, q.0)))
    (λ q. ap suc (one-level i j (l ⊕ r) r s (omega arith) p.1 q.1))
    (sides j l r s h b))
    (sides i l r s h a)

------------------------------------------------------------------------
-- Sums

abbrev pub total : (Slope → ℕ) → List Slope → ℕ
total g [] = 0
total g (s ∷ ss) = g s + total g ss

total_join : (g : Slope → ℕ) (a b : List Slope) → total g (a ++ b) ≡ total g a + total g b
total_join g [] b = omega arith
total_join g (s ∷ a) b = omega (arith, total_join g a b)

-- a sum's first term apart
sum_first : (g : ℕ → ℕ) (n : ℕ) → sum g (suc n) ≡ g 0 + sum (λ i. g (suc i)) n
unfolding sum
sum_first g zero = omega arith
sum_first g (suc n) = omega (arith, sum_first g n)

-- the first entries of a list sum to no more than all of them
pub sum-total : (g : Slope → ℕ) (d : Slope) (ss : List Slope) (m : ℕ) → m ≤ length ss
    → sum (λ i. g (get_or ss i d)) m ≤ total g ss
unfolding sum
sum-total g d ss zero h = omega arith
sum-total g d [] (suc m) h = absurd (omega arith)
sum-total g d (s ∷ ss) (suc m) h =
    omega (arith, sum_first (λ i. g (get_or (s ∷ ss) i d)) m, sum-total g d ss m (omega arith))

-- whatever is summed over k levels is summed over each of them: they hold each one's fractions, as often as it does
pub levels-total : (g : Slope → ℕ) (k : ℕ) (l r : Slope) → total g (levels k l r) ≡ sum (λ i. total g (level i l r)) k
unfolding levels level sum
levels-total g zero l r = refl
levels-total g (suc k) l r =
    let m = l ⊕ r in
    let before = levels-total g k l m in
    let after = levels-total g k m r in
    let both = sum_plus (λ i. total g (level i l m)) (λ i. total g (level i m r)) k in
    let lower = sum_cong (λ i. total g (level (suc i) l r)) (λ i. total g (level i l m) + total g (level i m r)) k
    (λ i h. total_join g (level i l m) (level i m r)) in
    let split = sum_first (λ i. total g (level i l r)) k in
    total_join g (levels k l m) (m ∷ levels k m r) ∙ omega arith

powers_sum : (k : ℕ) → 2 * sum (λ i. 3 ^ i) k + 1 ≡ 3 ^ k
unfolding sum
powers_sum zero = refl
powers_sum (suc k) = omega (arith, powers_sum k, pow-suc 3 k)

------------------------------------------------------------------------
-- Parts

pub record Part (f : Slope → ℕ) : Type 0 where
  pub adds : (s t : Slope) → f (s ⊕ t) ≡ f s + f t
  pub shared : f flat + f upright ≡ 1

pub across_part : Part across_of
across_part = record { adds = λ s t. refl; shared = refl }

pub up_part : Part up_of
up_part = record { adds = λ s t. refl; shared = refl }

module _ (f : Slope → ℕ) (part : Part f) where
  sum_between : (i : ℕ) (l r : Slope) → total f (level i l r) ≡ 3 ^ i * (f l + f r)
  unfolding level
  sum_between zero l r = omega (arith, part.adds l r)
  sum_between (suc i) l r =
      let m = l ⊕ r in
      let joined = total_join f (level i l m) (level i m r) in
      rw (joined, pow-suc, sum_between i l m, sum_between i m r, part.adds l r) (omega arith)

  -- level i + 1 has parts that sum to 3^i
  pub level-sum : (i : ℕ) → total f (level i flat upright) ≡ 3 ^ i
  level-sum i = rw (sum_between i flat upright, part.shared) (omega arith)

  -- k levels have parts that sum to (3^k - 1)/2
  pub levels-sum : (k : ℕ) → 2 * total f (levels k flat upright) + 1 ≡ 3 ^ k
  levels-sum k =
      let each = sum_cong (λ i. total f (level i flat upright)) (λ i. 3 ^ i) k (λ i h. level-sum i) in
      rw (levels-total f k flat upright, each) (powers_sum k)

  size_between : (i : ℕ) (l r s : Slope) → s ∈ level i l r → f s ≤ 2 ^ i * (f l + f r)
  unfolding level
  size_between zero l r s m = omega (arith, ap f (Memᴰ.eq_of_singleton m), part.adds l r)
  size_between (suc i) l r s m =
      rw pow-suc
      (⊎_elim (λ a. omega (arith, rw (part.adds l r) at (size_between i l (l ⊕ r) s a)))
      (λ b. omega (arith, rw (part.adds l r) at (size_between i (l ⊕ r) r s b)))
      (Memᴰ.append_cases (level i l (l ⊕ r)) m))

  -- a fraction of k levels has parts of at most 2^(k - 1)
  pub levels-size : (k : ℕ) (s : Slope) → s ∈ levels k flat upright → 2 * f s ≤ 2 ^ k
  levels-size k s m =
      let i = levels_in_level k flat upright s m in
      let small : f s ≤ 2 ^ i.0 * 1 = rw part.shared at (size_between i.0 flat upright s i.2) in
      let least : 2 ^ suc i.0 ≤ 2 ^ k = pow_mono i.1 in
      omega arith
