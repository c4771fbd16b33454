-- A position's fraction by one descent, and its level: how many turns by the zeros that end the position in base two,
-- and each turn by one of its bits.
--
--   bit_of j b             == the bit of j with the weight 2^b
--   descent h t j l r     == the fraction to which h turns lead from l ⊕ r: the h bits of j above bit t, highest first,
--                            are the turns, 1 to the right and 0 to the left
--   Ends j t              == j ends in t zeros, with a 1 above them
--   by_position           == by induction: what holds of the middle of t + 1 levels, and of k + 1 levels where it holds
--                            of their half, the k levels on one side of the middle, holds of every position that ends
--                            in t zeros
use Rattle.std.specs.Prelude.{cond, ◌≡◌, refl, eqb, get_or}
use mathlib.Core.List.Memᴰ
use Rattle.std.proofs.Common.{sym, ap, ◌∙◌, mod-eq_of_lt, mod-lt, pow-suc, one-add, pow_pos, pow_mono, eq-eqb, ne_eqb}
use Rattle.std.proofs.Math.Path.{subst⁻¹}
use Prim.Native.Nat.{ℕ, zero, suc, ◌+◌, ◌-◌, ◌*◌, ◌/◌, ◌%◌, ◌^◌, ◌≤◌, ◌<◌}
use Rattle.std.proofs.Math.Nat.{mod-le}
use native.Mathlib.Omega.{arith}
use Rattle.std.proofs.Math.Arith.{mod-mul}
use Rattle.std.specs.Int.Count.{count_trailing_zeros, under}
use Rattle.std.proofs.lemmas.Nat.{mod-pow-add}
use Rattle.std.proofs.Math.Pow.{mod-mod-pow}
use Rattle.laws.specs.Tests.{by_test, by_eq, by_lt}
use Rattle.slopes.specs.declared.Slope.{Slope}
use Rattle.slopes.proofs.LevelLaws.{◌∈◌, level, one-level, levels_left, levels_middle, levels_right}
use Rattle.slopes.proofs.LevelLaws.{numbers_left, numbers_middle, numbers_right}
use Rattle.slopes.specs.Slopes.{◌⊕◌, levels, level_numbers, flat, upright, fraction_at, level_at}

abbrev pub bit_of : ℕ → ℕ → ℕ
bit_of j b = j / 2 ^ b % 2

unfoldable pub descent : ℕ → ℕ → ℕ → Slope → Slope → Slope
descent zero t j l r = l ⊕ r
descent (suc h) t j l r = cond (eqb (bit_of j (suc h + t)) 1) (descent h t j (l ⊕ r) r) (descent h t j l (l ⊕ r))

abbrev pub Ends : ℕ → ℕ → Type 0
Ends j t = j % 2 ^ suc t ≡ 2 ^ t

------------------------------------------------------------------------
-- Bits

-- the lowest m + 1 bits are bit m and the lowest m
bits_more : (j m : ℕ) → j % 2 ^ suc m ≡ bit_of j m * 2 ^ m + j % 2 ^ m
bits_more j m = ap (λ k. j % 2 ^ k) (sym (one-add m)) ∙ mod-pow-add j 1 m

-- the trailing zeros of a number above 0, written in w bits
pub trailing_ends : (w j : ℕ) → 1 ≤ j → j < 2 ^ w → Ends j (count_trailing_zeros w j)
unfolding count_trailing_zeros
trailing_ends zero j h g = absurd (omega arith)
trailing_ends (suc w) j h g = go (j % 2) refl (λ e. trailing_ends w (j / 2) (omega arith) (omega arith))
  where
    go : (b : ℕ) → j % 2 ≡ b → (j % 2 ≡ 0 → Ends (j / 2) (count_trailing_zeros w (j / 2)))
        → Ends j (under b (count_trailing_zeros w (j / 2)))
    go zero e half =
        let t = count_trailing_zeros w (j / 2) in
        let parts : j % (2 ^ suc t * 2) ≡ (j / 2 % 2 ^ suc t) * 2 + j % 2 = mod-mul j (pow_pos (suc t)) (omega arith) in
        ap (λ k. j % k) (pow-suc 2 (suc t)) ∙ omega (arith, half e, pow-suc 2 t)
    go (suc b) e half = omega arith

-- more of the lowest bits than the zeros that end the number are not all 0
ends_positive : (j t m : ℕ) → Ends j t → t < m → 1 ≤ j % 2 ^ m
ends_positive j t m e h =
    let long : m - suc t + suc t ≡ m = omega arith in
    let low : j % 2 ^ m % 2 ^ suc t ≡ j % 2 ^ suc t = rw long at (mod-mod-pow j (m - suc t) (suc t)) in
    omega (arith, mod-le (j % 2 ^ m) (2 ^ suc t), pow_pos t)

pub ends_below : (j t k : ℕ) → Ends j t → j < 2 ^ k → t < k
ends_below j t k e h =
    by_lt t k (λ l. l) (λ l. absurd (let p : 2 ^ k ≤ 2 ^ t = pow_mono l in omega (arith, mod-le j (2 ^ suc t))))

------------------------------------------------------------------------
-- Positions

-- the middle of t + 1 levels is the position 2^t, and bit k of a position of k + 1 levels says in which half it stands
module _ (t j : ℕ) (Q : ℕ → ℕ → Type 0) (q : Ends j t) (middle : Q (suc t) (2 ^ t))
    (right : (k p : ℕ) → t < k → 1 ≤ p → p < 2 ^ k → bit_of j k ≡ 1 → Q k p → Q (suc k) (2 ^ k + p))
    (left : (k p : ℕ) → t < k → 1 ≤ p → p < 2 ^ k → (bit_of j k ≡ 1 → ⊥) → Q k p → Q (suc k) p) where
  -- the position in the last h + t + 1 bits of j
  in_bits : (h k : ℕ) → k ≡ suc h + t → Q k (j % 2 ^ k)
  in_bits zero k e =
      let same : k ≡ suc t = omega arith in
      subst⁻¹ (λ i. Q i (j % 2 ^ i)) same (subst⁻¹ (Q (suc t)) q middle)
  in_bits (suc h) zero e = absurd (omega arith)
  in_bits (suc h) (suc k) e =
      let rest = j % 2 ^ k in
      let more : t < k = omega arith in
      let some : 1 ≤ rest = ends_positive j t k q more in
      let less : rest < 2 ^ k = mod-lt j (pow_pos k) in
      let on = in_bits h k (omega arith) in
      subst⁻¹ (Q (suc k)) (bits_more j k)
      (by_eq (bit_of j k) 1
      (λ one. let at : bit_of j k * 2 ^ k + rest ≡ 2 ^ k + rest = rw one (omega arith) in
      rw at (right k rest more some less one on))
      (λ other. let none : bit_of j k ≡ 0 = omega arith in
      let at : bit_of j k * 2 ^ k + rest ≡ rest = rw none (omega arith) in
      rw at (left k rest more some less other on)))

  pub by_position : (k : ℕ) → j < 2 ^ k → Q k j
  by_position k h =
      let low : j % 2 ^ k ≡ j = mod-eq_of_lt h in
      rw low at (in_bits (k - 1 - t) k (omega (arith, ends_below j t k q h)))

------------------------------------------------------------------------
-- The descent

-- the turn at bit b
module _ (b t j : ℕ) (l r : Slope) (more : t < b) where
  turn : descent (b - t) t j l r
      ≡ cond (eqb (bit_of j b) 1) (descent (b - 1 - t) t j (l ⊕ r) r) (descent (b - 1 - t) t j l (l ⊕ r))
  unfolding descent
  turn =
      let next : b - t ≡ suc (b - 1 - t) = omega arith in
      let at : suc (b - 1 - t) + t ≡ b = omega arith in
      rw next (rw at)

  pub descent_right : bit_of j b ≡ 1 → descent (b - t) t j l r ≡ descent (b - 1 - t) t j (l ⊕ r) r
  descent_right e = turn ∙ rw (eq-eqb (bit_of j b) 1 e)

  pub descent_left : (bit_of j b ≡ 1 → ⊥) → descent (b - t) t j l r ≡ descent (b - 1 - t) t j l (l ⊕ r)
  descent_left e = turn ∙ rw (ne_eqb (bit_of j b) 1 e)

-- it leads to the j-th of k levels, if they hold j
pub descent_is : (k t j : ℕ) (l r : Slope) → j < 2 ^ k → Ends j t
    → get_or (levels k l r) (j - 1) flat ≡ descent (k - 1 - t) t j l r
unfolding descent
descent_is k t j l r h q =
    by_position t j (λ i p. (l r : Slope) → get_or (levels i l r) (p - 1) flat ≡ descent (i - 1 - t) t j l r) q
    (λ l r. let none : suc t - 1 - t ≡ 0 = omega arith in rw none (levels_middle t l r flat))
    (λ i p more some less one on l r. rw (last i)
    (levels_right i l r flat p some ∙ on (l ⊕ r) r ∙ sym (descent_right i t j l r more one)))
    (λ i p more some less other on l r. rw (last i)
    (levels_left i l r flat p some less ∙ on l (l ⊕ r) ∙ sym (descent_left i t j l r more other)))
    k h l r
  where
    last : (i : ℕ) → suc i - 1 ≡ i
    last i = omega arith

-- after h turns it is in level h + 1
pub descent-level : (h t j : ℕ) (l r : Slope) → descent h t j l r ∈ level h l r
unfolding descent level
descent-level zero t j l r = Memᴰ.head refl
descent-level (suc h) t j l r =
    by_test (eqb (bit_of j (suc h + t)) 1)
    (λ e. rw e (Memᴰ.append_right (level h l (l ⊕ r)) (descent-level h t j (l ⊕ r) r)))
    (λ e. rw e (Memᴰ.append_left (level h (l ⊕ r) r) (descent-level h t j l (l ⊕ r))))

------------------------------------------------------------------------
-- A position's fraction and level, from its trailing zeros in a word of w bits

-- the levels below a position's own are as many as the zeros that end it
level_ends : (k t j : ℕ) → j < 2 ^ k → Ends j t → level_at k j + suc t ≡ 1 + k
level_ends k t j h q =
    by_position t j (λ k p. (i : ℕ) → get_or (level_numbers k i) (p - 1) 0 + suc t ≡ i + k) q
    (λ i. rw (numbers_middle t i 0))
    (λ k p more some less one on i. rw (numbers_right k i 0 p some) (omega (arith, on (suc i))))
    (λ k p more some less other on i. rw (numbers_left k i 0 p some less) (omega (arith, on (suc i))))
    k h _

module _ (w k j : ℕ) (fits : k ≤ w) (some : 1 ≤ j) (inside : j < 2 ^ k) where
  ends : Ends j (count_trailing_zeros w j)
  ends = let long : 2 ^ k ≤ 2 ^ w = pow_mono fits in trailing_ends w j some (omega arith)

  pub zeros_below : count_trailing_zeros w j < k
  zeros_below = ends_below j (count_trailing_zeros w j) k ends inside

  pub position_descent : fraction_at k j ≡ descent (k - 1 - count_trailing_zeros w j) (count_trailing_zeros w j) j flat upright
  position_descent = descent_is k (count_trailing_zeros w j) j flat upright inside ends

  pub position_level : level_at k j ≡ k - count_trailing_zeros w j
  position_level = omega (arith, level_ends k (count_trailing_zeros w j) j inside ends)

------------------------------------------------------------------------
-- A position's level holds its fraction

module _ (k j : ℕ) (some : 1 ≤ j) (inside : j < 2 ^ k) where
  pub in_its_level : fraction_at k j ∈ level (level_at k j - 1) flat upright
  in_its_level =
      let t = count_trailing_zeros k j in
      let turns : level_at k j - 1 ≡ k - 1 - t = omega (arith, position_level k k j (omega arith) some inside) in
      rw (turns, position_descent k k j (omega arith) some inside) (descent-level (k - 1 - t) t j flat upright)

  -- and no other does
  pub level_is : (i : ℕ) → fraction_at k j ∈ level i flat upright → level_at k j ≡ suc i
  level_is i m =
      let same = one-level (level_at k j - 1) i flat upright (fraction_at k j) refl in_its_level m in
      omega (arith, position_level k k j (omega arith) some inside, zeros_below k k j (omega arith) some inside)
