-- Laws of the number of levels and of the slopes, for both rules.
use Rattle.std.specs.Prelude.{Bool, List, ◌≡◌, refl, ℕ, zero, suc, ◌+◌, ◌-◌, ◌*◌, ◌^◌, ◌≤◌, ◌<◌, leb, length, get_or}
use Rattle.std.proofs.Common.{ap, ◌∙◌, pow-suc, le_antisymm, arith, pow_mono, leb-true, le-leb}
use Rattle.std.specs.Int.Count.{count_leading_zeros}
use Rattle.std.proofs.lemmas.Nat.{leading_length}
use Rattle.laws.specs.Search.{least}
use Rattle.laws.specs.SearchLaws.{least_le, least_passes, least-found}
use Rattle.laws.specs.Sums.{sum, sum_cong}
use Rattle.laws.specs.Tests.{by_lt}
use Rattle.table.proofs.NumberingLaws.{numbering}
use Rattle.table.specs.Table.{parent, post_number}
use Rattle.table.specs.TableLaws.{Tree}
use Rattle.slopes.specs.declared.Rule.{Rule}
use Rattle.slopes.specs.declared.Rule.TheVariants.{Steep, Balanced}
use Rattle.slopes.specs.declared.Slope.{Slope}
use Rattle.slopes.proofs.LevelLaws.{Below, Adjacent, Linked, levels_linked, levels-length, get_d_in, sum-total}
use Rattle.slopes.proofs.LevelLaws.{linked_positive, linked_increasing, linked_adjacent}
use Rattle.slopes.proofs.LevelLaws.{Part, across_part, up_part, levels-sum, levels-size}
use Rattle.slopes.specs.Slopes.{across_of, up_of, levels, flat, upright, fraction_at, levels_for, slope_at, edge}
use Rattle.slopes.specs.Bounds.{across_bound, up_bound}

------------------------------------------------------------------------
-- The number of levels

lt_two_pow : (n : ℕ) → n < 2 ^ n
lt_two_pow zero = omega arith
lt_two_pow (suc n) = let h = lt_two_pow n in rw pow-suc (omega arith)

pub levels_for_enough : (n : ℕ) → n ≤ 2 ^ levels_for n
unfolding levels_for
levels_for_enough n =
    let holds : ℕ → Bool = λ k. leb n (2 ^ k) in
    by_lt (least holds n) n
    (λ l. leb-true n (2 ^ least holds n) (least_passes holds n l))
    (λ l. let e : n ≡ least holds n = le_antisymm l (least_le holds n) in
    omega (arith, lt_two_pow n, ap (λ k. 2 ^ k) e))

pub levels_for-least : (n k : ℕ) → n ≤ 2 ^ k → levels_for n ≤ k
unfolding levels_for
levels_for-least n k h =
    let holds : ℕ → Bool = λ k. leb n (2 ^ k) in
    by_lt k n
    (λ l. (least-found holds n k l (le-leb n (2 ^ k) h)).0)
    (λ l. omega (arith, least_le holds n))

-- fewer levels are too few
pub levels_for_above : (n k : ℕ) → k < levels_for n → 2 ^ k < n
levels_for_above n k h = by_lt (2 ^ k) n (λ l. l) (λ l. absurd (omega (arith, levels_for-least n k l)))

pub levels_for_is : (n k : ℕ) → n ≤ 2 ^ k → ((i : ℕ) → i < k → 2 ^ i < n) → levels_for n ≡ k
levels_for_is n k h below =
    le_antisymm (levels_for-least n k h)
    (by_lt (levels_for n) k (λ l. absurd (omega (arith, below (levels_for n) l, levels_for_enough n))) (λ l. l))

-- n - 1 written in w bits has as many of them below its leading zeros
pub levels_for_leading : (w n : ℕ) → 1 ≤ n → n ≤ 2 ^ w → levels_for n ≡ w - count_leading_zeros w (n - 1)
levels_for_leading w n h g =
    let m = leading_length w (n - 1) (omega arith) in
    levels_for_is n m.0 (omega arith)
    (λ i l. let p : 2 ^ suc i ≤ 2 ^ m.0 = pow_mono l in omega arith)
    ∙ omega arith

------------------------------------------------------------------------
-- The j-th fraction of k levels

abbrev fractions : ℕ → List Slope
fractions k = levels k flat upright

linked : (k : ℕ) → Linked flat (fractions k) upright
linked k = levels_linked k flat upright refl

inside : (k j : ℕ) → 1 ≤ j → j < 2 ^ k → j - 1 < length (fractions k)
inside k j h g = omega (arith, levels-length k flat upright)

pub fraction_positive : (k j : ℕ) → 1 ≤ j → j < 2 ^ k → (1 ≤ (fraction_at k j).across) × (1 ≤ (fraction_at k j).up)
fraction_positive k j h g = linked_positive upright flat flat (fractions k) (linked k) (j - 1) (inside k j h g)

pub fraction_increasing : (k i j : ℕ) → 1 ≤ i → i < j → j < 2 ^ k → Below (fraction_at k i) (fraction_at k j)
fraction_increasing k i j h l g =
    let last = inside k j (omega arith) g in
    linked_increasing upright flat flat (fractions k) (linked k) (i - 1) (j - 1) (omega arith) last

pub fraction_adjacent : (k j : ℕ) → 1 ≤ j → suc j < 2 ^ k → Adjacent (fraction_at k j) (fraction_at k (suc j))
fraction_adjacent k j h g =
    let e : suc j - 1 ≡ suc (j - 1) = omega arith in
    let last = inside k (suc j) (omega arith) g in
    rw e (linked_adjacent upright flat flat (fractions k) (linked k) (j - 1) (omega arith))

pub fraction_size : (f : Slope → ℕ) → Part f → (k j : ℕ) → 1 ≤ j → j < 2 ^ k → 2 * f (fraction_at k j) ≤ 2 ^ k
fraction_size f part k j h g =
    levels-size f part k (fraction_at k j) (get_d_in flat (fractions k) (j - 1) (inside k j h g))

------------------------------------------------------------------------
-- The j-th slope

below_power : (n j : ℕ) → j < n → j < 2 ^ levels_for n
below_power n j h = omega (arith, levels_for_enough n)

pub slope_positive : (rule : Rule) (n j : ℕ) → 1 ≤ j → j < n
    → (1 ≤ (slope_at rule n j).across) × (1 ≤ (slope_at rule n j).up)
unfolding slope_at
slope_positive Steep n j h g = (omega arith, h)
slope_positive Balanced n j h g = fraction_positive (levels_for n) j h (below_power n j g)

pub slope_increasing : (rule : Rule) (n i j : ℕ) → 1 ≤ i → i < j → j < n → Below (slope_at rule n i) (slope_at rule n j)
unfolding slope_at
slope_increasing Steep n i j h l g = omega arith
slope_increasing Balanced n i j h l g = fraction_increasing (levels_for n) i j h l (below_power n j g)

pub slope_adjacent : (n j : ℕ) → 1 ≤ j → suc j < n → Adjacent (slope_at Balanced n j) (slope_at Balanced n (suc j))
unfolding slope_at
slope_adjacent n j h g = fraction_adjacent (levels_for n) j h (below_power n (suc j) g)

-- half of 2^k is still below n
half_below : (n m : ℕ) → 1 < n → 2 * m ≤ 2 ^ levels_for n → m < n
half_below n m h g = go (levels_for n) refl
  where
    go : (k : ℕ) → levels_for n ≡ k → m < n
    go zero e = absurd (omega (arith, levels_for_enough n, ap (λ i. 2 ^ i) e))
    go (suc k) e = omega (arith, levels_for_above n k (omega arith), ap (λ i. 2 ^ i) e, pow-suc 2 k)

-- both parts are below the number of nodes
pub slope_size : (rule : Rule) (n j : ℕ) → 1 ≤ j → j < n → ((slope_at rule n j).across < n) × ((slope_at rule n j).up < n)
unfolding slope_at
slope_size Steep n j h g = (omega arith, g)
slope_size Balanced n j h g = (size across_of across_part, size up_of up_part)
  where
    size : (f : Slope → ℕ) → Part f → f (fraction_at (levels_for n) j) < n
    size f part =
        half_below n (f (fraction_at (levels_for n) j)) (omega arith)
        (fraction_size f part (levels_for n) j h (below_power n j g))

------------------------------------------------------------------------
-- All slopes

ones-sum : (m : ℕ) → sum (λ i. 1) m ≡ m
unfolding sum
ones-sum zero = refl
ones-sum (suc m) = omega (arith, ones-sum m)

counting_sum : (m : ℕ) → 2 * sum (λ i. suc i) m ≡ suc m * m
unfolding sum
counting_sum zero = refl
counting_sum (suc m) = omega (arith, counting_sum m)

pub steep_across_sum : (n : ℕ) → sum (λ i. (slope_at Steep n (suc i)).across) (n - 1) ≡ n - 1
unfolding slope_at
steep_across_sum n = ones-sum (n - 1)

pub steep_up_sum : (n : ℕ) → 1 ≤ n → 2 * sum (λ i. (slope_at Steep n (suc i)).up) (n - 1) ≡ n * (n - 1)
unfolding slope_at
steep_up_sum n h = let e : suc (n - 1) ≡ n = omega arith in counting_sum (n - 1) ∙ ap (λ k. k * (n - 1)) e

pub balanced-sum : (f : Slope → ℕ) → Part f → (n : ℕ) → 1 ≤ n
    → 2 * sum (λ i. f (slope_at Balanced n (suc i))) (n - 1) + 1 ≤ 3 ^ levels_for n
unfolding slope_at
balanced-sum f part n h =
    let k = levels_for n in
    let same = sum_cong (λ i. f (fraction_at k (suc i))) (λ i. f (get_or (fractions k) i flat)) (n - 1)
    (λ i l. ap (λ p. f (get_or (fractions k) p flat)) (omega arith)) in
    let long : n - 1 ≤ length (fractions k) = omega (arith, levels-length k flat upright, levels_for_enough n) in
    let all = sum-total f flat (fractions k) (n - 1) long in
    omega (arith, same, levels-sum f part k)

pub across_sum : (rule : Rule) (n : ℕ) → 1 ≤ n → sum (λ i. (slope_at rule n (suc i)).across) (n - 1) ≤ across_bound rule n
across_sum Steep n h = omega (arith, steep_across_sum n)
across_sum Balanced n h = omega (arith, balanced-sum across_of across_part n h)

pub up_sum : (rule : Rule) (n : ℕ) → 1 ≤ n → sum (λ i. (slope_at rule n (suc i)).up) (n - 1) ≤ up_bound rule n
up_sum Steep n h = omega (arith, steep_up_sum n h)
up_sum Balanced n h = omega (arith, balanced-sum up_of up_part n h)

------------------------------------------------------------------------
-- The slope of an edge

-- from the node's post number
pub edge_is : (P R : List ℕ) (rule : Rule) (v : ℕ) {j : ℕ} {s : Slope} → j ≡ post_number P R v
    → s ≡ slope_at rule (length P) j → s ≡ edge P R rule v
unfolding edge
edge_is P R rule v at e = e ∙ ap (slope_at rule (length P)) at

module _ {P R : List ℕ} (tree : Tree P R) (rule : Rule) (v : ℕ) (above : 0 < v) (inside : v < length P) where
  numbered : (1 ≤ post_number P R v) × (post_number P R v < length P)
  numbered =
      let n = numbering tree in
      (n.from_1 v inside, omega (arith, n.parent_later v above inside, n.to_n (parent P v) (tree.inside v inside)))

  pub edge_positive : (1 ≤ (edge P R rule v).across) × (1 ≤ (edge P R rule v).up)
  unfolding edge
  edge_positive = slope_positive rule (length P) (post_number P R v) numbered.0 numbered.1

  pub edge-size : ((edge P R rule v).across < length P) × ((edge P R rule v).up < length P)
  unfolding edge
  edge-size = slope_size rule (length P) (post_number P R v) numbered.0 numbered.1
