-- The table of ten levels: the rule of its neighbours, and its agreement with the tree in up to ten levels.
--
--   det s t   == a d - b c of s = (a, b) and t = (c, d)
--   all_one ss == the determinant of all neighbours in the list ss is 1, tested
use Rattle.std.specs.Prelude.{Bool, true, ◌&&◌, List, [], ◌∷◌, ◌≡◌, refl, ℕ, zero, suc, ◌+◌, ◌-◌, ◌*◌, ◌/◌, ◌%◌, ◌^◌}
use Rattle.std.specs.Prelude.{◌≤◌, ◌<◌, eqb, length, get_or, drop}
use Rattle.std.proofs.Common.{sym, ap, ◌∙◌, mul-le-mul_right, mul-lt-mul_of_pos_right, arith, pow_pos, pow-add}
use Rattle.std.proofs.Common.{get_or-take, get_or-drop, eqb-true}
use Rattle.laws.specs.Tests.{both}
use Rattle.slopes.specs.declared.Slope.{Slope}
use Rattle.slopes.proofs.LevelLaws.{levels-length}
use Rattle.slopes.specs.Neighbours.{bordered}
use Rattle.slopes.proofs.NeighbourLaws.{bordered_is, bordered_stride}
use Rattle.slopes.specs.Rows.{ten_at, row_of, in_four, slopes_in}
use Rattle.slopes.specs.Slopes.{levels, flat, upright, fraction_at}
use Rattle.slopes.specs.Ten.{ten}

------------------------------------------------------------------------
-- The rule: one test of the whole table, and what it says of each two neighbours

abbrev pub det : Slope → Slope → ℕ
det s t = s.across * t.up - s.up * t.across

abbrev all_one : List Slope → Bool
all_one [] = true
all_one (s ∷ []) = true
all_one (s ∷ t ∷ ss) = eqb (det s t) 1 && all_one (t ∷ ss)

tested : all_one ten ≡ true
unfolding ten
tested = refl

one_at : (ss : List Slope) → all_one ss ≡ true → (i : ℕ) (d : Slope) → suc i < length ss
    → det (get_or ss i d) (get_or ss (suc i) d) ≡ 1
one_at [] all i d h = absurd (omega arith)
one_at (s ∷ []) all i d h = absurd (omega arith)
one_at (s ∷ t ∷ ss) all zero d h = eqb-true (det s t) 1 (both (eqb (det s t) 1) (all_one (t ∷ ss)) all).0
one_at (s ∷ t ∷ ss) all (suc i) d h =
    one_at (t ∷ ss) (both (eqb (det s t) 1) (all_one (t ∷ ss)) all).1 i d (omega arith)

------------------------------------------------------------------------
-- The tree: the table is its ten levels, and of them the slopes of k levels are every 2^(10 - k)-th

ten_is : ten ≡ levels 10 flat upright
unfolding ten levels
ten_is = refl

ten-length : length ten ≡ 1023
ten-length = omega (arith, ap (λ (ss : List Slope). length ss) ten_is, levels-length 10 flat upright)

pub ten_neighbours : (p : ℕ) → 1 ≤ p → p < 1023 → det (ten_at p) (ten_at (suc p)) ≡ 1
ten_neighbours p h g =
    let e : suc p - 1 ≡ suc (p - 1) = omega arith in
    rw e (one_at ten tested (p - 1) flat (omega (arith, ten-length)))

module _ (k j : ℕ) (few : k ≤ 10) (some : 1 ≤ j) (inside : j < 2 ^ k) where
  levels-ten : k + (10 - k) ≡ 10
  levels-ten = omega arith

  -- the position is in the table
  pub ten_holds : (1 ≤ j * 2 ^ (10 - k)) × (j * 2 ^ (10 - k) < 1024)
  ten_holds =
      let d = 10 - k in
      let whole : 2 ^ k * 2 ^ d ≡ 2 ^ 10 = sym (pow-add 2 k d) ∙ ap (λ (i : ℕ). 2 ^ i) levels-ten in
      let low = mul-lt-mul_of_pos_right inside (pow_pos d) in
      let high = mul-le-mul_right (2 ^ d) some in
      (omega (arith, pow_pos d), omega arith)

  pub ten_walk : ten_at (j * 2 ^ (10 - k)) ≡ fraction_at k j
  ten_walk =
      let p = j * 2 ^ (10 - k) in
      ap (λ (ss : List Slope). get_or ss (p - 1) flat) ten_is
      ∙ sym (bordered_is 10 p ten_holds.0 ten_holds.1)
      ∙ ap (λ (i : ℕ). bordered i flat upright p) (sym levels-ten)
      ∙ bordered_stride k (10 - k) flat upright j (omega arith)
      ∙ bordered_is k j some inside

------------------------------------------------------------------------
-- The rows

slopes_in_at : (ws : List ℕ) (c : ℕ) (d : Slope) → c < 4 * length ws
    → get_or (slopes_in ws) c d ≡ in_four (get_or ws (c / 4) 0) (c % 4)
unfolding slopes_in
slopes_in_at [] c d h = absurd (omega arith)
slopes_in_at (w ∷ ws) zero d h = refl
slopes_in_at (w ∷ ws) (suc zero) d h = refl
slopes_in_at (w ∷ ws) (suc (suc zero)) d h = refl
slopes_in_at (w ∷ ws) (suc (suc (suc zero))) d h = refl
slopes_in_at (w ∷ ws) (suc (suc (suc (suc c)))) d h =
    let next : suc (suc (suc (suc c))) / 4 ≡ suc (c / 4) = omega arith in
    let same : suc (suc (suc (suc c))) % 4 ≡ c % 4 = omega arith in
    rw (next, same) (slopes_in_at ws c d (omega arith))

-- the entry at position p, in the number that holds it
pub row_slope : (ws : List ℕ) (p : ℕ) → length ws ≡ 8 → slopes_in ws ≡ row_of (p / 32) → 1 ≤ p
    → in_four (get_or ws (p % 32 / 4) 0) (p % 4) ≡ ten_at p
row_slope ws p long row h =
    let c = p % 32 in
    let r = 32 * (p / 32) in
    let four : c % 4 ≡ p % 4 = omega arith in
    let at : r + c ≡ suc (p - 1) = omega arith in
    rw (← four)
    (sym (slopes_in_at ws c flat (omega arith))
    ∙ ap (λ (ss : List Slope). get_or ss c flat) row
    ∙ get_or-take 32 (drop r (flat ∷ ten)) c flat (omega arith)
    ∙ get_or-drop r (flat ∷ ten) c flat
    ∙ ap (λ (i : ℕ). get_or (flat ∷ ten) i flat) at)
