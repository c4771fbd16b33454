-- A fresh drawing is a drawing, within document 01's bounds.
--
--   Roomy L           == every fresh drawing that the limits L accept is within them
--   roomy             == four comparisons of numbers show that
--   fresh_at          == a fresh place is the sum of the steps on the path, by their numbers,
--   fresh-sum            so at most that of all slopes,
--   fresh_bounds         which is within document 01's bounds of a fresh sheet
--   fresh_drawn       == a fresh drawing is a drawing
use Rattle.std.specs.Prelude.{List, ◌≡◌, ℕ, suc, ◌+◌, ◌-◌, ◌*◌, ◌/◌, ◌^◌, ◌≤◌, ◌<◌, length, get_or}
use Rattle.std.proofs.Math.Path.{ap}
use Rattle.std.proofs.Common.{◌∙◌, mul-le-mul, arith}
use Rattle.std.proofs.Math.Nat.{pow-le-pow_right}
use Rattle.std.proofs.Math.ListN.{length-replicate, get_or-replicate}
use Rattle.laws.specs.SearchLaws.{length-tabulate, get_d_tabulate}
use Rattle.laws.specs.Sums.{sum}
use Rattle.table.specs.declared.Cabinet.{Cabinet}
use Rattle.table.specs.declared.Cabinet.TheVariants.{Large, Small}
use Rattle.table.specs.declared.Limits.{Limits}
use Rattle.table.proofs.NumberingLaws.{numbering}
use Rattle.table.specs.Table.{large, small, limits_of}
use Rattle.table.specs.TableLaws.{Tree}
use Rattle.slopes.specs.declared.Rule.{Rule}
use Rattle.slopes.specs.declared.Rule.TheVariants.{Steep, Balanced}
use Rattle.slopes.specs.declared.Slope.{Slope}
use Rattle.slopes.specs.Bounds.{across_bound, up_bound}
use Rattle.slopes.proofs.SlopeLaws.{levels_for-least, across_sum, up_sum}
use Rattle.slopes.specs.Slopes.{across_of, up_of, levels_for, slope_at, edge}
use Rattle.drawing.specs.Drawing.{path_sum, fresh_places, fresh}
use Rattle.drawing.specs.DrawingLaws.{Coordinate, Drawn}
use Rattle.drawing.specs.PathLaws.{adds_cong, step_by, path_adds, path_cong, path_bound}

------------------------------------------------------------------------
-- Bounds

pub fresh_long : (P R : List ℕ) (rule : Rule) (part : Slope → ℕ) → length (fresh_places P R rule part) ≡ length P
unfolding fresh_places
fresh_long P R rule part = length-tabulate (length P) _

-- what the part of the slope with number i + 1 adds, of n nodes
abbrev pub step_at : Rule → (Slope → ℕ) → ℕ → ℕ → ℕ
step_at rule part n i = part (slope_at rule n (suc i))

module _ {P R : List ℕ} (tree : Tree P R) (rule : Rule) (part : Slope → ℕ) where
  pub fresh_at : (v : ℕ) → v < length P
      → get_or (fresh_places P R rule part) v 0 ≡ path_sum P (step_by P R (step_at rule part (length P))) v
  unfolding fresh_places edge
  fresh_at v l =
      get_d_tabulate (length P) (path_sum P (λ z. part (edge P R rule z))) v l
      ∙ path_cong tree (λ z. part (edge P R rule z)) (step_by P R (step_at rule part (length P)))
      (λ z a b. ap (λ j. part (slope_at rule (length P) j)) (omega (arith, (numbering tree).from_1 z b))) v l

  pub fresh-sum : (v : ℕ) → v < length P
      → get_or (fresh_places P R rule part) v 0 ≤ sum (step_at rule part (length P)) (length P - 1)
  fresh-sum v l = omega (arith, fresh_at v l, path_bound tree (step_at rule part (length P)) v l)

pub fresh_bounds : {P R : List ℕ} → Tree P R → (rule : Rule) (v : ℕ) → v < length P
    → (get_or (fresh P R rule).x v 0 ≤ across_bound rule (length P))
    × (get_or (fresh P R rule).y v 0 ≤ up_bound rule (length P))
unfolding fresh
fresh_bounds {P} tree rule v l = (
  omega (arith, fresh-sum tree rule across_of v l, across_sum rule (length P) tree.some),
  omega (arith, fresh-sum tree rule up_of v l, up_sum rule (length P) tree.some),
)

------------------------------------------------------------------------
-- Limits

pub record Roomy (L : Limits) : Type 0 where
  pub across : (rule : Rule) (n : ℕ) → n ≤ L.nodes → across_bound rule n ≤ L.place
  pub up : (rule : Rule) (n : ℕ) → n ≤ L.nodes → up_bound rule n ≤ L.place

pub roomy : (L : Limits) (k : ℕ) → L.nodes ≤ 2 ^ k → 3 ^ k ≤ 2 * L.place + 1 → L.nodes ≤ L.place + 1
    → L.nodes * (L.nodes - 1) ≤ 2 * L.place + 1 → Roomy L
roomy L k enough balanced wide tall = record { across = across; up = up }
  where
    few : (n : ℕ) → n ≤ L.nodes → (3 ^ levels_for n - 1) / 2 ≤ L.place
    few n h =
        let levels : levels_for n ≤ k = levels_for-least n k (omega arith) in
        omega (arith, pow-le-pow_right {n = 3} (omega arith) levels)

    across : (rule : Rule) (n : ℕ) → n ≤ L.nodes → across_bound rule n ≤ L.place
    across Steep n h = omega arith
    across Balanced n h = few n h

    up : (rule : Rule) (n : ℕ) → n ≤ L.nodes → up_bound rule n ≤ L.place
    up Steep n h =
        let less : n - 1 ≤ L.nodes - 1 = omega arith in
        omega (arith, mul-le-mul h less)
    up Balanced n h = few n h

pub large_roomy : Roomy large
large_roomy = roomy large 16 (omega arith) (omega arith) (omega arith) (omega arith)

pub small_roomy : Roomy small
small_roomy = roomy small 10 (omega arith) (omega arith) (omega arith) (omega arith)

pub cabinet_roomy : (c : Cabinet) → Roomy (limits_of c)
cabinet_roomy Large = large_roomy
cabinet_roomy Small = small_roomy

------------------------------------------------------------------------
-- The fresh drawing

module _ {P R : List ℕ} (tree : Tree P R) (rule : Rule) where
  fresh_coordinate : {limit : ℕ} (part : Slope → ℕ)
      → ((v : ℕ) → v < length P → get_or (fresh_places P R rule part) v 0 ≤ limit)
      → Coordinate limit P R rule (fresh P R rule).times part (fresh_places P R rule part)
  unfolding fresh fresh_places
  fresh_coordinate part fits = record {
    long = fresh_long P R rule part;
    adds = adds_cong (path_adds tree (λ z. part (edge P R rule z)))
        (λ z a l. omega (arith, ap (λ k. k * part (edge P R rule z)) (get_or-replicate {A = ℕ} (length P) z 1 0 l)));
    within = fits;
  }

  pub fresh_once : (v : ℕ) → v < length P → get_or (fresh P R rule).times v 0 ≡ 1
  unfolding fresh
  fresh_once v l = get_or-replicate {A = ℕ} (length P) v 1 0 l

  pub fresh_drawn : {limit : ℕ} → across_bound rule (length P) ≤ limit → up_bound rule (length P) ≤ limit
      → Drawn limit P R rule (fresh P R rule)
  unfolding fresh
  fresh_drawn wide tall = record {
    long = length-replicate (length P) 1;
    root_once = fresh_once 0 tree.some;
    some = λ v l. omega (arith, fresh_once v l);
    x = fresh_coordinate across_of (λ v l. omega (arith, (fresh_bounds tree rule v l).0));
    y = fresh_coordinate up_of (λ v l. omega (arith, (fresh_bounds tree rule v l).1));
  }
