-- Loops that fill a list number by number.
--
--   Filled f a n W X i   == X is W but for the n numbers from a on, of which the first i are f 0, f 1, ..
use Rattle.std.specs.Prelude.{List, ◌≡◌, ℕ, ◌+◌, ◌≤◌, ◌<◌, length, get_or, set}
use Rattle.std.proofs.Common.{ap, ◌∙◌, arith}
use Rattle.laws.specs.Regions.{Only, read_set, only_refl, only_set}
use Rattle.laws.specs.Search.{tabulate}
use Rattle.laws.specs.SearchLaws.{tabulate_is}

pub record Filled (f : ℕ → ℕ) (a n : ℕ) (W X : List ℕ) (i : ℕ) : Type 0 where
  pub upto : i ≤ n
  pub done : (k : ℕ) → k < i → get_or X (a + k) 0 ≡ f k
  pub kept : Only a (a + n) W X

pub filled_start : (f : ℕ → ℕ) (a n : ℕ) (W : List ℕ) → Filled f a n W W 0
filled_start f a n W = record { upto = omega arith; done = λ k l. absurd (omega arith); kept = only_refl a (a + n) W }

pub filled_step : {f : ℕ → ℕ} {a n : ℕ} {W X Y : List ℕ} {i w : ℕ} → Filled f a n W X i → i < n → a + n ≤ length W
    → w ≡ f i → Y ≡ set X (a + i) w → Filled f a n W Y (i + 1)
filled_step {f} {a} {n} {W} {X} {Y} {i} {w} p l room ew ey = record {
  upto = omega arith;
  done = λ k m.
      ap (λ (y : List ℕ). get_or y (a + k) 0) ey
      ∙ read_set X (a + i) (a + k) w (f k) (omega arith) (λ e. ew ∙ ap f (omega arith))
      (λ ne. p.done k (less k m ne));
  kept = only_set (a + i) w p.kept (omega arith) (omega arith) ey;
}
  where
    less : (k : ℕ) → k < i + 1 → (a + k ≡ a + i → ⊥) → k < i
    less k m ne = omega arith

pub zero_plus : (k : ℕ) → k ≡ 0 + k
zero_plus k = omega arith

-- a whole list
pub filled_all : {f : ℕ → ℕ} {n : ℕ} {W X : List ℕ} {i : ℕ} → Filled f 0 n W X i → n ≤ i → length W ≡ n
    → X ≡ tabulate n f
filled_all {f} {n} {W} {X} {i} p h e =
    tabulate_is X n f (p.kept.long ∙ e) (λ k l. ap (λ (j : ℕ). get_or X j 0) (zero_plus k) ∙ p.done k (omega arith))
