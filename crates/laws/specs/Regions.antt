-- Regions of one list: what a store, or many stores in one region, leaves alone.
--
--   Only a e W X      == X is W but for what stands from a up to e
--   read_set          == what is read after a store
use Rattle.std.specs.Prelude.{List, ◌≡◌, refl, ℕ, ◌≤◌, ◌<◌, length, get_or, set}
use Rattle.std.proofs.Common.{ap, ◌∙◌, arith, length-set, get_or-set_same, get_or-set_other}
use Rattle.std.proofs.Math.Path.{subst⁻¹}
use Rattle.laws.specs.Tests.{by_eq}

pub record Only (a e : ℕ) (W X : List ℕ) : Type 0 where
  pub long : length X ≡ length W
  pub below : (k : ℕ) → k < a → get_or X k 0 ≡ get_or W k 0
  pub above : (k : ℕ) → e ≤ k → get_or X k 0 ≡ get_or W k 0

pub read_set : (l : List ℕ) (i j x y : ℕ) → i < length l → (j ≡ i → x ≡ y) → ((j ≡ i → ⊥) → get_or l j 0 ≡ y)
    → get_or (set l i x) j 0 ≡ y
read_set l i j x y h same other =
    by_eq j i
    (λ e. subst⁻¹ (λ (k : ℕ). get_or (set l i x) k 0 ≡ y) e (get_or-set_same l i x 0 h ∙ same e))
    (λ ne. get_or-set_other l i j x 0 ne ∙ other ne)

pub only_refl : (a e : ℕ) (W : List ℕ) → Only a e W W
only_refl a e W = record { long = refl; below = λ k l. refl; above = λ k l. refl }

pub only_trans : {a e : ℕ} {W X Y : List ℕ} → Only a e W X → Only a e X Y → Only a e W Y
only_trans o p = record {
  long = p.long ∙ o.long;
  below = λ k l. p.below k l ∙ o.below k l;
  above = λ k l. p.above k l ∙ o.above k l;
}

-- a region within another
pub only_within : {a b c e : ℕ} {W X : List ℕ} → Only b c W X → a ≤ b → c ≤ e → Only a e W X
only_within o l m = record
    { long = o.long; below = λ k h. o.below k (omega arith); above = λ k h. o.above k (omega arith) }

-- a store in the region
pub only_store : {a e : ℕ} {X Y : List ℕ} (i x : ℕ) → a ≤ i → i < e → Y ≡ set X i x → Only a e X Y
only_store {a} {e} {X} {Y} i x h l q = record {
  long = ap length q ∙ simp length-set;
  below = λ k m. ap (λ (z : List ℕ). get_or z k 0) q ∙ get_or-set_other X i k x 0 (λ t. omega arith);
  above = λ k m. ap (λ (z : List ℕ). get_or z k 0) q ∙ get_or-set_other X i k x 0 (λ t. omega arith);
}

-- one more store in the region
pub only_set : {a e : ℕ} {W X Y : List ℕ} (i x : ℕ) → Only a e W X → a ≤ i → i < e → Y ≡ set X i x → Only a e W Y
only_set i x o h l q = only_trans o (only_store i x h l q)
