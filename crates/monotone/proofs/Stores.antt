-- What is read after a store.
use mathlib.Core.List.{List}
use mathlib.Core.Path.{◌≡◌, ap, ◌∙◌}
use Prim.Native.Nat.{ℕ, ◌<◌}
use lib.ListN.{length, get_or, set}
use lib.Seq.{get_or-set_same, get_or-set_other}

pub store_here : (X : List ℕ) {Y : List ℕ} (i k : ℕ) → i < length X → Y ≡ set X i k → get_or Y i 0 ≡ k
store_here X i k b q = ap (λ (l : List ℕ). get_or l i 0) q ∙ get_or-set_same X i k 0 b

pub store_else : (X : List ℕ) {Y : List ℕ} (i k : ℕ) → Y ≡ set X i k → (j : ℕ) → (j ≡ i → ⊥) → get_or Y j 0 ≡ get_or X j 0
store_else X i k q j ne = ap (λ (l : List ℕ). get_or l j 0) q ∙ get_or-set_other X i j k 0 ne
