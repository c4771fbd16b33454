-- The largest of a list, found from its front: the larger of what was found so far and each number in turn.
use mathlib.Core.List.{List, [], ◌∷◌}
use mathlib.Core.Path.{◌≡◌}
use Prim.Native.Nat.{ℕ, max}
use native.Mathlib.Omega.{arith}
use Rattle.std.specs.Prelude.{fold}
use Rattle.drawing.specs.Drawing.{largest}

fold_from : (most : ℕ) (l : List ℕ) → fold (λ a b. max a b) most l ≡ max most (largest l)
unfolding largest
fold_from most [] = omega arith
fold_from most (a ∷ l) = omega (arith, fold_from (max most a) l)

pub fold_largest : (l : List ℕ) → fold (λ a b. max a b) 0 l ≡ largest l
fold_largest l = omega (arith, fold_from 0 l)
