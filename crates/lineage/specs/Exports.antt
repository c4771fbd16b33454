-- The C interface: a call makes the call of the same name and writes the answer into the reply, three numbers or four;
-- where the reply is of another length it does nothing at all.
--
--   rule_of balanced     == the rule that a bool stands for
--   Unchanged s work    == what lent lists hold, and the work list, are as they were
--   Answered C reply q  == q is the reply of an answer that keeps the contract C
--   Exported n C reply K q s b
--                       == b says whether the reply q at entry is n long: then s at exit is the reply of an answer that
--                          keeps C; otherwise the reply is as it was, and K holds: so is all else
--   Given, Replied Long C reply K q s b
--                       == the same of all that a call is lent for its answer, q and s, where that is more than a reply:
--                          b says whether it is as long as it must be
use Rattle.std.specs.Prelude.{Bool, true, false, List, ◌≡◌, ℕ, ℤ, length}
use denote.Triple.Both.{Both}
use Rattle.slopes.specs.declared.Rule.{Rule}
use Rattle.slopes.specs.declared.Rule.TheVariants.{Steep, Balanced}
use Rattle.drawing.specs.Drawing.{Lent}

unfoldable pub rule_of : Bool → Rule
rule_of true = Balanced
rule_of false = Steep

-- what lent lists hold, s, and the work list are at exit what they were at entry
abbrev pub Unchanged : {A : Type 0} → Both A A → Lent → Type 0
Unchanged s work = (s.exit ≡ s.entry) × (work.exit ≡ work.entry)

pub record Answered {A : Type 0} (Contract : A → Type 0) (reply : A → List ℤ) (q : List ℤ) : Type 0 where
  pub answer : A
  pub kept : Contract answer
  pub written : q ≡ reply answer

unfoldable pub Exported : {A : Type 0} → ℕ → (A → Type 0) → (A → List ℤ) → Type 0 → List ℤ → List ℤ → Bool → Type 0
Exported n Contract reply Kept q s true = (length q ≡ n) × Answered Contract reply s
Exported n Contract reply Kept q s false = ¬ (length q ≡ n) × (s ≡ q) × Kept

pub record Given {A X : Type 0} (Contract : A → Type 0) (reply : A → X) (s : X) : Type 0 where
  pub answer : A
  pub kept : Contract answer
  pub written : s ≡ reply answer

unfoldable pub Replied : {A X : Type 0} → Type 0 → (A → Type 0) → (A → X) → Type 0 → X → X → Bool → Type 0
Replied Long Contract reply Kept q s true = Long × Given Contract reply s
Replied Long Contract reply Kept q s false = ¬ Long × (s ≡ q) × Kept
