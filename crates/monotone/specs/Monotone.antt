-- Monotone drawings (document 01, "Check"; refusals 14 and 15).
--
--   HasDirection P x y u v    == some whole numbers d and e, negative ones allowed, make every edge of the path rise
--   place_beyond place x y v   == refusal 15: x or y of v is above the largest place
--   check_fault L ..           == refusals 1, 14, 3 to 7, 15 at the limits L
--   AllDirected P x y         == every pair has a direction. Of pairs the smaller node is first
--   FirstTurn P x y u v       == (u, v) is the first pair that has none
--   Says L .. r               == r is what the check answers
--   Checked L .. W X r        == the check's contract; W and X are the work list at entry and at exit
use Rattle.std.specs.Prelude.{Bool, ◌||◌, List, [], ◌∷◌, ◌⊎◌, ◌≡◌, ℕ, ◌<◌, ltb, ℤ, length, get_or}
use Rattle.std.proofs.Math.Option.{Option, none, some}
use Rattle.faults.specs.Numbers.{number}
use Rattle.laws.specs.Search.{Refusal, refuse_least, ◌or_else◌}
use Rattle.table.specs.Paths.{PathRises}
use Rattle.table.specs.Table.{all_long, shape_fault, table_fault, Called}
use Rattle.table.specs.declared.Limits.{Limits}
use Rattle.monotone.specs.declared.Verdict.{Verdict}
use Rattle.monotone.specs.declared.Verdict.TheVariants.{Monotone, Turns, Refused}

------------------------------------------------------------------------
-- Directions

pub record HasDirection (P x y : List ℕ) (u v : ℕ) : Type 0 where
  pub d : ℤ
  pub e : ℤ
  pub rises : PathRises P x y d e u v

------------------------------------------------------------------------
-- The check

unfoldable pub place_beyond : ℕ → List ℕ → List ℕ → ℕ → Bool
place_beyond place x y v = ltb place (get_or x v 0) || ltb place (get_or y v 0)

unfoldable pub check_fault : Limits → List ℕ → List ℕ → List ℕ → List ℕ → ℕ → Option Refusal
check_fault L P R x y work =
    table_fault L P R (all_long (length P) (x ∷ y ∷ [])) work
    or_else refuse_least (number L.far) (length P) (place_beyond L.place x y)

pub record AllDirected (P x y : List ℕ) : Type 0 where
  pub directed : (u v : ℕ) → u < v → v < length P → HasDirection P x y u v

pub record FirstTurn (P x y : List ℕ) (u v : ℕ) : Type 0 where
  pub ordered : u < v
  pub inside : v < length P
  pub turns : ¬ HasDirection P x y u v
  -- a smaller first node comes first, then a smaller second
  pub earlier : (a b : ℕ) → a < b → b < length P → (a < u) ⊎ ((a ≡ u) × (b < v)) → HasDirection P x y a b

module _ (L : Limits) (P R x y : List ℕ) (work : ℕ) where
  unfoldable pub Says : Verdict → Type 0
  Says Monotone = (check_fault L P R x y work ≡ none) × AllDirected P x y
  Says (Turns u v) = (check_fault L P R x y work ≡ none) × FirstTurn P x y u v
  Says (Refused k v) = check_fault L P R x y work ≡ some (record { number = k; node = v })

abbrev pub Checked : Limits → List ℕ → List ℕ → List ℕ → List ℕ → List ℕ → List ℕ → Verdict → Type 0
Checked L P R x y W X r =
    Called (shape_fault L P R (all_long (length P) (x ∷ y ∷ [])) (length W)) W X (Says L P R x y (length W) r)
