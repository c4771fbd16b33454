-- What the tests of refusal 8 need and leave.
--
--   placed_from limit X p v step == v's place is that of p and `step` more, and within the limit
--   root_fits s             == the root has times 1 and place (0, 0)
--   misfit limit .. v      == times or place of v is wrong
--   AllFit limit .. r      == r says whether it applies to no node
--   misheld held v         == v's entry of held is wrong
--   Inspecting L .. r      == the answer r is refusals 1 to 8 of a call on the sheet s
use Rattle.std.specs.Prelude.{Bool, true, false, not, ◌&&◌, List, ◌≡◌, ℕ, ◌+◌, ◌<◌, leb, eqb, length, get_or}
use Rattle.table.specs.declared.Limits.{Limits}
use Rattle.table.specs.Validity.{Validity}
use Rattle.table.specs.Parts.{Tested}
use Rattle.slopes.specs.declared.Rule.{Rule}
use Rattle.drawing.specs.Drawing.{Drawing, Sheet, lengths_fit, node_fits, held_fits, sheet_fault}
use Rattle.drawing.specs.Parts.{SizedSheet}

abbrev pub placed_from : ℕ → List ℕ → ℕ → ℕ → ℕ → Bool
placed_from limit X p v step = eqb (get_or X v 0) (get_or X p 0 + step) && leb (get_or X v 0) limit

abbrev pub root_fits : Drawing → Bool
root_fits s = eqb (get_or s.times 0 0) 1 && (eqb (get_or s.x 0 0) 0 && eqb (get_or s.y 0 0) 0)

abbrev pub misfit : ℕ → List ℕ → List ℕ → Rule → Drawing → ℕ → Bool
misfit limit P R rule s v = not (node_fits limit P R rule s v)

pub record AllFit (limit : ℕ) (P R : List ℕ) (rule : Rule) (s : Drawing) (r : Bool) : Type 0 where
  pub yes : r ≡ true → (v : ℕ) → v < length P → node_fits limit P R rule s v ≡ true
  pub no : r ≡ false → (v : ℕ) × (v < length P) × (node_fits limit P R rule s v ≡ false)

abbrev pub misheld : List ℕ → ℕ → Bool
misheld held v = not (held_fits held v)

module _ (L : Limits) (P R : List ℕ) (rule : Rule) (s : Sheet) (W : List ℕ) where
  abbrev pub Inspecting : List ℕ → Validity → Type 0
  Inspecting X = Tested L P R (lengths_fit P s) W X (sheet_fault L P R rule s (length W)) (SizedSheet P R s X)
