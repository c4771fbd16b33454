-- Drawings, sheets, and the call that lays one out (document 01, "Layout, lengthen, shorten"; refusal 8; held lines are
-- document 02's request 108).
--
-- A drawing of a table under a rule is three lists, times (how many times its slope each edge is long), x and y. x and
-- y are one thing twice: a coordinate is a list of places, with the part of a slope that it adds up. A sheet is a
-- drawing, and beside it the list held: 1 for an edge that keeps its length, 0 for any other. What is said of places is
-- said of the drawing alone.
--
--   lent times x y            == the drawing that three lists hold
--   sheet_of d held            == the sheet of the drawing d with the held edges of a list
--   lengths_fit P s            == the lists of the sheet s are as long as P
--   path_sum P g v             == the sum of g over the path of v: v, its parent, .., a child of the root
--   fresh P R rule            == the drawing with every times 1
--   fresh_sheet P R rule       == its sheet with no edge held
--   largest l                 == the largest of a list, 0 of an empty one
--   frame s                   == the largest x plus 1 and the largest y plus 1: the grid cells across and up
--   accepted a                == the answer a is a frame
--   placed limit .. v         == a coordinate of v is right against its parent's, and within the limit
--   node_fits limit .. v       == times and place of v are right against its parent's place, and within the limit
--   held_fits held v           == v's entry of held is 0 or 1, and that of the root, which has no edge, 0
--   lot_fits limit .. v        == both
--   sheet_fault L ..           == refusals 1 to 8 at the limits L
--   redrawn f s t             == the outcome of a call on s with refusal f, or else the sheet t
--   layout L ..               == the call: what it answers, and the sheet that it leaves
--   OnSheet L .. o            == the contract of a call on a sheet whose outcome is o
--   drawing times x y         == the drawing in three lent lists, at entry and at exit
--   sheet times x y held      == the sheet in four
--   Does L .. call r          == that contract of lent lists, for a call whose definition is `call`
use Rattle.std.specs.Prelude.{Bool, true, false, cond, not, ◌&&◌, List, [], ◌∷◌, ◌≡◌, ℕ, zero, suc, ◌+◌, ◌*◌, max, leb}
use Rattle.std.specs.Prelude.{eqb, length, get_or, replicate}
use Rattle.std.proofs.Math.Option.{Option}
use Rattle.std.specs.Borrow.{Bor, MutBor}
use denote.Triple.Both.{Both}
use Rattle.laws.specs.Search.{tabulate, Refusal, refuse_least, ◌or_else◌, Outcome, settle}
use Rattle.table.specs.declared.Limits.{Limits}
use Rattle.table.specs.Table.{parent, all_long, shape_fault, table_fault, Called}
use Rattle.slopes.specs.declared.Rule.{Rule}
use Rattle.slopes.specs.declared.Slope.{Slope}
use Rattle.slopes.specs.Slopes.{across_of, up_of, edge}
use Rattle.drawing.specs.Framed.{Framed}
use Rattle.drawing.specs.Framed.{Frame, Refused}

------------------------------------------------------------------------
-- Drawings and sheets

pub record Drawing : Type 0 where
  pub times : List ℕ
  pub x : List ℕ
  pub y : List ℕ

pub record Sheet : Type 0 where
  pub drawing : Drawing
  pub held : List ℕ

-- the drawing that three lent lists hold
abbrev pub lent : List ℕ → List ℕ → List ℕ → Drawing
lent times x y = record { times = times; x = x; y = y }

abbrev pub sheet_of : Drawing → List ℕ → Sheet
sheet_of d held = record { drawing = d; held = held }

abbrev pub lengths_fit : List ℕ → Sheet → Bool
lengths_fit P s = let d = s.drawing in all_long (length P) (d.times ∷ d.x ∷ d.y ∷ s.held ∷ [])

unfoldable pub sum_up : List ℕ → (ℕ → ℕ) → ℕ → ℕ → ℕ
sum_up P g zero v = 0
sum_up P g (suc f) v = cond (eqb v 0) 0 (g v + sum_up P g f (parent P v))

-- no path to the root is longer than n steps
unfoldable pub path_sum : List ℕ → (ℕ → ℕ) → ℕ → ℕ
path_sum P g v = sum_up P g (length P) v

unfoldable pub fresh_places : List ℕ → List ℕ → Rule → (Slope → ℕ) → List ℕ
fresh_places P R rule part = tabulate (length P) (path_sum P (λ v. part (edge P R rule v)))

unfoldable pub fresh : List ℕ → List ℕ → Rule → Drawing
fresh P R rule = lent (replicate (length P) 1) (fresh_places P R rule across_of) (fresh_places P R rule up_of)

abbrev pub fresh_sheet : List ℕ → List ℕ → Rule → Sheet
fresh_sheet P R rule = sheet_of (fresh P R rule) (replicate (length P) 0)

unfoldable pub largest : List ℕ → ℕ
largest [] = 0
largest (a ∷ l) = max a (largest l)

unfoldable pub frame : Drawing → Framed
frame s = Frame (largest s.x + 1) (largest s.y + 1)

unfoldable pub accepted : Framed → Bool
accepted (Frame width height) = true
accepted (Refused number lot) = false

------------------------------------------------------------------------
-- 8: not a sheet of the table under the rule

unfoldable pub placed : ℕ → List ℕ → List ℕ → Rule → List ℕ → (Slope → ℕ) → List ℕ → ℕ → Bool
placed limit P R rule times part places v =
    eqb (get_or places v 0) (cond (eqb v 0) 0 (get_or places (parent P v) 0 + get_or times v 0 * part (edge P R rule v)))
    && leb (get_or places v 0) limit

unfoldable pub node_fits : ℕ → List ℕ → List ℕ → Rule → Drawing → ℕ → Bool
node_fits limit P R rule s v =
    cond (eqb v 0) (eqb (get_or s.times v 0) 1) (leb 1 (get_or s.times v 0))
    && (placed limit P R rule s.times across_of s.x v && placed limit P R rule s.times up_of s.y v)

unfoldable pub held_fits : List ℕ → ℕ → Bool
held_fits held v = leb (get_or held v 0) (cond (eqb v 0) 0 1)

unfoldable pub lot_fits : ℕ → List ℕ → List ℕ → Rule → Sheet → ℕ → Bool
lot_fits limit P R rule s v = node_fits limit P R rule s.drawing v && held_fits s.held v

unfoldable pub sheet_fault : Limits → List ℕ → List ℕ → Rule → Sheet → ℕ → Option Refusal
sheet_fault L P R rule s work =
    table_fault L P R (lengths_fit P s) work
    or_else refuse_least 8 (length P) (λ z. not (lot_fits L.place P R rule s z))

------------------------------------------------------------------------
-- The call

-- a refusal leaves the old sheet; otherwise the new one is left, with its frame
abbrev pub redrawn : Option Refusal → Sheet → Sheet → Outcome Framed Sheet
redrawn f s t = settle Refused f s (frame t.drawing) t

-- work: the length of the work list, whose contents don't matter
unfoldable pub layout : Limits → List ℕ → List ℕ → Rule → Sheet → ℕ → Outcome Framed Sheet
layout L P R rule s work = redrawn (table_fault L P R (lengths_fit P s) work) s (fresh_sheet P R rule)

------------------------------------------------------------------------
-- The contract: s and W are the sheet and the work list at entry, t and X those at exit

abbrev pub OnSheet : Limits → List ℕ → List ℕ → Sheet → List ℕ → Sheet → List ℕ → Framed → Outcome Framed Sheet → Type 0
OnSheet L P R s W t X r o =
    Called (shape_fault L P R (lengths_fit P s) (length W)) W X (record { answer = r; left = t } ≡ o)

-- a list lent to a call, to read or to write, and the drawing and the sheet that such lists hold: each at entry and at
-- exit
abbrev pub Lent : Type 0
Lent = Both (List ℕ) (List ℕ)

abbrev pub to_read : Both (Bor (List ℕ)) (Bor (List ℕ)) → Lent
to_read list = record { entry = list.entry.now; exit = list.exit.now }

abbrev pub to_write : Both (MutBor (List ℕ)) (MutBor (List ℕ)) → Lent
to_write list = record { entry = list.entry.now; exit = list.exit.now }

abbrev pub drawing : Lent → Lent → Lent → Both Drawing Drawing
drawing times x y = record {
  entry = lent times.entry x.entry y.entry;
  exit = lent times.exit x.exit y.exit;
}

abbrev pub sheet : Lent → Lent → Lent → Lent → Both Sheet Sheet
sheet times x y held = record {
  entry = sheet_of (drawing times x y).entry held.entry;
  exit = sheet_of (drawing times x y).exit held.exit;
}

-- the answer r and the lists at exit are what `call` says of the table, the sheet s and the length of the work list
abbrev pub Does : Limits → Lent → Lent → Both Sheet Sheet → Lent
    → (List ℕ → List ℕ → Sheet → ℕ → Outcome Framed Sheet) → Framed → Type 0
Does L parent rank s work call r =
    OnSheet L parent.entry rank.entry s.entry work.entry s.exit work.exit r
    (call parent.entry rank.entry s.entry (length work.entry))
