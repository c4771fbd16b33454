-- What the parts of lengthen and shorten need and leave.
--
--   by longer a d          == a and d more, or d less
--   free_fault held v       == refusals 9, 10 and 22: v has no edge that is free
--   Examining L .. r       == the answer r is refusals 1 to 10 of a call on the sheet s
--   Unheld L .. r          == refusals 1 to 10 and 22
--   Passes limit P X v d r == r says whether a place of v's subtree is beyond the limit when it is moved on by d
--   Movable P X v d longer == v's subtree can be moved on, or back, by d
--   Stretchable ..         == v's edge can be made longer, or shorter
--   Opened L .. s W        == the sheet s is accepted, and W numbers its table
--   framing r t            == the outcome of a call that leaves t: refused, or else with its frame
use Rattle.std.specs.Prelude.{Bool, true, false, List, ◌≡◌, ℕ, ◌+◌, ◌-◌, ◌*◌, ◌^◌, ◌≤◌, ◌<◌, eqb, length, get_or}
use Rattle.std.proofs.Math.Option.{Option}
use Rattle.laws.specs.Search.{Refusal, refuse, ◌or_else◌, Outcome}
use Rattle.table.specs.declared.Limits.{Limits}
use Rattle.table.specs.Validity.{Validity}
use Rattle.table.specs.Validity.{Accepted, Refused}
use Rattle.table.specs.Numbering.{NumberedTree}
use Rattle.table.specs.Parts.{Tested}
use Rattle.table.specs.Table.{under}
use Rattle.slopes.specs.declared.Rule.{Rule}
use Rattle.slopes.specs.Slopes.{across_of, up_of, edge}
use Rattle.drawing.specs.CallLaws.{Inspected}
use Rattle.drawing.specs.Framed.{Framed}
use Rattle.drawing.specs.Framed as framed
use Rattle.drawing.specs.Drawing.{Drawing, Sheet, lengths_fit, frame}
use Rattle.drawing.specs.Parts.{SizedSheet}
use Rattle.stretching.specs.Stretching.{edge_fault, lot_fault, stretch_fault}

abbrev pub by : Bool → ℕ → ℕ → ℕ
by true a d = a + d
by false a d = a - d

unfoldable pub free_fault : List ℕ → ℕ → Option Refusal
free_fault held v = edge_fault (length held) v or_else refuse (eqb (get_or held v 0) 1) 22 v

module _ (L : Limits) (P R : List ℕ) (rule : Rule) (s : Sheet) (W : List ℕ) where
  abbrev pub Examining : ℕ → List ℕ → Validity → Type 0
  Examining v X = Tested L P R (lengths_fit P s) W X (lot_fault L P R rule s (length W) v) (SizedSheet P R s X)

  abbrev pub Unheld : ℕ → List ℕ → Validity → Type 0
  Unheld v X = Tested L P R (lengths_fit P s) W X (stretch_fault L P R rule s (length W) v) (SizedSheet P R s X)

pub record Passes (limit : ℕ) (P X : List ℕ) (v d : ℕ) (r : Bool) : Type 0 where
  pub yes : r ≡ true → (z : ℕ) × (z < length P) × (under P v z ≡ true) × (limit < get_or X z 0 + d)
  pub no : r ≡ false → (z : ℕ) → z < length P → under P v z ≡ true → get_or X z 0 + d ≤ limit

pub record Movable (P X : List ℕ) (v d : ℕ) (longer : Bool) : Type 0 where
  pub long : length X ≡ length P
  pub on : longer ≡ true → (z : ℕ) → z < length P → under P v z ≡ true → get_or X z 0 + d < 2 ^ 32
  pub back : longer ≡ false → (z : ℕ) → z < length P → under P v z ≡ true → d ≤ get_or X z 0

pub record Stretchable (P R : List ℕ) (rule : Rule) (s : Drawing) (W : List ℕ) (v c : ℕ) (longer : Bool) : Type 0 where
  pub numbered : NumberedTree P R W
  pub above : 0 < v
  pub inside : v < length P
  pub long : length s.times ≡ length P
  pub more : longer ≡ true → get_or s.times v 0 + c < 2 ^ 32
  pub less : longer ≡ false → c ≤ get_or s.times v 0
  pub x : Movable P s.x v (c * across_of (edge P R rule v)) longer
  pub y : Movable P s.y v (c * up_of (edge P R rule v)) longer

pub record Opened (L : Limits) (P R : List ℕ) (rule : Rule) (s : Sheet) (W : List ℕ) : Type 0 where
  pub inspected : Inspected L P R rule s (length W)
  pub numbered : NumberedTree P R W

unfoldable pub framing : Validity → Sheet → Outcome Framed Sheet
framing Accepted t = record { answer = frame t.drawing; left = t }
framing (Refused k z) t = record { answer = framed.Refused k z; left = t }
