-- The claim over lists of calls (demand 3; document 01, "Lists of calls"; hold and lists of lengthens are document 02's
-- requests 108 and 105), as one type.
--
--   Single                  == a lengthen or a shorten: a node, a count and the length of the work list; or a hold: a
--                              node, whether it is held or freed, and that length; each of them anything
--   Call                    == a single call, or a list of lengthens: nodes, counts and the length of the work list
--   make .. s single        == the outcome of the single call on the sheet s
--   leaves .. s call        == the sheet that the call leaves
--   tried .. s call         == the single calls that it tries
--   run .. s calls          == the sheet after the list, each call made on what the one before left
--   singles .. s calls      == the single calls that they try
--   added, taken .. z       == the sum of the counts of the accepted lengthens, and shortens, of z among them
--   freed .. z              == how many accepted ones among them free z
--   length_of .. z           == 1 + added - taken
--   Assured ..              == all that is said of the sheet t that a list of calls leaves
--   Claim L                 == it is so for every accepted table, both rules and every list of calls, at the limits L
use Rattle.std.specs.Prelude.{Bool, true, cond, ◌≢◌, ◌↔◌, ◌≡◌, ℕ, ◌+◌, ◌-◌, ◌*◌, ◌≤◌, ◌<◌, eqb, ℤ, length, get_or}
use mathlib.Core.List.{List, [], ◌∷◌, ◌++◌, zip_with}
use Rattle.laws.specs.Search.{refused_or, Outcome}
use Rattle.table.specs.declared.Limits.{Limits}
use Rattle.table.specs.Paths.{PathRises, SharePoint, CommonEnd}
use Rattle.table.specs.Table.{parent, large, checked}
use Rattle.slopes.specs.declared.Rule.{Rule}
use Rattle.slopes.specs.Slopes.{across_of, up_of, edge}
use Rattle.drawing.specs.Framed.{Framed}
use Rattle.drawing.specs.Framed.{Frame}
use Rattle.drawing.specs.Drawing.{Sheet, path_sum, accepted, layout}
use Rattle.stretching.specs.Stretching.{is_held, lengthen, shorten}
use Rattle.holding.specs.Holding.{hold}
use Rattle.arranging.specs.Arranging.{each_fault, lengthen_each}
use Rattle.direction.specs.Heading.{Along}
use Rattle.direction.specs.Direction.{direction}
use Rattle.monotone.specs.declared.Verdict.{Verdict}
use Rattle.monotone.specs.declared.Verdict.TheVariants.{Monotone}
use Rattle.monotone.specs.Monotone.{Says}

------------------------------------------------------------------------
-- Lists of calls

pub data Single : Type 0 where
  Lengthen : ℕ → ℕ → ℕ → Single
  Shorten : ℕ → ℕ → ℕ → Single
  Hold : ℕ → Bool → ℕ → Single

pub data Call : Type 0 where
  One : Single → Call
  LengthenEach : List ℕ → List ℕ → ℕ → Call

-- what a single call adds to z, or takes from z, if it is accepted
unfoldable pub adds : Single → ℕ → ℕ
adds (Lengthen v c work) z = cond (eqb v z) c 0
adds (Shorten v c work) z = 0
adds (Hold v on work) z = 0

unfoldable pub takes : Single → ℕ → ℕ
takes (Lengthen v c work) z = 0
takes (Shorten v c work) z = cond (eqb v z) c 0
takes (Hold v on work) z = 0

-- 1 for one that frees z, if it is accepted
unfoldable pub frees : Single → ℕ → ℕ
frees (Lengthen v c work) z = 0
frees (Shorten v c work) z = 0
frees (Hold v on work) z = cond on 0 (cond (eqb v z) 1 0)

-- with the limits L, on the table P and R under the rule
module _ (L : Limits) (P R : List ℕ) (rule : Rule) where
  unfoldable pub make : Sheet → Single → Outcome Framed Sheet
  make s (Lengthen v c work) = lengthen L P R rule s work v c
  make s (Shorten v c work) = shorten L P R rule s work v c
  make s (Hold v on work) = hold L P R rule s work v on

  unfoldable pub leaves : Sheet → Call → Sheet
  leaves s (One c) = (make s c).left
  leaves s (LengthenEach lots counts work) = (lengthen_each L P R rule s work lots counts).left

  -- those of a list up to the first refused one, each made on what the one before left
  unfoldable pub until_refused : Sheet → List Single → List Single
  until_refused s [] = []
  until_refused s (c ∷ cs) = c ∷ cond (accepted (make s c).answer) (until_refused (make s c).left cs) []

  unfoldable pub tried : Sheet → Call → List Single
  tried s (One c) = c ∷ []
  tried s (LengthenEach lots counts work) =
      refused_or (λ number lot. []) (each_fault L P R rule s work lots counts)
      (until_refused s (zip_with (λ v c. Lengthen v c work) lots counts))

  unfoldable pub run : Sheet → List Call → Sheet
  run s [] = s
  run s (c ∷ cs) = run (leaves s c) cs

  unfoldable pub singles : Sheet → List Call → List Single
  singles s [] = []
  singles s (c ∷ cs) = tried s c ++ singles (leaves s c) cs

  -- the sum of `what` over the accepted ones
  unfoldable pub total : (Single → ℕ → ℕ) → Sheet → List Single → ℕ → ℕ
  total what s [] z = 0
  total what s (c ∷ cs) z = cond (accepted (make s c).answer) (what c z) 0 + total what (make s c).left cs z

  unfoldable pub added : Sheet → List Call → ℕ → ℕ
  added s calls = total adds s (singles s calls)

  unfoldable pub taken : Sheet → List Call → ℕ → ℕ
  taken s calls = total takes s (singles s calls)

  unfoldable pub freed : Sheet → List Call → ℕ → ℕ
  freed s calls = total frees s (singles s calls)

  -- how many times its slope the edge of z is to be long
  abbrev pub length_of : Sheet → List Call → ℕ → ℕ
  length_of s calls z = 1 + added s calls z - taken s calls z

  -- what is said of the sheet t that the calls leave of s
  pub record Assured (s : Sheet) (calls : List Call) (t : Sheet) : Type 0 where
    -- for any two nodes the direction call gives a direction along which every edge of their path rises; from a node
    -- to itself the path has no edge
    pub directions : (u v : ℕ) → u < length P → v < length P
        → (d e : ℤ) × (direction large P R rule (4 * length P) u v ≡ Along d e)
        × PathRises P t.drawing.x t.drawing.y d e u v
    -- no two edges share a point other than a node at which both end
    pub no_crossing : (v w m i j : ℕ) → 1 ≤ v → v < length P → 1 ≤ w → w < length P → v ≢ w
        → SharePoint t.drawing.x t.drawing.y (parent P v) v (parent P w) w m i j
        → CommonEnd t.drawing.x t.drawing.y (parent P v) v (parent P w) w m i
    -- no place is beyond the limit
    pub within : (v : ℕ) → v < length P → (get_or t.drawing.x v 0 ≤ L.place) × (get_or t.drawing.y v 0 ≤ L.place)
    -- every place is the sum along its path, and no more is taken than was added
    pub taken_least : (v : ℕ) → 1 ≤ v → v < length P → taken s calls v ≤ added s calls v
    pub places_x : (v : ℕ) → v < length P
        → get_or t.drawing.x v 0 ≡ path_sum P (λ z. across_of (edge P R rule z) * length_of s calls z) v
    pub places_y : (v : ℕ) → v < length P
        → get_or t.drawing.y v 0 ≡ path_sum P (λ z. up_of (edge P R rule z) * length_of s calls z) v
    -- up to 4,096 nodes, Monotone is what the check answers, and nothing else
    pub check : length P ≤ checked.nodes → (r : Verdict)
        → Says checked P R t.drawing.x t.drawing.y (4 * length P) r ↔ (r ≡ Monotone)
    -- an edge that is held after some of the calls, and that none of the others frees, keeps its times
    pub held : (first rest : List Call) → calls ≡ first ++ rest → (v : ℕ) → v < length P
        → is_held (run s first) v ≡ true → freed (run s first) rest v ≡ 0
        → get_or t.drawing.times v 0 ≡ get_or (run s first).drawing.times v 0

------------------------------------------------------------------------
-- The claim

unfoldable pub Claim : Limits → Type 0
Claim L = (P R : List ℕ) (rule : Rule) (old : Sheet) (work w h : ℕ) (s : Sheet)
    → layout L P R rule old work ≡ record { answer = Frame w h; left = s }
    → (calls : List Call) → Assured L P R rule s calls (run L P R rule s calls)
