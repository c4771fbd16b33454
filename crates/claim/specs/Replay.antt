-- A lent list of calls, made one after the other: what the claim's run is to running code.
--
--   call_of step work        == the single call that the step is
--   calls_of steps work      == the calls of the list of steps
--   after .. o calls         == the sheet after layout's outcome o and, where it accepts, the calls
--   Replayed ..              == the contract of `replay`
use Rattle.std.specs.Prelude.{cond, List, map, ◌≡◌, ℕ}
use Rattle.laws.specs.Search.{Outcome}
use Rattle.table.specs.declared.Limits.{Limits}
use Rattle.slopes.specs.declared.Rule.{Rule}
use Rattle.drawing.specs.Framed.{Framed}
use Rattle.drawing.specs.Drawing.{Sheet, accepted, layout}
use Rattle.claim.specs.declared.Step.{Step}
use Rattle.claim.specs.declared.Step.TheVariants as code
use Rattle.claim.specs.Claim.{Single, Lengthen, Shorten, Hold, Call, One, run}

unfoldable pub call_of : Step → ℕ → Single
call_of (code.Lengthen v c) work = Lengthen v c work
call_of (code.Shorten v c) work = Shorten v c work
call_of (code.Hold v on) work = Hold v on work

unfoldable pub calls_of : List Step → ℕ → List Call
calls_of steps work = map (λ s. One (call_of s work)) steps

module _ (L : Limits) (P R : List ℕ) (rule : Rule) where
  unfoldable pub after : Outcome Framed Sheet → List Call → Sheet
  after o calls = cond (accepted o.answer) (run L P R rule o.left calls) o.left

-- the reply is layout's, and the lists are what the run leaves
pub record Replayed (L : Limits) (P R : List ℕ) (rule : Rule) (s : Sheet) (work : ℕ) (steps : List Step)
    (t : Sheet) (r : Framed) : Type 0 where
  pub answer : r ≡ (layout L P R rule s work).answer
  pub sheet : t ≡ after L P R rule (layout L P R rule s work) (calls_of steps work)
