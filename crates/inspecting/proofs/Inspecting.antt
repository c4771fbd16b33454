-- Refusals 1 to 8, from what the tests say.
use mathlib.Core.Bool.{Bool, not}
use mathlib.Core.List.{List}
use mathlib.Core.Path.{◌≡◌, ap, ap₂, ◌∙◌}
use Prim.Native.Nat.{ℕ, ◌≤◌, ◌<◌, min}
use lib.ListN.{length}
use Rattle.laws.specs.Refusals.{or_else_first, or_else_second, refuse_least_yes, refuse_least_no}
use Rattle.laws.specs.Search.{least, refuse_least}
use Rattle.laws.specs.SearchLaws.{least_either, least_cong}
use Rattle.laws.specs.Tests.{not_both}
use Rattle.table.specs.declared.Limits.{Limits}
use Rattle.table.specs.Validity.{Validity}
use Rattle.table.specs.Validity.{Accepted, Refused}
use Rattle.table.specs.Parts.{fault, no_fault, refused_later, accepted_later}
use Rattle.slopes.specs.declared.Rule.{Rule}
use Rattle.drawing.specs.Drawing.{Sheet, node_fits, held_fits, lot_fits, sheet_fault}
use Rattle.drawing.specs.Parts.{Prepared}
use Rattle.inspecting.specs.Parts.{misfit, misheld, Inspecting}

-- refusal 8 applies to v
abbrev faulty : ℕ → List ℕ → List ℕ → Rule → Sheet → ℕ → Bool
faulty limit P R rule s v = not (lot_fits limit P R rule s v)

-- refusal 8 names the first lot whose times or place is wrong, or the first whose entry of held is, the smaller one
pub first_fault : (limit : ℕ) (P R : List ℕ) (rule : Rule) (s : Sheet) {u h v : ℕ}
    → u ≡ least (misfit limit P R rule s.drawing) (length P) → h ≡ least (misheld s.held) (length s.held)
    → length s.held ≡ length P → v ≡ min u h → v ≡ least (faulty limit P R rule s) (length P)
unfolding lot_fits
first_fault limit P R rule s first second long is =
    is ∙ ap₂ min first (second ∙ ap (least (misheld s.held)) long)
    ∙ least_either (misfit limit P R rule s.drawing) (misheld s.held) (length P)
    ∙ least_cong _ _ (length P) (λ z l. not_both (node_fits limit P R rule s.drawing z) (held_fits s.held z))

module _ {L : Limits} {P R : List ℕ} (rule : Rule) {s : Sheet} {W X : List ℕ} {r : Validity}
    (p : Prepared L P R s W X r) where
  pub inspecting_table : {k z : ℕ} → r ≡ Refused k z → Inspecting L P R rule s W X (Refused k z)
  unfolding sheet_fault
  inspecting_table e = refused_later p (or_else_first _ _ (fault p e))

  module _ (ok : r ≡ Accepted) {u : ℕ} (is : u ≡ least (faulty L.place P R rule s) (length P)) where
    past_7 : sheet_fault L P R rule s (length W) ≡ refuse_least 8 (length P) (faulty L.place P R rule s)
    unfolding sheet_fault
    past_7 = or_else_second _ _ (no_fault p ok)

    pub inspecting_8 : u < length P → Inspecting L P R rule s W X (Refused 8 u)
    inspecting_8 l = refused_later p (past_7 ∙ refuse_least_yes 8 (length P) (faulty L.place P R rule s) u is l)

    pub inspecting_all : length P ≤ u → Inspecting L P R rule s W X Accepted
    inspecting_all h =
        accepted_later p (past_7 ∙ refuse_least_no 8 (length P) (faulty L.place P R rule s) u is h) (p.left ok)
