-- Lists of lengthens in any order.
--
--   each_order                   == a list that is not refused, and every rearrangement of its calls: the answer and the
--                                   sheet are the same
use Rattle.std.proofs.Math.Bool.{true, not}
use mathlib.Core.List.{List, [], ◌∷◌, zip_with, Perm}
use Rattle.std.proofs.Math.Logic.{⊎_elim}
use Rattle.std.proofs.Math.Option.{none}
use Rattle.std.specs.Prelude.{◌≡◌, ℕ, ◌+◌, length}
use Rattle.std.proofs.Math.Path.{refl, sym, ap}
use Rattle.std.proofs.Common.{◌∙◌, eq-eqb}
use Rattle.laws.specs.Refusals.{or_else_second, or_else_none, refuse_no, settle-accepted}
use Rattle.laws.specs.Search.{Outcome}
use Rattle.laws.specs.Tests.{both, both_is}
use Rattle.table.specs.declared.Limits.{Limits}
use Rattle.table.specs.Table.{shape_fault}
use Rattle.slopes.specs.declared.Rule.{Rule}
use Rattle.drawing.specs.Framed.{Framed}
use Rattle.drawing.specs.Drawing.{Sheet, lengths_fit, frame, accepted, sheet_fault}
use Rattle.stretching.specs.Calls.{Untouched, Stretching}
use Rattle.stretching.proofs.CallLaws.{lengthen_does, accepted_stretches}
use Rattle.stretching.specs.Stretching.{lengthen}
use Rattle.arranging.specs.Arranging.{lists_fault, each_fault, whole, in_turn, lengthen_each}
use Rattle.arranging.specs.Arranged.{Arranged}
use Rattle.arranging.specs.Arranged.{Frame, Refused}
use Rattle.arranging.proofs.EachLaws.{refused_no_frame, turn_goes_on, turn_stops, each_turns}
use Rattle.reordering.specs.Reordering.{made, all_accepted, after}
use Rattle.reordering.proofs.ReorderLaws.{reordered}
use Rattle.reordering.specs.EachOrder.{lengthens_of}

module _ (L : Limits) (P R : List ℕ) (rule : Rule) (work : ℕ) where
  -- a lengthen that stretched goes on
  goes_on : (s : Sheet) (place v c : ℕ) (lots counts : List ℕ) → (let o = lengthen L P R rule s work v c in
      Stretching L P R rule v c s.held s.drawing o.left.drawing o
      → in_turn L P R rule work s place (v ∷ lots) (c ∷ counts) ≡ in_turn L P R rule work o.left (place + 1) lots counts)
  unfolding frame
  goes_on s place v c lots counts m =
      let answer = m.answer in
      turn_goes_on L P R rule work s place v c lots counts
      (λ i. record { answer = answer i; left = (lengthen L P R rule s work v c).left })

  -- if the call is not refused, all of its single calls are accepted,
  turns_accepted : (s : Sheet) (place : ℕ) (lots counts : List ℕ) {w h : ℕ} {t : Sheet}
      → in_turn L P R rule work s place lots counts ≡ record { answer = Frame w h; left = t }
      → all_accepted L P R rule s (lengthens_of work lots counts) ≡ true
  unfolding lengthens_of zip_with all_accepted made accepted frame
  turns_accepted s place [] counts e = refl
  turns_accepted s place (v ∷ lots) [] e = refl
  turns_accepted s place (v ∷ lots) (c ∷ counts) e =
      ⊎_elim stops (λ (m : Stretching L P R rule v c s.held s.drawing
      (lengthen L P R rule s work v c).left.drawing (lengthen L P R rule s work v c)).
      both_is (ap accepted m.answer)
      (turns_accepted (lengthen L P R rule s work v c).left (place + 1) lots counts
      (sym (goes_on s place v c lots counts m) ∙ e)))
      (lengthen_does L P R rule s work v c)
    where
      stops : Untouched s (lengthen L P R rule s work v c)
          → all_accepted L P R rule s (lengthens_of work (v ∷ lots) (c ∷ counts)) ≡ true
      stops u =
          let answer = u.answer in
          let is = turn_stops L P R rule work s place v c lots counts
          (λ i. record { answer = answer i; left = (lengthen L P R rule s work v c).left }) in
          absurd (refused_no_frame (ap (λ (o : Outcome Arranged Sheet). o.answer) (sym is ∙ e)))

  -- and if they are, it answers the frame of what the last one leaves
  accepted_turns : (o : Outcome Framed Sheet) (place : ℕ) (lots counts : List ℕ)
      → all_accepted L P R rule o.left (lengthens_of work lots counts) ≡ true
      → in_turn L P R rule work o.left place lots counts
      ≡ whole (after L P R rule o (lengthens_of work lots counts)).left
  unfolding lengthens_of zip_with all_accepted after made in_turn
  accepted_turns o place [] counts a = refl
  accepted_turns o place (v ∷ lots) [] a = refl
  accepted_turns o place (v ∷ lots) (c ∷ counts) a =
      let parts = both _ _ a in
      goes_on o.left place v c lots counts (accepted_stretches L P R rule o.left work v c parts.0)
      ∙ accepted_turns (lengthen L P R rule o.left work v c) (place + 1) lots counts parts.1

  -- refusals 1 to 8 and 19 do not look at what the lists hold
  each_fault-none : (s : Sheet) (lots counts others counted : List ℕ) → length others ≡ length counted
      → each_fault L P R rule s work lots counts ≡ none → each_fault L P R rule s work others counted ≡ none
  unfolding each_fault lists_fault
  each_fault-none s lots counts others counted same e =
      let parts = or_else_none _ (sheet_fault L P R rule s work) e in
      let shape = or_else_none (shape_fault L P R (lengths_fit P s) work) _ parts.0 in
      or_else_second _ _ (or_else_second _ _ shape.0
      ∙ refuse_no _ 19 0 (ap not (eq-eqb (length others) (length counted) same)))
      ∙ parts.1

  pub each_order : (s : Sheet) (lots counts others counted : List ℕ) {w h : ℕ} {t : Sheet}
      → lengthen_each L P R rule s work lots counts ≡ record { answer = Frame w h; left = t }
      → length others ≡ length counted → Perm (lengthens_of work lots counts) (lengthens_of work others counted)
      → lengthen_each L P R rule s work others counted ≡ lengthen_each L P R rule s work lots counts
  unfolding lengthen_each
  each_order s lots counts others counted e same p =
      let o : Outcome Framed Sheet = record { answer = frame s.drawing; left = s } in
      let fine = (settle-accepted (λ k v. Refused k v 0) s (in_turn L P R rule work s 1 lots counts).answer
      (in_turn L P R rule work s 1 lots counts).left (each_fault L P R rule s work lots counts)
      (λ k v. refused_no_frame) e).0 in
      let turns = each_turns L P R rule s work lots counts fine in
      let a = turns_accepted s 1 lots counts (sym turns ∙ e) in
      let alike = reordered L P R rule o refl (lengthens_of work lots counts) (lengthens_of work others counted) a p in
      each_turns L P R rule s work others counted (each_fault-none s lots counts others counted same fine)
      ∙ accepted_turns o 1 others counted alike.accepted
      ∙ ap (λ (q : Outcome Framed Sheet). whole q.left) alike.same
      ∙ sym (accepted_turns o 1 lots counts a)
      ∙ sym turns
