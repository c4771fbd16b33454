-- What a list of lengthens answers and leaves (document 02, request 105, sentence by sentence).
--
--   each_differ   == lists that differ in length are refused with 19, whatever the tree and the sheet
--   each_none     == with empty lists, the frame of an accepted sheet, which is left as it is
--   each_one      == a list of one is that lengthen, with place 1
--   each_stops    == the first refused one's refusal and place are answered; those before it stand, it changes nothing,
--                    and those after it are not tried
--   Last .. w h   == the last of the lists is made on what those before it leave, and answers the frame w by h
--   each_last     == so it is where none is refused, and the answer is that frame
--   each_place    == a refusal's place is 0, or one in the lists
--   refused_no_frame == a refusal is no frame
--   turn_goes_on, turn_stops == what comes of the first lengthen of the lists, accepted or refused
--   each_turns    == the call is these lengthens where none of the refusals with place 0 applies
use Rattle.std.proofs.Math.Bool.{Bool, not}
use Rattle.std.specs.Prelude.{cond, ◌≡◌, ℕ, suc, ◌+◌, ◌≤◌, ◌<◌, length}
use mathlib.Core.List.{List, [], ◌∷◌, ◌++◌}
use Rattle.std.proofs.Math.Option.{Option, none, some}
use Rattle.std.proofs.Math.Path.{refl, sym, ap, ap₂}
use Rattle.std.proofs.Common.{◌∙◌, ne_eqb}
use native.Mathlib.Omega.{arith}
use Rattle.laws.specs.Refusals.{or_else_first, or_else_second, refuse_yes, settle-none, settle_some}
use Rattle.laws.specs.Search.{Refusal, Outcome, settle}
use Rattle.laws.specs.Tests.{by_test, differ}
use Rattle.table.specs.declared.Limits.{Limits}
use Rattle.table.specs.Table.{shape_fault}
use Rattle.slopes.specs.declared.Rule.{Rule}
use Rattle.drawing.specs.Framed.{Framed}
use Rattle.drawing.specs.Framed as framed
use Rattle.drawing.specs.Drawing.{Sheet, lengths_fit, frame, accepted}
use Rattle.stretching.proofs.CallLaws.{accepted_stretches}
use Rattle.stretching.specs.Stretching.{lengthen}
use Rattle.arranging.specs.Arranged.{Arranged}
use Rattle.arranging.specs.Arranged.{Frame, Refused}
use Rattle.arranging.specs.Arranging.{lists_fault, each_fault, at_place, whole, in_turn, lengthen_each}

------------------------------------------------------------------------
-- The lengthens of the lists, one after another

abbrev answered : Outcome Arranged Sheet → Arranged
answered o = o.answer

pub refused_no_frame : {k v p w h : ℕ} → Refused k v p ≡ Frame w h → ⊥
refused_no_frame e = let z : ◌≡◌ {A = ℕ} 0 1 = cc in omega arith

-- a frame is answered to a frame alone
at-frame : (a : Framed) (place : ℕ) {w h : ℕ} → at_place a place ≡ Frame w h → a ≡ framed.Frame w h
unfolding at_place
at-frame (framed.Frame w h) place e = cc
at-frame (framed.Refused n u) place e = absurd (refused_no_frame e)

module _ (L : Limits) (P R : List ℕ) (rule : Rule) (work : ℕ) where
  -- what comes of a lengthen whose outcome is o and of those after it, by whether it is accepted
  abbrev chosen : Outcome Framed Sheet → ℕ → List ℕ → List ℕ → Bool → Outcome Arranged Sheet
  chosen o place lots counts ok =
      cond ok (in_turn L P R rule work o.left (place + 1) lots counts)
      (record { answer = at_place o.answer place; left = o.left })

  module _ (s : Sheet) (place v c : ℕ) (lots counts : List ℕ) {t : Sheet} where
    pub turn_goes_on : {w h : ℕ} → lengthen L P R rule s work v c ≡ record { answer = framed.Frame w h; left = t }
        → in_turn L P R rule work s place (v ∷ lots) (c ∷ counts) ≡ in_turn L P R rule work t (place + 1) lots counts
    unfolding in_turn accepted
    turn_goes_on e = rw e refl

    pub turn_stops : {k z : ℕ} → lengthen L P R rule s work v c ≡ record { answer = framed.Refused k z; left = t }
        → in_turn L P R rule work s place (v ∷ lots) (c ∷ counts) ≡ record { answer = Refused k z place; left = t }
    unfolding in_turn accepted at_place
    turn_stops e = rw e refl

  next_place : (a : Framed) (t : Sheet) (place : ℕ) (lots counts : List ℕ) {k z p : ℕ}
      → ((in_turn L P R rule work t (place + 1) lots counts).answer ≡ Refused k z p → p < place + 1 + length lots)
      → (chosen (record { answer = a; left = t }) place lots counts (accepted a)).answer ≡ Refused k z p
      → p < place + suc (length lots)
  unfolding at_place accepted
  next_place (framed.Frame w h) t place lots counts rest e = omega (arith, rest e)
  next_place (framed.Refused n u) t place lots counts {p = p} rest e = let is : place ≡ p = cc in omega arith

  turn_place : (s : Sheet) (place : ℕ) (lots counts : List ℕ) {k z p : ℕ}
      → (in_turn L P R rule work s place lots counts).answer ≡ Refused k z p → p < place + length lots
  unfolding in_turn at_place frame
  turn_place s place [] counts e = absurd (refused_no_frame (sym e))
  turn_place s place (v ∷ lots) [] e = absurd (refused_no_frame (sym e))
  turn_place s place (v ∷ lots) (c ∷ counts) e =
      let o = lengthen L P R rule s work v c in
      next_place o.answer o.left place lots counts (turn_place o.left (place + 1) lots counts) e

  turn_one : (s : Sheet) (place v c : ℕ) → (let o = lengthen L P R rule s work v c in
      in_turn L P R rule work s place (v ∷ []) (c ∷ []) ≡ record { answer = at_place o.answer place; left = o.left })
  unfolding in_turn at_place frame
  turn_one s place v c =
      let o = lengthen L P R rule s work v c in
      by_test (accepted o.answer)
      (λ e. ap (chosen o place [] []) e
      ∙ ap (λ a. record { answer = at_place a place; left = o.left }) (sym (accepted_stretches L P R rule s work v c e).answer))
      (λ e. ap (chosen o place [] []) e)

  -- where none of the first ones is refused, the others follow on what they leave
  turn_append : (s : Sheet) (place : ℕ) (first counted lots counts : List ℕ) (t : Sheet) → length first ≡ length counted
      → in_turn L P R rule work s place first counted ≡ whole t
      → in_turn L P R rule work s place (first ++ lots) (counted ++ counts)
      ≡ in_turn L P R rule work t (place + length first) lots counts
  unfolding in_turn accepted frame at_place
  turn_append s place [] [] lots counts t same e =
      ap₂ (λ u n. in_turn L P R rule work u n lots counts) (ap (λ (o : Outcome Arranged Sheet). o.left) e) (omega arith)
  turn_append s place [] (b ∷ counted) lots counts t same e = absurd (omega arith)
  turn_append s place (u ∷ first) [] lots counts t same e = absurd (omega arith)
  turn_append s place (u ∷ first) (b ∷ counted) lots counts t same e =
      let o = lengthen L P R rule s work u b in
      by_test (accepted o.answer)
      (λ ok. ap (chosen o place (first ++ lots) (counted ++ counts)) ok
      ∙ turn_append o.left (place + 1) first counted lots counts t (omega arith)
      (sym (ap (chosen o place first counted) ok) ∙ e)
      ∙ ap (λ n. in_turn L P R rule work t n lots counts) (omega arith))
      (λ no_frame. absurd (differ (ap accepted (at-frame o.answer place
      (ap answered (sym (ap (chosen o place first counted) no_frame) ∙ e)))) no_frame))

  pub record Last (s : Sheet) (place : ℕ) (lots counts : List ℕ) (v c w h : ℕ) (left : Sheet) : Type 0 where
    pub sheet : Sheet
    pub before : in_turn L P R rule work s place lots counts ≡ whole sheet
    pub last : lengthen L P R rule sheet work v c ≡ record { answer = framed.Frame w h; left = left }

  turn_last : (s : Sheet) (place : ℕ) (lots counts : List ℕ) (v c : ℕ) {w h : ℕ} {t : Sheet}
      → length lots ≡ length counts
      → in_turn L P R rule work s place (lots ++ (v ∷ [])) (counts ++ (c ∷ []))
      ≡ record { answer = Frame w h; left = t }
      → Last s place lots counts v c w h t
  unfolding in_turn accepted
  turn_last s place [] [] v c same e =
      let is = sym (turn_one s place v c) ∙ e in
      record {
        sheet = s;
        before = refl;
        last = ap₂ (λ a u. record { answer = a; left = u }) (at-frame _ place (ap answered is))
            (ap (λ (o : Outcome Arranged Sheet). o.left) is);
      }
  turn_last s place [] (b ∷ counts) v c same e = absurd (omega arith)
  turn_last s place (u ∷ lots) [] v c same e = absurd (omega arith)
  turn_last s place (u ∷ lots) (b ∷ counts) v c same e =
      let o = lengthen L P R rule s work u b in
      let whole_list : Bool → Outcome Arranged Sheet = chosen o place (lots ++ (v ∷ [])) (counts ++ (c ∷ [])) in
      by_test (accepted o.answer)
      (λ ok.
      let r = turn_last o.left (place + 1) lots counts v c (omega arith) (sym (ap whole_list ok) ∙ e) in
      record { sheet = r.sheet; before = ap (chosen o place lots counts) ok ∙ r.before; last = r.last })
      (λ no_frame. absurd
      (differ (ap accepted (at-frame o.answer place (ap answered (sym (ap whole_list no_frame) ∙ e)))) no_frame))

------------------------------------------------------------------------
-- The call

module _ (L : Limits) (P R : List ℕ) (rule : Rule) (s : Sheet) (work : ℕ) (lots counts : List ℕ) where
  pub each_turns : each_fault L P R rule s work lots counts ≡ none
      → lengthen_each L P R rule s work lots counts ≡ in_turn L P R rule work s 1 lots counts
  unfolding lengthen_each
  each_turns e = settle-none _ s _ _ _ e

  pub each_differ : shape_fault L P R (lengths_fit P s) work ≡ none → (length lots ≡ length counts → ⊥)
      → lengthen_each L P R rule s work lots counts ≡ record { answer = Refused 19 0 0; left = s }
  unfolding lengthen_each each_fault lists_fault
  each_differ e ne =
      settle_some (λ n v. Refused n v 0) s _ _ _
      (or_else_first _ _ (or_else_second _ _ e ∙ refuse_yes _ 19 0 (ap not (ne_eqb (length lots) (length counts) ne))))

  pub each_place : {k z p : ℕ} → (lengthen_each L P R rule s work lots counts).answer ≡ Refused k z p → p ≤ length lots
  unfolding lengthen_each
  each_place {k} {z} {p} = go (each_fault L P R rule s work lots counts)
    where
      o : Outcome Arranged Sheet
      o = in_turn L P R rule work s 1 lots counts

      go : (f : Option Refusal) → (settle (λ n v. Refused n v 0) f s o.answer o.left).answer ≡ Refused k z p
          → p ≤ length lots
      go none e = omega (arith, turn_place L P R rule work s 1 lots counts e)
      go (some r) e = let is : ◌≡◌ {A = ℕ} 0 p = cc in omega arith

module _ (L : Limits) (P R : List ℕ) (rule : Rule) (s : Sheet) (work : ℕ) where
  pub each_none : each_fault L P R rule s work [] [] ≡ none → lengthen_each L P R rule s work [] [] ≡ whole s
  unfolding in_turn
  each_none e = each_turns L P R rule s work [] [] e

  pub each_one : (v c : ℕ) → each_fault L P R rule s work (v ∷ []) (c ∷ []) ≡ none
      → (let o = lengthen L P R rule s work v c in
      lengthen_each L P R rule s work (v ∷ []) (c ∷ []) ≡ record { answer = at_place o.answer 1; left = o.left })
  each_one v c e = each_turns L P R rule s work (v ∷ []) (c ∷ []) e ∙ turn_one L P R rule work s 1 v c

  pub each_last : (lots counts : List ℕ) (v c : ℕ) {w h : ℕ} {t : Sheet}
      → each_fault L P R rule s work (lots ++ (v ∷ [])) (counts ++ (c ∷ [])) ≡ none → length lots ≡ length counts
      → lengthen_each L P R rule s work (lots ++ (v ∷ [])) (counts ++ (c ∷ [])) ≡ record { answer = Frame w h; left = t }
      → Last L P R rule work s 1 lots counts v c w h t
  each_last lots counts v c fine same e =
      turn_last L P R rule work s 1 lots counts v c same (sym (each_turns L P R rule s work _ _ fine) ∙ e)

  pub each_stops : (first counted : List ℕ) (v c : ℕ) (rest others : List ℕ) {k z : ℕ} (t : Sheet)
      → each_fault L P R rule s work (first ++ (v ∷ rest)) (counted ++ (c ∷ others)) ≡ none
      → length first ≡ length counted → in_turn L P R rule work s 1 first counted ≡ whole t
      → lengthen L P R rule t work v c ≡ record { answer = framed.Refused k z; left = t }
      → lengthen_each L P R rule s work (first ++ (v ∷ rest)) (counted ++ (c ∷ others))
      ≡ record { answer = Refused k z (1 + length first); left = t }
  each_stops first counted v c rest others t fine same before e =
      each_turns L P R rule s work _ _ fine
      ∙ turn_append L P R rule work s 1 first counted (v ∷ rest) (c ∷ others) t same before
      ∙ turn_stops L P R rule work t (1 + length first) v c rest others e
