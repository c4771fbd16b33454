-- What hold does.
--
--   Marking L .. o          == the outcome o of a call is the frame of the drawing, which stays, and the entry of v is
--                              set or cleared
--   hold_does               == hold refuses or marks
--   held_here, held_others  == then the entry of v says whether it is held, and every other is as it was
--   hold_same               == holding a held edge, or freeing a free one, changes nothing
--   held_then_22            == after an accepted hold, lengthen and shorten are refused with 22, by every count
--   freed_again             == hold, then free, gives back a sheet on which the edge was free
use Rattle.std.specs.Prelude.{Bool, List, [], ◌∷◌, ◌⊎◌, ◌≡◌, ℕ, zero, suc, ◌≤◌, ◌<◌, length, get_or, set}
use Rattle.std.proofs.Math.Bool.{true, false}
use Rattle.std.proofs.Math.Logic.{inl, inr}
use Rattle.std.proofs.Math.Option.{Option, none, some}
use Rattle.std.proofs.Math.Path.{refl, ap, subst}
use Rattle.std.proofs.Common.{sym, ◌∙◌, arith, get_or-set_same, get_or-set_other, eq-eqb}
use Rattle.std.proofs.lemmas.List.{set-get_or}
use Rattle.laws.specs.Refusals.{settle-none}
use Rattle.laws.specs.Search.{Refusal, Outcome}
use Rattle.table.specs.declared.Limits.{Limits}
use Rattle.slopes.specs.declared.Rule.{Rule}
use Rattle.drawing.specs.CallLaws.{settled}
use Rattle.drawing.specs.Framed.{Framed}
use Rattle.drawing.specs.Framed.{Frame, Refused}
use Rattle.drawing.specs.Drawing.{Sheet, sheet_of, frame, redrawn}
use Rattle.drawing.specs.SheetLaws.{Sound, held_set}
use Rattle.stretching.specs.Calls.{Untouched, Examined}
use Rattle.stretching.proofs.CallLaws.{examined, examined_again}
use Rattle.stretching.proofs.HeldLaws.{lengthen_held, shorten_held}
use Rattle.stretching.specs.Stretching.{lot_fault, is_held, lengthen, shorten}
use Rattle.holding.specs.Holding.{entry, marked, hold}

pub record Marking (L : Limits) (P R : List ℕ) (rule : Rule) (v : ℕ) (on : Bool) (s : Sheet)
    (o : Outcome Framed Sheet) : Type 0 where
  pub above : 0 < v
  pub inside : v < length P
  pub answer : o.answer ≡ frame o.left.drawing
  pub drawing : o.left.drawing ≡ s.drawing
  pub held : o.left.held ≡ set s.held v (entry on)
  pub sound : Sound L.place P R rule o.left

module _ {L : Limits} {P R : List ℕ} {rule : Rule} {v : ℕ} {on : Bool} {s : Sheet} {o : Outcome Framed Sheet}
    (m : Marking L P R rule v on s o) where
  pub held_here : length s.held ≡ length P → get_or o.left.held v 0 ≡ entry on
  held_here long =
      ap (λ H. get_or H v 0) m.held ∙ get_or-set_same s.held v (entry on) 0 (omega (arith, m.inside, long))

  pub held_others : (z : ℕ) → (z ≡ v → ⊥) → get_or o.left.held z 0 ≡ get_or s.held z 0
  held_others z ne = ap (λ H. get_or H z 0) m.held ∙ get_or-set_other s.held v z (entry on) 0 ne

entry_low : (on : Bool) → entry on ≤ 1
entry_low true = omega arith
entry_low false = omega arith

module _ (L : Limits) (P R : List ℕ) (rule : Rule) (s : Sheet) (work v : ℕ) (on : Bool) where
  marked_sound : Examined L P R rule s work v → Sound L.place P R rule (marked s v on)
  marked_sound x =
      let sound = x.inspected.sound in
      record {
        drawn = sound.drawn;
        held = held_set sound.held v (entry on) x.above x.inside (entry_low on);
      }

  pub hold_does : (let o = hold L P R rule s work v on in Untouched s o ⊎ Marking L P R rule v on s o)
  unfolding hold
  hold_does = go (lot_fault L P R rule s work v) refl
    where
      go : (f : Option Refusal) → lot_fault L P R rule s work v ≡ f
          → Untouched s (redrawn f s (marked s v on)) ⊎ Marking L P R rule v on s (redrawn f s (marked s v on))
      go (some r) e = inl (record { number = r.number; node = r.node; answer = refl; left = refl })
      go none e =
          let x = examined L P R rule s work v e in
          inr (record {
            above = x.above;
            inside = x.inside;
            answer = refl;
            drawing = refl;
            held = refl;
            sound = marked_sound x;
          })

------------------------------------------------------------------------
-- Held and freed

set_twice : (l : List ℕ) (i a b : ℕ) → set (set l i a) i b ≡ set l i b
set_twice [] i a b = refl
set_twice (k ∷ l) zero a b = refl
set_twice (k ∷ l) (suc i) a b = ap (λ (r : List ℕ). k ∷ r) (set_twice l i a b)

set_same : (l : List ℕ) (i a : ℕ) → get_or l i 0 ≡ a → set l i a ≡ l
set_same l i a e = ap (set l i) (sym e) ∙ set-get_or l i 0

-- an accepted call refused nothing
accepted : (L : Limits) (P R : List ℕ) (rule : Rule) (s : Sheet) (work v : ℕ) (on : Bool) {w h : ℕ} {t : Sheet}
    → hold L P R rule s work v on ≡ record { answer = Frame w h; left = t }
    → Examined L P R rule s work v × (marked s v on ≡ t)
unfolding hold
accepted L P R rule s work v on e =
    let f = settled s (marked s v on) (frame s.drawing) (lot_fault L P R rule s work v) e in
    (examined L P R rule s work v f.0, f.1)

module _ (L : Limits) (P R : List ℕ) (rule : Rule) (s : Sheet) (work v : ℕ) where
  -- the entry that a sheet has already
  pub hold_same : (on : Bool) → lot_fault L P R rule s work v ≡ none → get_or s.held v 0 ≡ entry on
      → hold L P R rule s work v on ≡ record { answer = frame s.drawing; left = s }
  unfolding hold
  hold_same on fine is =
      settle-none Refused s _ _ _ fine
      ∙ ap (λ H. record { answer = frame s.drawing; left = sheet_of s.drawing H })
      (set_same s.held v (entry on) is)

  module _ {w h : ℕ} {t : Sheet} (e : hold L P R rule s work v true ≡ record { answer = Frame w h; left = t }) where
    -- a held edge passes 1 to 10 and no more
    held_now : (lot_fault L P R rule t work v ≡ none) × (is_held t v ≡ true)
    held_now =
        let a = accepted L P R rule s work v true e in
        let x = a.0 in
        subst (λ u. (lot_fault L P R rule u work v ≡ none) × (is_held u v ≡ true)) a.1 (
          examined_again x (marked_sound L P R rule s work v true x),
          eq-eqb _ 1 (get_or-set_same s.held v 1 0 (omega (arith, x.inside, x.inspected.sound.held.long))),
        )

    pub held_then_22 : (c : ℕ) → (lengthen L P R rule t work v c ≡ record { answer = Refused 22 v; left = t })
        × (shorten L P R rule t work v c ≡ record { answer = Refused 22 v; left = t })
    held_then_22 c = (
      lengthen_held L P R rule t work v c held_now.0 held_now.1,
      shorten_held L P R rule t work v c held_now.0 held_now.1,
    )

    -- freeing it again gives back a sheet on which it was free
    pub freed_again : get_or s.held v 0 ≡ 0
        → hold L P R rule t work v false ≡ record { answer = frame s.drawing; left = s }
    unfolding hold
    freed_again free =
        let a = accepted L P R rule s work v true e in
        subst (λ u. hold L P R rule u work v false ≡ record { answer = frame s.drawing; left = s }) a.1
        (settle-none Refused _ _ _ _ (examined_again a.0 (marked_sound L P R rule s work v true a.0))
        ∙ ap (λ H. record { answer = frame s.drawing; left = sheet_of s.drawing H })
        (set_twice s.held v 1 0 ∙ set_same s.held v 0 free))
