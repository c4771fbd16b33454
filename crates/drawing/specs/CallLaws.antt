-- What refusals 1 to 8 leave, and what layout does.
--
--   refused_no_frame == a refusal is no frame,
--   settled             so a call on a sheet that answers a frame refused nothing
--   Inspected L ..   == what refusals 1 to 8 leave
--   fresh-within     == at limits with room, the fresh sheet of an accepted table is a sheet
--   layout_sound     == so layout leaves one
use Rattle.std.specs.Prelude.{Bool, not, List, ◌≡◌, ℕ, ◌<◌, length, get_or, replicate}
use Rattle.std.proofs.Math.Option.{Option, none}
use Rattle.std.proofs.Common.{sym, ap, subst, ◌∙◌, arith}
use Rattle.std.proofs.lemmas.List.{length-replicate, get_or-replicate}
use Rattle.std.proofs.lemmas.Bool.{not-false}
use Rattle.laws.specs.Refusals.{or_else_second, or_else_none, refuse_least_all, refuse_least-none, settle-accepted}
use Rattle.laws.specs.Search.{Refusal, settle}
use Rattle.table.specs.Acceptance.{Accepting, accepting}
use Rattle.table.specs.declared.Limits.{Limits}
use Rattle.table.specs.Table.{table_fault}
use Rattle.table.specs.TableLaws.{Tree}
use Rattle.slopes.specs.declared.Rule.{Rule}
use Rattle.drawing.specs.Framed.{Framed}
use Rattle.drawing.specs.Framed.{Frame, Refused}
use Rattle.drawing.specs.Drawing.{Sheet, lengths_fit, fresh_sheet, frame, sheet_fault, layout}
use Rattle.drawing.specs.FreshLaws.{Roomy, fresh_drawn}
use Rattle.drawing.specs.SheetLaws.{Sound, long_fits, fits_sound, sound_fits, sound_long}

pub refused_no_frame : {k v w h : ℕ} → Refused k v ≡ Frame w h → ⊥
refused_no_frame e = let z : ◌≡◌ {A = ℕ} 0 1 = cc in omega arith

-- whatever a call leaves
pub settled : {S : Type 0} (old new : S) (a : Framed) (f : Option Refusal) {w h : ℕ} {s : S}
    → settle Refused f old a new ≡ record { answer = Frame w h; left = s } → (f ≡ none) × (new ≡ s)
settled old new a f e =
    let accepted = settle-accepted Refused old a new f (λ k v. refused_no_frame) e in
    (accepted.0, accepted.2)

pub record Inspected (L : Limits) (P R : List ℕ) (rule : Rule) (s : Sheet) (work : ℕ) : Type 0 where
  pub table : table_fault L P R (lengths_fit P s) work ≡ none
  pub accepting : Accepting L P R (lengths_fit P s) work
  pub sound : Sound L.place P R rule s

pub inspected : (L : Limits) (P R : List ℕ) (rule : Rule) (s : Sheet) (work : ℕ)
    → sheet_fault L P R rule s work ≡ none → Inspected L P R rule s work
unfolding sheet_fault
inspected L P R rule s work e =
    let a = or_else_none (table_fault L P R (lengths_fit P s) work) _ e in
    let t = accepting L P R (lengths_fit P s) work a.0 in
    record {
      table = a.0;
      accepting = t;
      sound = fits_sound L.place P R rule s t.shape.some t.shape.others
          (λ z l. not-false _ (refuse_least-none 8 (length P) _ a.1 z l));
    }

-- another sheet passes too
pub inspected_again : {L : Limits} {P R : List ℕ} {rule : Rule} {s : Sheet} {work : ℕ} → Inspected L P R rule s work
    → {t : Sheet} → Sound L.place P R rule t → sheet_fault L P R rule t work ≡ none
unfolding sheet_fault
inspected_again {L} {P} {R} {rule} {s} {work} x {t} a =
    let long : lengths_fit P t ≡ lengths_fit P s =
    long_fits P t (sound_long a) ∙ sym x.accepting.shape.others in
    or_else_second _ _ (ap (λ b. table_fault L P R b work) long ∙ x.table)
    ∙ refuse_least_all 8 (length P) _ (λ z l. ap not (sound_fits L.place P R rule t a z l))

pub fresh-within : {L : Limits} {P R : List ℕ} {long : Bool} {work : ℕ} → Roomy L → Accepting L P R long work
    → (rule : Rule) → Sound L.place P R rule (fresh_sheet P R rule)
fresh-within {P = P} room a rule = record {
  drawn = fresh_drawn a.tree rule (room.across rule (length P) a.shape.few)
      (room.up rule (length P) a.shape.few);
  held = record {
    long = length-replicate (length P) 0;
    root = free 0 a.shape.some;
    at = λ v l. omega (arith, free v l);
  };
}
  where
    free : (v : ℕ) → v < length P → (let none : List ℕ = replicate (length P) 0 in get_or none v 0 ≡ 0)
    free v l = get_or-replicate (length P) v 0 0 l

-- layout leaves a sheet with every times 1
pub layout_sound : (L : Limits) → Roomy L → (P R : List ℕ) (rule : Rule) (old : Sheet) (work w h : ℕ) (s : Sheet)
    → layout L P R rule old work ≡ record { answer = Frame w h; left = s }
    → Tree P R × Sound L.place P R rule s × (fresh_sheet P R rule ≡ s)
unfolding layout
layout_sound L room P R rule old work w h s e =
    let new = fresh_sheet P R rule in
    let f = settled old new (frame new.drawing) (table_fault L P R (lengths_fit P old) work) e in
    let a = accepting L P R (lengths_fit P old) work f.0 in
    (a.tree, subst (λ t. Sound L.place P R rule t) f.1 (fresh-within room a rule), f.1)
