-- What refusals 1 to 10 and 22 leave, and what lengthen and shorten do.
--
--   lengthen_does, shorten_does == lengthen and shorten refuse or stretch
--   lengthen_sound              == what lengthen leaves of a sheet is one
--   lengthen-accepted, ..       == what an accepted one was given, and what it left
--   accepted-free               == by the test of its answer: an accepted lengthen was given a free edge,
--   accepted_stretches             and stretched it
--   lengthen_made               == of a free edge, where no place goes too far, lengthen is accepted
--   shorten_undoes              == shorten undoes lengthen
--   lengthen_0, shorten_0       == of a free edge count 0 changes nothing and is no ground for a refusal
use Rattle.std.specs.Prelude.{Bool, false, ◌||◌, List, ◌⊎◌, ◌≡◌, ℕ, ◌≤◌, ◌<◌, ltb, leb}
use Rattle.std.proofs.Math.Bool.{true}
use Rattle.std.proofs.Math.Logic.{inl, inr, ⊎_elim}
use Rattle.std.proofs.Math.Option.{Option, none, some}
use Rattle.std.proofs.Math.Path.{refl, subst⁻¹}
use Rattle.std.proofs.Common.{ap, ap₂, subst, ◌∙◌}
use native.Mathlib.Omega.{arith}
use Rattle.std.proofs.Math.ListN.{length, get_or}
use borrow.Author.Tests.{ltb-false, lt-ltb, le-ltb, lt-leb, leb-false, eqb-false, ne_eqb}
use Rattle.faults.specs.Numbers.{number}
use Rattle.laws.specs.Refusals.{or_else_second, or_else_none, refuse_no, refuse-none}
use Rattle.laws.specs.Refusals.{settle-none}
use Rattle.laws.specs.Search.{least, Refusal, refuse, ◌or_else◌}
use Rattle.laws.specs.SearchLaws.{least-found, least_is, least-none}
use Rattle.laws.specs.Tests.{differ, neither, neither_is, either_first, either_second}
use Rattle.table.specs.declared.Limits.{Limits}
use Rattle.slopes.specs.declared.Rule.{Rule}
use Rattle.drawing.specs.Framed.{Frame, Refused}
use Rattle.drawing.specs.Drawing.{Drawing, Sheet, sheet_of, frame, accepted, sheet_fault, redrawn}
use Rattle.drawing.specs.DrawingLaws.{Drawn}
use Rattle.drawing.specs.CallLaws.{settled, inspected, inspected_again}
use Rattle.drawing.specs.SheetLaws.{Sound}
use Rattle.stretching.specs.Stretching.{beyond, edge_fault, lot_fault, is_held, stretch_fault, lengthen, shorten}
use Rattle.stretching.specs.Stretches.{shorter, longer, Stretch}
use Rattle.stretching.proofs.StretchLaws.{longer_stretch, shorter_stretch, stretch_drawn}
use Rattle.stretching.proofs.StretchLaws.{unstretch_drawn, stretch_one, unstretch_one, stretch_0}
use Rattle.stretching.specs.Calls.{Examined, Free, Stretching, Untouched}

-- 9 and 10 by themselves
pub edge_none : (n v : ℕ) → edge_fault n v ≡ none → (0 < v) × (v < n)
unfolding edge_fault
edge_none n v e =
    let a = or_else_none (refuse (leb n v) 9 0) _ e in
    let ne : v ≡ 0 → ⊥ = eqb-false v 0 (refuse-none _ 10 0 a.1) in
    (omega arith, leb-false n v (refuse-none _ 9 0 a.0))

pub examined : (L : Limits) (P R : List ℕ) (rule : Rule) (s : Sheet) (work v : ℕ)
    → lot_fault L P R rule s work v ≡ none
    → Examined L P R rule s work v
unfolding lot_fault
examined L P R rule s work v e =
    let a = or_else_none (sheet_fault L P R rule s work) _ e in
    let edge = edge_none (length P) v a.1 in
    record { inspected = inspected L P R rule s work a.0; above = edge.0; inside = edge.1 }

-- another sheet passes too
pub examined_again : {L : Limits} {P R : List ℕ} {rule : Rule} {s : Sheet} {work v : ℕ} → Examined L P R rule s work v
    → {t : Sheet} → Sound L.place P R rule t → lot_fault L P R rule t work v ≡ none
unfolding lot_fault edge_fault
examined_again {P = P} {v = v} x a =
    or_else_second _ _ (inspected_again x.inspected a)
    ∙ or_else_second _ _ (refuse_no _ 9 0 (lt-leb (length P) v x.inside))
    ∙ refuse_no _ 10 0 (ne_eqb v 0 (λ e. omega arith))

pub free : (L : Limits) (P R : List ℕ) (rule : Rule) (s : Sheet) (work v : ℕ)
    → stretch_fault L P R rule s work v ≡ none → Free L P R rule s work v
unfolding stretch_fault
free L P R rule s work v e =
    let a = or_else_none (lot_fault L P R rule s work v) _ e in
    record { examined = examined L P R rule s work v a.0; free = refuse-none _ 22 v a.1 }

pub free_again : {L : Limits} {P R : List ℕ} {rule : Rule} {s : Sheet} {work v : ℕ} → Examined L P R rule s work v
    → {t : Sheet} → Sound L.place P R rule t → is_held t v ≡ false → stretch_fault L P R rule t work v ≡ none
unfolding stretch_fault
free_again {v = v} x a e = or_else_second _ _ (examined_again x a) ∙ refuse_no _ 22 v e

module _ (limit n : ℕ) (t : Drawing) where
  abbrev far : ℕ → Bool
  far z = ltb limit (get_or t.x z 0) || ltb limit (get_or t.y z 0)

  pub beyond_no : beyond limit n t ≡ false → (z : ℕ) → z < n → (get_or t.x z 0 ≤ limit) × (get_or t.y z 0 ≤ limit)
  unfolding beyond
  beyond_no e z l =
      let f = neither _ _ (least-none far n (ltb-false (least far n) n e) z l) in
      (ltb-false limit (get_or t.x z 0) f.0, ltb-false limit (get_or t.y z 0) f.1)

  pub no_beyond : ((z : ℕ) → z < n → (get_or t.x z 0 ≤ limit) × (get_or t.y z 0 ≤ limit)) → beyond limit n t ≡ false
  unfolding beyond
  no_beyond fits =
      le-ltb (least far n) n (omega (
        arith,
        least_is far n n (omega arith)
            (λ z l. neither_is (le-ltb limit (get_or t.x z 0) (fits z l).0)
            (le-ltb limit (get_or t.y z 0) (fits z l).1))
            (λ l. absurd (omega arith)),
      ))

  beyond-at : (z : ℕ) → z < n → far z ≡ true → beyond limit n t ≡ true
  unfolding beyond
  beyond-at z l e = lt-ltb (least far n) n (omega (arith, (least-found far n z l e).0))

  pub beyond_x : (z : ℕ) → z < n → limit < get_or t.x z 0 → beyond limit n t ≡ true
  beyond_x z l h = beyond-at z l (either_first _ _ (lt-ltb limit (get_or t.x z 0) h))

  pub beyond_y : (z : ℕ) → z < n → limit < get_or t.y z 0 → beyond limit n t ≡ true
  beyond_y z l h = beyond-at z l (either_second (ltb limit (get_or t.x z 0)) _ (lt-ltb limit (get_or t.y z 0) h))

module _ (L : Limits) (P R : List ℕ) (rule : Rule) (s : Sheet) (work v c : ℕ) where
  abbrev on : Drawing
  on = longer P R rule s.drawing v c

  abbrev back : Drawing
  back = shorter P R rule s.drawing v c

  abbrev on_sheet : Sheet
  on_sheet = sheet_of on s.held

  abbrev back_sheet : Sheet
  back_sheet = sheet_of back s.held

  abbrev too_far : Option Refusal
  too_far = refuse (beyond L.place (length P) on) (number L.far) v

  abbrev too_short : Option Refusal
  too_short = refuse (leb (get_or s.drawing.times v 0) c) 12 v

  -- the longer drawing of a sheet that is not refused, and the shorter one
  pub longer_drawn : Examined L P R rule s work v → beyond L.place (length P) on ≡ false
      → Drawn L.place P R rule on
  longer_drawn x near =
      let drawn = x.inspected.sound.drawn in
      stretch_drawn x.inspected.accepting.tree x.above x.inside (longer_stretch drawn x.inside) drawn
      (beyond_no L.place (length P) on near)

  pub shorter_drawn : Examined L P R rule s work v → c < get_or s.drawing.times v 0 → Drawn L.place P R rule back
  shorter_drawn x less =
      let drawn = x.inspected.sound.drawn in
      let tree = x.inspected.accepting.tree in
      unstretch_drawn tree x.above x.inside (shorter_stretch tree x.above x.inside drawn (omega arith))
      drawn less

  -- what an accepted call was given, and what it left
  pub lengthen-accepted : {w h : ℕ} {t : Sheet}
      → lengthen L P R rule s work v c ≡ record { answer = Frame w h; left = t }
      → Free L P R rule s work v × (beyond L.place (length P) on ≡ false) × (on_sheet ≡ t)
  unfolding lengthen
  lengthen-accepted e =
      let f = settled s on_sheet (frame on) (stretch_fault L P R rule s work v or_else too_far) e in
      let parts = or_else_none (stretch_fault L P R rule s work v) too_far f.0 in
      (free L P R rule s work v parts.0, refuse-none _ (number L.far) v parts.1, f.1)

  -- such a call is accepted
  pub lengthen_made : Free L P R rule s work v → beyond L.place (length P) on ≡ false
      → lengthen L P R rule s work v c ≡ record { answer = frame on; left = on_sheet }
  unfolding lengthen
  lengthen_made f near =
      let x = f.examined in
      settle-none Refused s (frame on) on_sheet _
      (or_else_second _ _ (free_again x x.inspected.sound f.free) ∙ refuse_no _ (number L.far) v near)

  pub shorten-accepted : {w h : ℕ} {t : Sheet}
      → shorten L P R rule s work v c ≡ record { answer = Frame w h; left = t }
      → Free L P R rule s work v × (c < get_or s.drawing.times v 0) × (back_sheet ≡ t)
  unfolding shorten
  shorten-accepted e =
      let f = settled s back_sheet (frame back) (stretch_fault L P R rule s work v or_else too_short) e in
      let parts = or_else_none (stretch_fault L P R rule s work v) too_short f.0 in
      (free L P R rule s work v parts.0, leb-false _ c (refuse-none _ 12 v parts.1), f.1)

  pub lengthen_does : (let o = lengthen L P R rule s work v c in
      Untouched s o ⊎ Stretching L P R rule v c s.held s.drawing o.left.drawing o)
  unfolding lengthen
  lengthen_does = go (stretch_fault L P R rule s work v or_else too_far) refl
    where
      go : (f : Option Refusal) → (stretch_fault L P R rule s work v or_else too_far) ≡ f
          → Untouched s (redrawn f s on_sheet)
          ⊎ Stretching L P R rule v c s.held s.drawing (redrawn f s on_sheet).left.drawing (redrawn f s on_sheet)
      go (some r) e = inl (record { number = r.number; node = r.node; answer = refl; left = refl })
      go none e =
          let parts = or_else_none (stretch_fault L P R rule s work v) too_far e in
          let f = free L P R rule s work v parts.0 in
          let x = f.examined in
          inr (record {
            above = x.above;
            inside = x.inside;
            free = f.free;
            answer = refl;
            sound = record {
              drawn = longer_drawn x (refuse-none _ (number L.far) v parts.1);
              held = x.inspected.sound.held;
            };
            held = refl;
            stretch = longer_stretch x.inspected.sound.drawn x.inside;
          })

  pub shorten_does : (let o = shorten L P R rule s work v c in
      Untouched s o ⊎ Stretching L P R rule v c s.held o.left.drawing s.drawing o)
  unfolding shorten
  shorten_does = go (stretch_fault L P R rule s work v or_else too_short) refl
    where
      go : (f : Option Refusal) → (stretch_fault L P R rule s work v or_else too_short) ≡ f
          → Untouched s (redrawn f s back_sheet)
          ⊎ Stretching L P R rule v c s.held (redrawn f s back_sheet).left.drawing s.drawing
          (redrawn f s back_sheet)
      go (some r) e = inl (record { number = r.number; node = r.node; answer = refl; left = refl })
      go none e =
          let parts = or_else_none (stretch_fault L P R rule s work v) too_short e in
          let f = free L P R rule s work v parts.0 in
          let x = f.examined in
          let less : c < get_or s.drawing.times v 0 = leb-false _ c (refuse-none _ 12 v parts.1) in
          inr (record {
            above = x.above;
            inside = x.inside;
            free = f.free;
            answer = refl;
            sound = record { drawn = shorter_drawn x less; held = x.inspected.sound.held };
            held = refl;
            stretch = shorter_stretch x.inspected.accepting.tree x.above x.inside
                x.inspected.sound.drawn
                (omega arith);
          })

  pub accepted-free : accepted (lengthen L P R rule s work v c).answer ≡ true → Free L P R rule s work v
  unfolding lengthen accepted
  accepted-free = go (stretch_fault L P R rule s work v) refl
    where
      go : (f : Option Refusal) → stretch_fault L P R rule s work v ≡ f
          → accepted (redrawn (f or_else too_far) s on_sheet).answer ≡ true → Free L P R rule s work v
      go none e a = free L P R rule s work v e
      go (some r) e a = absurd (differ a refl)

  pub accepted_stretches : (let o = lengthen L P R rule s work v c in
      accepted o.answer ≡ true → Stretching L P R rule v c s.held s.drawing o.left.drawing o)
  unfolding accepted
  accepted_stretches a =
      ⊎_elim (λ (u : Untouched s (lengthen L P R rule s work v c)). absurd (differ a (ap accepted u.answer)))
      (λ (m : Stretching L P R rule v c s.held s.drawing (lengthen L P R rule s work v c).left.drawing
      (lengthen L P R rule s work v c)). m)
      lengthen_does

pub lengthen_sound : (L : Limits) (P R : List ℕ) (rule : Rule) (s : Sheet) (work v c : ℕ)
    → Sound L.place P R rule s → Sound L.place P R rule (lengthen L P R rule s work v c).left
lengthen_sound L P R rule s work v c a =
    ⊎_elim (λ (u : Untouched s (lengthen L P R rule s work v c)). subst⁻¹ (Sound L.place P R rule) u.left a)
    (λ (m : Stretching L P R rule v c s.held s.drawing (lengthen L P R rule s work v c).left.drawing
    (lengthen L P R rule s work v c)). m.sound)
    (lengthen_does L P R rule s work v c)

-- shorten gives back the sheet that lengthen was given
undone : (L : Limits) (P R : List ℕ) (rule : Rule) (s : Sheet) (work v c : ℕ) → Free L P R rule s work v
    → beyond L.place (length P) (on L P R rule s work v c) ≡ false
    → shorten L P R rule (on_sheet L P R rule s work v c) work v c ≡ record { answer = frame s.drawing; left = s }
unfolding shorten
undone L P R rule s work v c f near =
    let x = f.examined in
    let sound = x.inspected.sound in
    let t = on_sheet L P R rule s work v c in
    let forth : Stretch P R rule v c s.drawing t.drawing = longer_stretch sound.drawn x.inside in
    let d = longer_drawn L P R rule s work v c x near in
    let less : c < get_or t.drawing.times v 0 = omega (arith, forth.here, sound.drawn.some v x.inside) in
    let again : Stretch P R rule v c (back L P R rule t work v c) t.drawing =
    shorter_stretch x.inspected.accepting.tree x.above x.inside d (omega arith) in
    settle-none Refused t (frame (back L P R rule t work v c)) (back_sheet L P R rule t work v c) _
    (or_else_second _ _ (free_again x (record { drawn = d; held = sound.held }) f.free)
    ∙ refuse_no _ 12 v (lt-leb (get_or t.drawing.times v 0) c less))
    ∙ ap (λ (u : Drawing). record { answer = frame u; left = sheet_of u s.held })
    (unstretch_one x.inside again forth)

pub shorten_undoes : (L : Limits) (P R : List ℕ) (rule : Rule) (s : Sheet) (work v c w h : ℕ) (t : Sheet)
    → lengthen L P R rule s work v c ≡ record { answer = Frame w h; left = t }
    → shorten L P R rule t work v c ≡ record { answer = frame s.drawing; left = s }
shorten_undoes L P R rule s work v c w h t e =
    let a = lengthen-accepted L P R rule s work v c e in
    subst (λ u. shorten L P R rule u work v c ≡ record { answer = frame s.drawing; left = s }) a.2
    (undone L P R rule s work v c a.0 a.1)

module _ (L : Limits) (P R : List ℕ) (rule : Rule) (s : Sheet) (work v : ℕ) where
  -- by cases on refusals 1 to 10 and 22: with a refusal nothing is to be shown
  examine : (tail : Option Refusal) (new : Drawing)
      → (Examined L P R rule s work v → (tail ≡ none) × (new ≡ s.drawing))
      → redrawn (stretch_fault L P R rule s work v or_else tail) s (sheet_of new s.held)
      ≡ redrawn (stretch_fault L P R rule s work v) s s
  examine tail new same = go (stretch_fault L P R rule s work v) refl
    where
      go : (f : Option Refusal) → stretch_fault L P R rule s work v ≡ f
          → redrawn (f or_else tail) s (sheet_of new s.held) ≡ redrawn f s s
      go (some r) e = refl
      go none e =
          let both = same (free L P R rule s work v e).examined in
          ap₂ (λ o u. redrawn o s (sheet_of u s.held)) both.0 both.1

  pub lengthen_0 : lengthen L P R rule s work v 0 ≡ redrawn (stretch_fault L P R rule s work v) s s
  unfolding lengthen
  lengthen_0 =
      examine (too_far L P R rule s work v 0) (on L P R rule s work v 0)
      (λ x.
      let drawn = x.inspected.sound.drawn in
      let same : on L P R rule s work v 0 ≡ s.drawing =
      stretch_one x.inside (longer_stretch drawn x.inside) (stretch_0 drawn) in (
        refuse_no _ (number L.far) v (no_beyond L.place (length P) (on L P R rule s work v 0)
            (subst⁻¹ (λ u. (z : ℕ) → z < length P → (get_or u.x z 0 ≤ L.place) × (get_or u.y z 0 ≤ L.place)) same
            (λ z l. (drawn.x.within z l, drawn.y.within z l)))),
        same,
      ))

  pub shorten_0 : shorten L P R rule s work v 0 ≡ redrawn (stretch_fault L P R rule s work v) s s
  unfolding shorten
  shorten_0 =
      examine (too_short L P R rule s work v 0) (back L P R rule s work v 0)
      (λ x. let drawn = x.inspected.sound.drawn in (
        refuse_no _ 12 v (lt-leb (get_or s.drawing.times v 0) 0 (drawn.some v x.inside)),
        unstretch_one x.inside
            (shorter_stretch x.inspected.accepting.tree x.above x.inside drawn (omega arith))
            (stretch_0 drawn),
      ))
