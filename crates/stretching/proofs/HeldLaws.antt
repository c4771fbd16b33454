-- A held edge keeps its slope and its length, and still moves with its ancestors (document 02, request 108).
--
--   lengthen_held, shorten_held           == a held edge is refused with 22, whatever the count, 0 too
--   lengthen_elsewhere, shorten_elsewhere == which other edges are held makes no difference
--   Along P R rule v c s t z              == of an edge z below v, held or not, both ends move by c times v's slope
--                                            from s to t, and its times stay
--   lengthen-along, shorten-along         == so it is when v is lengthened, and back when it is shortened
use Rattle.std.specs.Prelude.{true, ◌&&◌, List, ◌≡◌, refl, ℕ, ◌+◌, ◌*◌, ◌≤◌, ◌<◌, ltb, leb, length, get_or}
use Rattle.std.proofs.Math.Bool.{not}
use Rattle.std.proofs.Math.Option.{Option, none, some}
use Rattle.std.proofs.Math.Path.{sym, ap}
use Rattle.std.proofs.Common.{subst, ◌∙◌, arith}
use Rattle.std.proofs.Math.Dec.{eqb}
use Rattle.faults.specs.Numbers.{number}
use Rattle.laws.specs.Refusals.{refusal, or_else_first, or_else_second, refuse_yes, settle_some}
use Rattle.laws.specs.Search.{Refusal, refuse, ◌or_else◌, Outcome}
use Rattle.laws.specs.SearchLaws.{least_cong}
use Rattle.table.specs.Ancestry.{under_on}
use Rattle.table.specs.declared.Limits.{Limits}
use Rattle.table.specs.Table.{parent, under, all_long, table_fault}
use Rattle.table.specs.TableLaws.{Tree}
use Rattle.slopes.specs.declared.Rule.{Rule}
use Rattle.slopes.specs.Slopes.{across_of, up_of, edge}
use Rattle.drawing.specs.Framed.{Framed}
use Rattle.drawing.specs.Framed.{Frame, Refused}
use Rattle.drawing.specs.Drawing.{Drawing, Sheet, sheet_of, lengths_fit, node_fits, lot_fits, sheet_fault, redrawn}
use Rattle.drawing.specs.SheetLaws.{Held, held_fits_lem}
use Rattle.stretching.proofs.CallLaws.{lengthen-accepted, shorten-accepted}
use Rattle.stretching.specs.Stretching.{beyond, edge_fault, lot_fault, is_held, stretch_fault, lengthen, shorten}
use Rattle.stretching.specs.Stretches.{shorter, longer, Moved, Stretch}
use Rattle.stretching.proofs.StretchLaws.{offset_in, longer_stretch}
use Rattle.stretching.proofs.StretchLaws.{shorter_stretch}

------------------------------------------------------------------------
-- 22

module _ (L : Limits) (P R : List ℕ) (rule : Rule) (s : Sheet) (work v c : ℕ) (fine : lot_fault L P R rule s work v
    ≡ none) (held : is_held s v ≡ true) where
  refused_22 : stretch_fault L P R rule s work v ≡ refusal 22 v
  unfolding stretch_fault
  refused_22 = or_else_second _ _ fine ∙ refuse_yes _ 22 v held

  pub lengthen_held : lengthen L P R rule s work v c ≡ record { answer = Refused 22 v; left = s }
  unfolding lengthen
  lengthen_held = settle_some Refused s _ _ _ (or_else_first _ _ refused_22)

  pub shorten_held : shorten L P R rule s work v c ≡ record { answer = Refused 22 v; left = s }
  unfolding shorten
  shorten_held = settle_some Refused s _ _ _ (or_else_first _ _ refused_22)

------------------------------------------------------------------------
-- Other held edges

-- what a call leaves, with other held edges
abbrev with_held : Outcome Framed Sheet → List ℕ → Outcome Framed Sheet
with_held o H = record { answer = o.answer; left = sheet_of o.left.drawing H }

module _ (L : Limits) (P R : List ℕ) (rule : Rule) (s : Sheet) (work v c : ℕ) {H : List ℕ} (given : Held P s.held)
    (other : Held P H)
    (here : get_or H v 0 ≡ get_or s.held v 0) where
  abbrev t : Sheet
  t = sheet_of s.drawing H

  same_lengths : lengths_fit P t ≡ lengths_fit P s
  unfolding all_long
  same_lengths =
      let d = s.drawing in
      ap (λ (k : ℕ). eqb (length d.times) (length P) && (eqb (length d.x) (length P)
      && (eqb (length d.y) (length P) && (eqb k (length P) && true)))) (other.long ∙ sym given.long)

  same_lots : (z : ℕ) → z < length P → not (lot_fits L.place P R rule t z) ≡ not (lot_fits L.place P R rule s z)
  unfolding lot_fits
  same_lots z l =
      ap (λ b. not (node_fits L.place P R rule s.drawing z && b))
      (held_fits_lem H other z l ∙ sym (held_fits_lem s.held given z l))

  same_fault : stretch_fault L P R rule t work v ≡ stretch_fault L P R rule s work v
  unfolding stretch_fault lot_fault sheet_fault
  same_fault =
      let first = least_cong _ _ (length P) same_lots in
      λ i. ((table_fault L P R (same_lengths i) work or_else refuse (ltb (first i) (length P)) 8 (first i))
      or_else edge_fault (length P) v)
      or_else refuse (eqb (here i) 1) 22 v

  -- whatever the refusals, and the new drawing
  settled_same : (f : Option Refusal) (new : Drawing)
      → redrawn f t (sheet_of new H) ≡ with_held (redrawn f s (sheet_of new s.held)) H
  settled_same none new = refl
  settled_same (some r) new = refl

  pub lengthen_elsewhere : lengthen L P R rule t work v c ≡ with_held (lengthen L P R rule s work v c) H
  unfolding lengthen
  lengthen_elsewhere =
      let new = longer P R rule s.drawing v c in
      let own = refuse (beyond L.place (length P) new) (number L.far) v in
      ap (λ f. redrawn (f or_else own) t (sheet_of new H)) same_fault
      ∙ settled_same (stretch_fault L P R rule s work v or_else own) new

  pub shorten_elsewhere : shorten L P R rule t work v c ≡ with_held (shorten L P R rule s work v c) H
  unfolding shorten
  shorten_elsewhere =
      let new = shorter P R rule s.drawing v c in
      let own = refuse (leb (get_or s.drawing.times v 0) c) 12 v in
      ap (λ f. redrawn (f or_else own) t (sheet_of new H)) same_fault
      ∙ settled_same (stretch_fault L P R rule s work v or_else own) new

------------------------------------------------------------------------
-- Edges below one that is stretched

-- z is below v: z and its parent move by the same step across and the same step up
pub record Along (P R : List ℕ) (rule : Rule) (v c : ℕ) (s t : Drawing) (z : ℕ) : Type 0 where
  pub times : get_or t.times z 0 ≡ get_or s.times z 0
  pub x : get_or t.x z 0 ≡ get_or s.x z 0 + c * across_of (edge P R rule v)
  pub y : get_or t.y z 0 ≡ get_or s.y z 0 + c * up_of (edge P R rule v)
  pub parent_x : get_or t.x (parent P z) 0 ≡ get_or s.x (parent P z) 0 + c * across_of (edge P R rule v)
  pub parent_y : get_or t.y (parent P z) 0 ≡ get_or s.y (parent P z) 0 + c * up_of (edge P R rule v)

along : {P R : List ℕ} {rule : Rule} {v c : ℕ} {s t : Drawing} → Tree P R → Stretch P R rule v c s t → (z : ℕ)
    → z < length P → under P v z ≡ true → (z ≡ v → ⊥) → Along P R rule v c s t z
along {P} {R} {rule} {v} {c} {s} {t} tree m z l below other =
    let above = under_on tree v z l below other in
    let inside = tree.inside z l in
    record {
      times = m.other z l other;
      x = goes m.x z l below;
      y = goes m.y z l below;
      parent_x = goes m.x (parent P z) inside above;
      parent_y = goes m.y (parent P z) inside above;
    }
  where
    goes : {d : ℕ} {X Y : List ℕ} → Moved P v d X Y → (w : ℕ) → w < length P → under P v w ≡ true
        → get_or Y w 0 ≡ get_or X w 0 + d
    goes {d} k w l u = omega (arith, k.at w l, offset_in P v d w u)

module _ (L : Limits) (P R : List ℕ) (rule : Rule) (s : Sheet) (work v c : ℕ) {w h : ℕ} {t : Sheet} (z : ℕ)
    (inside : z < length P) (below : under P v z ≡ true)
    (other : z ≡ v → ⊥) where
  pub lengthen-along : lengthen L P R rule s work v c ≡ record { answer = Frame w h; left = t }
      → Along P R rule v c s.drawing t.drawing z
  lengthen-along e =
      let a = lengthen-accepted L P R rule s work v c e in
      let x = a.0.examined in
      subst (λ u. Along P R rule v c s.drawing u.drawing z) a.2
      (along x.inspected.accepting.tree (longer_stretch x.inspected.sound.drawn x.inside) z inside below
      other)

  pub shorten-along : shorten L P R rule s work v c ≡ record { answer = Frame w h; left = t }
      → Along P R rule v c t.drawing s.drawing z
  shorten-along e =
      let a = shorten-accepted L P R rule s work v c e in
      let x = a.0.examined in
      let tree = x.inspected.accepting.tree in
      let less : c ≤ get_or s.drawing.times v 0 = omega (arith, a.1) in
      subst (λ u. Along P R rule v c u.drawing s.drawing z) a.2
      (along tree (shorter_stretch tree x.above x.inside x.inspected.sound.drawn less) z inside below other)
