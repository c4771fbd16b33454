-- Calls at limits within others: a refusal is the same at both, but for a place beyond one of them.
--
--   same                  == at limits within others, calls answer and leave what they do at those
--   small_same            == so do the small cabinet's
--   lengthen_same_or_far  == and where lengthen does not, it refuses the lot with the number of the narrower limits
use Rattle.std.specs.Prelude.{Bool, true, false, List, ◌⊎◌, ◌≡◌, ℕ, ◌≤◌, ◌<◌, ltb, leb, eqb, length, get_or}
use Rattle.std.proofs.Math.Bool.{not}
use Rattle.std.proofs.Common.{inl, inr, subst, ◌∙◌, arith}
use Rattle.std.proofs.Math.Option.{Option, none, some}
use Rattle.std.proofs.Math.Path.{refl, sym, ap, ap₂, subst⁻¹}
use borrow.Author.Tests.{le-ltb, le-leb}
use Rattle.faults.specs.Numbers.{number}
use Rattle.laws.specs.Refusals.{or_else_second, refuse_yes, refuse_no, settle-none, settle_some}
use Rattle.laws.specs.Search.{Refusal, refuse, ◌or_else◌, Outcome}
use Rattle.laws.specs.SearchLaws.{least_cong}
use Rattle.laws.specs.Tests.{by_test}
use Rattle.table.specs.declared.Limits.{Limits}
use Rattle.table.specs.Table.{shape_fault, tree_fault, table_fault, large, small}
use Rattle.slopes.specs.declared.Rule.{Rule}
use Rattle.slopes.specs.declared.Slope.{Slope}
use Rattle.slopes.specs.Slopes.{across_of, up_of}
use Rattle.drawing.specs.Framed.{Framed}
use Rattle.drawing.specs.Framed.{Refused}
use Rattle.drawing.specs.Drawing.{Sheet, sheet_of, lengths_fit, fresh_sheet, frame, placed, node_fits, lot_fits}
use Rattle.drawing.specs.Drawing.{sheet_fault, redrawn, layout}
use Rattle.stretching.proofs.CallLaws.{beyond_no, no_beyond}
use Rattle.stretching.specs.Stretching.{beyond, edge_fault, lot_fault, is_held, stretch_fault, lengthen, shorten}
use Rattle.stretching.specs.Stretches.{shorter, longer}
use Rattle.holding.specs.Holding.{marked, hold}
use Rattle.small.specs.Small.{Narrower, Near, Stays, Same}

module _ {S L : Limits} (within : Narrower S L) (P R : List ℕ) (rule : Rule) (s : Sheet) (work : ℕ)
    (few : length P ≤ S.nodes) where
  -- refusals 1 to 7, and layout: there are not too many nodes
  few_enough : (M : Limits) (rest : Option Refusal) → length P ≤ M.nodes
      → refuse (ltb M.nodes (length P)) (number M.many) 0 or_else rest ≡ rest
  few_enough M rest h = or_else_second _ rest (refuse_no _ (number M.many) 0 (le-ltb M.nodes (length P) h))

  table_same : (long : Bool) → table_fault S P R long work ≡ table_fault L P R long work
  unfolding table_fault shape_fault
  table_same long =
      ap (λ f. (refuse (eqb (length P) 0) 1 0 or_else f) or_else tree_fault P R)
      (few_enough S _ few ∙ sym (few_enough L _ (omega (arith, within.nodes))))

  layout_same : layout S P R rule s work ≡ layout L P R rule s work
  unfolding layout
  layout_same = ap (λ f. redrawn f s (fresh_sheet P R rule)) (table_same (lengths_fit P s))

  -- refusals 8 to 10 and 22, and the calls that put no place further
  module _ (near : Near S.place (length P) s) where
    placed_same : (part : Slope → ℕ) (X : List ℕ) (z : ℕ) → get_or X z 0 ≤ S.place
        → placed S.place P R rule s.drawing.times part X z
        ≡ placed L.place P R rule s.drawing.times part X z
    unfolding placed
    placed_same part X z low =
        rw (le-leb (get_or X z 0) S.place low, le-leb (get_or X z 0) L.place (omega (arith, within.place))) refl

    lot_fits_same : (z : ℕ) → z < length P → lot_fits S.place P R rule s z ≡ lot_fits L.place P R rule s z
    unfolding lot_fits node_fits
    lot_fits_same z l =
        rw (placed_same across_of s.drawing.x z (near z l).0, placed_same up_of s.drawing.y z (near z l).1) refl

    sheet_same : sheet_fault S P R rule s work ≡ sheet_fault L P R rule s work
    unfolding sheet_fault
    sheet_same =
        ap₂ (λ f k. f or_else refuse (ltb k (length P)) 8 k) (table_same (lengths_fit P s))
        (least_cong _ _ (length P) (λ z l. ap not (lot_fits_same z l)))

    pub lot_same : (v : ℕ) → lot_fault S P R rule s work v ≡ lot_fault L P R rule s work v
    unfolding lot_fault
    lot_same v = ap (λ f. f or_else edge_fault (length P) v) sheet_same

    stretch_same : (v : ℕ) → stretch_fault S P R rule s work v ≡ stretch_fault L P R rule s work v
    unfolding stretch_fault
    stretch_same v = ap (λ f. f or_else refuse (is_held s v) 22 v) (lot_same v)

    hold_same : (v : ℕ) (on : Bool) → hold S P R rule s work v on ≡ hold L P R rule s work v on
    unfolding hold
    hold_same v on = ap (λ f. redrawn f s (marked s v on)) (lot_same v)

    shorten_same : (v c : ℕ) → shorten S P R rule s work v c ≡ shorten L P R rule s work v c
    unfolding shorten
    shorten_same v c =
        ap (λ f. redrawn (f or_else refuse (leb (get_or s.drawing.times v 0) c) 12 v) s
        (sheet_of (shorter P R rule s.drawing v c) s.held))
        (stretch_same v)

    -- lengthen, which may
    module _ (v c : ℕ) where
      abbrev on : Sheet
      on = sheet_of (longer P R rule s.drawing v c) s.held

      -- the outcome at the limits M, by refusals 1 to 10 and 22
      abbrev outcome : Limits → Option Refusal → Outcome Framed Sheet
      outcome M f = redrawn (f or_else refuse (beyond M.place (length P) on.drawing) (number M.far) v) s on

      -- where nothing else is refused
      far : (M : Limits) → beyond M.place (length P) on.drawing ≡ true
          → outcome M none ≡ record { answer = Refused (number M.far) v; left = s }
      far M e = settle_some Refused s (frame on.drawing) on _ (refuse_yes _ (number M.far) v e)

      close : (M : Limits) → beyond M.place (length P) on.drawing ≡ false
          → outcome M none ≡ record { answer = frame on.drawing; left = on }
      close M e = settle-none Refused s (frame on.drawing) on _ (refuse_no _ (number M.far) v e)

      outcome_same : (f : Option Refusal) → Stays S L (length P) (outcome L f) → outcome S f ≡ outcome L f
      outcome_same (some r) stays = refl
      outcome_same none stays =
          by_test (beyond L.place (length P) on.drawing)
          (λ e. absurd (stays.not_far v (ap (λ (o : Outcome Framed Sheet). o.answer) (far L e))))
          (λ e.
          let left = ap (λ (o : Outcome Framed Sheet). o.left) (close L e) in
          let low = subst (Near S.place (length P)) left stays.near in
          close S (no_beyond S.place (length P) on.drawing low) ∙ sym (close L e))

      lengthen_same : Stays S L (length P) (lengthen L P R rule s work v c)
          → lengthen S P R rule s work v c ≡ lengthen L P R rule s work v c
      unfolding lengthen
      lengthen_same stays =
          ap (outcome S) (stretch_same v) ∙ outcome_same (stretch_fault L P R rule s work v) stays

      outcome_or_far : (f : Option Refusal)
          → (outcome S f ≡ outcome L f) ⊎ (outcome S f ≡ record { answer = Refused (number S.far) v; left = s })
      outcome_or_far (some r) = inl refl
      outcome_or_far none =
          by_test (beyond S.place (length P) on.drawing) (λ e. inr (far S e))
          (λ e.
          let low = beyond_no S.place (length P) on.drawing e in
          let wide = no_beyond L.place (length P) on.drawing
          (λ z l. (omega (arith, (low z l).0, within.place), omega (arith, (low z l).1, within.place))) in
          inl (close S e ∙ sym (close L wide)))

      pub lengthen_same_or_far : (lengthen S P R rule s work v c ≡ lengthen L P R rule s work v c)
          ⊎ (lengthen S P R rule s work v c ≡ record { answer = Refused (number S.far) v; left = s })
      unfolding lengthen
      lengthen_same_or_far =
          subst⁻¹ (λ f. (outcome S f ≡ outcome L (stretch_fault L P R rule s work v))
          ⊎ (outcome S f ≡ record { answer = Refused (number S.far) v; left = s }))
          (stretch_same v) (outcome_or_far (stretch_fault L P R rule s work v))

------------------------------------------------------------------------
-- The theorem

pub same : {S L : Limits} → Narrower S L → (P R : List ℕ) (rule : Rule) (s : Sheet) (work : ℕ) → length P ≤ S.nodes
    → Same S L P R rule s work
same within P R rule s work few = record {
  layouts = layout_same within P R rule s work few;
  lengthens = lengthen_same within P R rule s work few;
  shortens = shorten_same within P R rule s work few;
  holds = hold_same within P R rule s work few;
}

pub small-within : Narrower small large
small-within = record { nodes = omega arith; place = omega arith }

pub small_same : (P R : List ℕ) (rule : Rule) (s : Sheet) (work : ℕ) → length P ≤ small.nodes
    → Same small large P R rule s work
small_same = same small-within
