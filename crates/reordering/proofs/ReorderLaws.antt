-- Lengthens in any order, proved. Accepted lengthens add their counts to the times, and times determine a sheet: so the
-- sheet at the end is told by sums, which have no order. A sheet on the way there has no larger times than the last,
-- and so no place beyond the last one's: so no order goes too far.
--
--   lengths calls z     == the sum of the counts of the calls of z
--   stretchable .. s c  == the call c is refused on the sheet s for no ground but the limit: by count 0 it is accepted
--   Grown .. s calls t  == t is a sheet, that of s with each edge longer by the sum, and the calls are stretchable
--   accepted_grown      == accepted calls leave such a sheet,
--   grown_order            which it is in any order,
--   grown_accepted         and where there is one, the calls are all accepted, and leave it
--   reordered           == after any outcome that answers its frame, lengthens may be made in any order
--   any_order           == so they may on what layout writes at any limits,
--   large-order            at the large ones,
--   small-order            and at those of the small cabinet
use Rattle.std.specs.Prelude.{Bool, false, cond, ◌&&◌, ◌≡◌, ℕ, ◌+◌, ◌*◌, ◌≤◌, ◌<◌, length, get_or}
use Rattle.std.proofs.Math.Bool.{true, Bool-set}
use mathlib.Core.List.Perm
use mathlib.Core.List.{List, [], ◌∷◌, foldr, Perm}
use Rattle.std.proofs.Math.Option.{Option, none, some}
use Rattle.std.proofs.Math.Path.{refl, sym, ap, subst}
use Rattle.std.proofs.Common.{◌∙◌, mul-le-mul_right, arith}
use Rattle.std.proofs.Math.Nat.{ℕ_set}
use Rattle.std.proofs.Math.Dec.{eqb}
use Rattle.laws.specs.Search.{Refusal, Outcome}
use Rattle.laws.specs.Tests.{both, both_is, differ}
use Rattle.table.specs.declared.Limits.{Limits}
use Rattle.table.specs.Table.{table_fault, large, small}
use Rattle.table.specs.TableLaws.{Tree}
use Rattle.slopes.specs.declared.Rule.{Rule}
use Rattle.slopes.specs.declared.Slope.{Slope}
use Rattle.slopes.specs.Slopes.{across_of, up_of, edge}
use Rattle.drawing.specs.Framed.{Framed}
use Rattle.drawing.specs.Drawing.{Drawing, Sheet, lengths_fit, fresh_sheet, frame, accepted, redrawn, layout}
use Rattle.drawing.specs.DrawingLaws.{Coordinate, Drawn, drawn_one}
use Rattle.drawing.specs.PathLaws.{adds_le}
use Rattle.drawing.specs.SheetLaws.{Sound}
use Rattle.stretching.specs.Calls.{Free}
use Rattle.stretching.proofs.CallLaws.{free_again, no_beyond, accepted-free, accepted_stretches}
use Rattle.stretching.proofs.CallLaws.{lengthen_made, lengthen_0}
use Rattle.stretching.specs.Stretching.{lengthen}
use Rattle.stretching.specs.Stretches.{longer, Moved, Stretch}
use Rattle.stretching.proofs.StretchLaws.{stretch_counts, longer_stretch, stretch_adds}
use Rattle.reordering.specs.Reordering.{Lengthening, made, all_accepted, after, Alike, AnyOrder}

------------------------------------------------------------------------
-- Sums of counts

abbrev pub add : ℕ → Lengthening → ℕ → ℕ
add z c k = cond (eqb c.node z) c.count 0 + k

abbrev pub lengths : List Lengthening → ℕ → ℕ
lengths calls z = foldr (add z) 0 calls

lengths-order : {calls others : List Lengthening} → Perm calls others → (z : ℕ) → lengths calls z ≡ lengths others z
lengths-order p z = Perm.foldr-eq ℕ_set (add z) (λ a b k. omega arith) p 0

------------------------------------------------------------------------
-- Drawings on the way to one with larger times

-- where v's edge is stretched from s to u, and t has no smaller times than u, u has no place beyond t's
stretch_within : {P R : List ℕ} {rule : Rule} {limit v c : ℕ} {s t u : Drawing} → Tree P R → 0 < v → v < length P
    → Stretch P R rule v c s u → Drawn limit P R rule s → Drawn limit P R rule t
    → ((z : ℕ) → z < length P → get_or u.times z 0 ≤ get_or t.times z 0) → (z : ℕ) → z < length P
    → (get_or u.x z 0 ≤ limit) × (get_or u.y z 0 ≤ limit)
stretch_within {P} {R} {rule} {limit} {v} {c} {s} {t} tree above inside m from to less z l =
    (within across_of m.x from.x to.x, within up_of m.y from.y to.y)
  where
    within : (part : Slope → ℕ) {X Y Z : List ℕ} → Moved P v (c * part (edge P R rule v)) X Y
        → Coordinate limit P R rule s.times part X → Coordinate limit P R rule t.times part Z → get_or Y z 0 ≤ limit
    within part w a b =
        omega (
          arith,
          adds_le tree (stretch_adds m tree above inside part w a.adds) b.adds
              (λ k p h. mul-le-mul_right (part (edge P R rule k)) (less k h)) z l,
          b.within z l,
        )

module _ (L : Limits) (P R : List ℕ) (rule : Rule) where
  ------------------------------------------------------------------------
  -- Calls that a sheet refuses for no ground but the limit

  unfoldable pub stretchable : Sheet → Lengthening → Bool
  stretchable s c = accepted (lengthen L P R rule s c.work c.node 0).answer

  abbrev pub all_stretchable : Sheet → List Lengthening → Bool
  all_stretchable s calls = foldr (λ (c : Lengthening) (b : Bool). stretchable s c && b) true calls

  and_swap : (a b c : Bool) → a && (b && c) ≡ b && (a && c)
  and_swap true b c = refl
  and_swap false true c = refl
  and_swap false false c = refl

  stretchable_order : (s : Sheet) {calls others : List Lengthening} → Perm calls others
      → all_stretchable s calls ≡ all_stretchable s others
  stretchable_order s p =
      Perm.foldr-eq Bool-set (λ (c : Lengthening) (b : Bool). stretchable s c && b)
      (λ a b k. and_swap (stretchable s a) (stretchable s b) k) p true

  stretchable_free : (s : Sheet) (c : Lengthening) → stretchable s c ≡ true → Free L P R rule s c.work c.node
  unfolding stretchable
  stretchable_free s c = accepted-free L P R rule s c.work c.node 0

  -- on another sheet with the same edges held
  free_stretchable : {s t : Sheet} (c : Lengthening) → Free L P R rule s c.work c.node
      → Sound L.place P R rule t → t.held ≡ s.held → stretchable t c ≡ true
  unfolding stretchable accepted frame
  free_stretchable {t = t} c f sound same =
      let fine = free_again f.examined sound (ap (λ (H : List ℕ). eqb (get_or H c.node 0) 1) same ∙ f.free) in
      ap (λ (o : Outcome Framed Sheet). accepted o.answer)
      (lengthen_0 L P R rule t c.work c.node ∙ ap (λ r. redrawn r t t) fine)

  ------------------------------------------------------------------------
  -- What a list of accepted lengthens leaves

  pub record Grown (s : Sheet) (calls : List Lengthening) (t : Sheet) : Type 0 where
    pub sound : Sound L.place P R rule t
    pub held : t.held ≡ s.held
    pub times : (z : ℕ) → z < length P
        → get_or t.drawing.times z 0 ≡ get_or s.drawing.times z 0 + lengths calls z
    pub possible : all_stretchable t calls ≡ true

  pub accepted_grown : (o : Outcome Framed Sheet) (calls : List Lengthening) → Sound L.place P R rule o.left
      → all_accepted L P R rule o.left calls ≡ true → Grown o.left calls (after L P R rule o calls).left
  unfolding all_accepted after made
  accepted_grown o [] sound a = record { sound = sound; held = refl; times = λ z l. omega arith; possible = refl }
  accepted_grown o (c ∷ cs) sound a =
      let s = o.left in
      let parts = both _ _ a in
      let given = accepted-free L P R rule s _ _ _ parts.0 in
      let m = accepted_stretches L P R rule s _ _ _ parts.0 in
      let rest = accepted_grown (made L P R rule s c) cs m.sound parts.1 in
      let held = rest.held ∙ m.held in
      record {
        sound = rest.sound;
        held = held;
        times = λ z l. omega (arith, stretch_counts m.stretch z l, rest.times z l);
        possible = both_is (free_stretchable c given rest.sound held) rest.possible;
      }

  pub grown_order : {s t : Sheet} {calls others : List Lengthening} → Perm calls others → Grown s calls t
      → Grown s others t
  grown_order {t = t} p g = record {
    sound = g.sound;
    held = g.held;
    times = λ z l. omega (arith, g.times z l, lengths-order p z);
    possible = sym (stretchable_order t p) ∙ g.possible;
  }

  pub grown_accepted : Tree P R → (o : Outcome Framed Sheet) (t : Sheet) (calls : List Lengthening)
      → Sound L.place P R rule o.left → Grown o.left calls t
      → (all_accepted L P R rule o.left calls ≡ true) × ((after L P R rule o calls).left ≡ t)
  unfolding all_accepted after made accepted frame
  grown_accepted tree o t [] sound g =
      let drawing = drawn_one tree sound.drawn g.sound.drawn (λ z l. omega (arith, g.times z l)) in
      let held = sym g.held in
      (refl, λ i. record { drawing = drawing i; held = held i })
  grown_accepted tree o t (c ∷ cs) sound g =
      let s = o.left in
      let parts = both _ _ g.possible in
      let last = stretchable_free t c parts.0 in
      let given = stretchable_free s c (free_stretchable c last sound (sym g.held)) in
      let x = given.examined in
      let new = longer P R rule s.drawing c.node c.count in
      let on : Stretch P R rule c.node c.count s.drawing new = longer_stretch sound.drawn x.inside in
      let fits = stretch_within tree x.above x.inside on sound.drawn g.sound.drawn
      (λ z l. omega (arith, stretch_counts on z l, g.times z l)) in
      let ok : accepted (made L P R rule s c).answer ≡ true =
      ap (λ (q : Outcome Framed Sheet). accepted q.answer)
      (lengthen_made L P R rule s _ _ _ given (no_beyond L.place (length P) new fits)) in
      let m = accepted_stretches L P R rule s _ _ _ ok in
      let rest = grown_accepted tree (made L P R rule s c) t cs m.sound
      (record {
        sound = g.sound;
        held = g.held ∙ sym m.held;
        times = λ z l. omega (arith, stretch_counts m.stretch z l, g.times z l);
        possible = parts.1;
      }) in
      (both_is ok rest.0, rest.1)

  ------------------------------------------------------------------------
  -- The theorem

  -- the last of accepted calls answers the frame of what it leaves
  after_framed : (o : Outcome Framed Sheet) (calls : List Lengthening) → o.answer ≡ frame o.left.drawing
      → all_accepted L P R rule o.left calls ≡ true
      → (after L P R rule o calls).answer ≡ frame (after L P R rule o calls).left.drawing
  unfolding all_accepted after made
  after_framed o [] framed a = framed
  after_framed o (c ∷ cs) framed a =
      let parts = both _ _ a in
      after_framed (made L P R rule o.left c) cs
      (accepted_stretches L P R rule o.left _ _ _ parts.0).answer parts.1

  pub reordered : (o : Outcome Framed Sheet) → o.answer ≡ frame o.left.drawing → (calls others : List Lengthening)
      → all_accepted L P R rule o.left calls ≡ true → Perm calls others → Alike L P R rule o calls others
  unfolding all_accepted after made
  reordered o framed [] others a p =
      subst (Alike L P R rule o []) (Perm.nil-eq p) (record { accepted = refl; same = refl; framed = framed })
  reordered o framed (c ∷ cs) others a p =
      let calls : List Lengthening = c ∷ cs in
      let given = accepted-free L P R rule o.left _ _ _ (both _ _ a).0 in
      let x = given.examined.inspected in
      let ends = grown_accepted x.accepting.tree o (after L P R rule o calls).left others x.sound
      (grown_order p (accepted_grown o calls x.sound a)) in
      let left = ends.1 in
      let told = after_framed o others framed ends.0 in
      let answer = told ∙ ap (λ (t : Sheet). frame t.drawing) left ∙ sym (after_framed o calls framed a) in
      record {
        accepted = ends.0;
        same = λ i. record { answer = answer i; left = left i };
        framed = told;
      }

-- layout answers the frame of what it writes
layout_framed : (L : Limits) (P R : List ℕ) (rule : Rule) (old : Sheet) (work : ℕ)
    → (let o = layout L P R rule old work in accepted o.answer ≡ true → o.answer ≡ frame o.left.drawing)
unfolding layout accepted
layout_framed L P R rule old work = go (table_fault L P R (lengths_fit P old) work)
  where
    go : (f : Option Refusal)
        → (let o = redrawn f old (fresh_sheet P R rule) in accepted o.answer ≡ true → o.answer
        ≡ frame o.left.drawing)
    go none a = refl
    go (some r) a = absurd (differ a refl)

pub any_order : (L : Limits) → AnyOrder L
unfolding AnyOrder
any_order L P R rule old work a =
    reordered L P R rule (layout L P R rule old work) (layout_framed L P R rule old work a)

pub large-order : AnyOrder large
large-order = any_order large

pub small-order : AnyOrder small
small-order = any_order small
