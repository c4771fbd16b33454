-- One answer, and why it is None.
--
-- `here` is the lot's x and `part` the across part of its slope: by c the lot comes to here + c * part.
--
--   Fills L .. column c          == v's edge is free, by c it comes to the column, and no place passes the limit then
--   brings_fills, fills_brings   == c brings v to the column exactly when it fills the gap so
--   one_bringing                 == one count at most does it
--   says_one                     == there is one answer
--   Obstacle L .. column         == the edge is held, the column is to the left, the gap is no multiple of the across
--                                   part, or some place would pass the limit
--   none_obstacle, obstacle_none == the answer is None exactly when one of these is so
--   count-within                 == a count is not above the column
--   beyond-none                  == a column beyond the limit is None
--   here_0                       == a lot with a free edge is where it stands by 0
use Rattle.std.specs.Prelude.{true, false, List, ◌≡◌, ℕ, ◌+◌, ◌-◌, ◌*◌, ◌/◌, ◌≤◌, ◌<◌, length}
use Rattle.std.proofs.Math.Option.{none}
use Rattle.std.proofs.Math.Path.{refl, ap}
use Rattle.std.proofs.Common.{sym, subst, ◌∙◌, mul-div_cancel, mul-le-mul_left, arith}
use Rattle.std.proofs.Math.ListN.{get_or}
use Rattle.laws.specs.Refusals.{settle-none, never_both, same_refusal}
use Rattle.laws.specs.Search.{Outcome}
use Rattle.laws.specs.Tests.{by_test, by_eq, by_lt, differ}
use Rattle.table.specs.Ancestry.{under_refl}
use Rattle.table.specs.declared.Limits.{Limits}
use Rattle.slopes.specs.declared.Rule.{Rule}
use Rattle.slopes.proofs.SlopeLaws.{edge_positive}
use Rattle.slopes.specs.Slopes.{across_of, edge}
use Rattle.drawing.specs.Framed.{Framed}
use Rattle.drawing.specs.Framed as framed
use Rattle.drawing.specs.Drawing.{Drawing, Sheet, frame, accepted}
use Rattle.stretching.specs.Calls.{Examined}
use Rattle.stretching.proofs.CallLaws.{examined, examined_again, free_again, beyond_no, lengthen-accepted}
use Rattle.stretching.proofs.CallLaws.{lengthen_made, lengthen_0}
use Rattle.stretching.specs.Stretching.{beyond, lot_fault, is_held, lengthen}
use Rattle.stretching.specs.Stretches.{longer}
use Rattle.stretching.proofs.StretchLaws.{offset_in, longer_stretch}
use Rattle.aligning.specs.Aligning.{Brings, Says}
use Rattle.aligning.specs.Aligned.{Aligned}
use Rattle.aligning.specs.Aligned.{Count, None, Refused}

-- what is accepted is answered by a frame
framed_of : (o : Outcome Framed Sheet) → accepted o.answer ≡ true
    → (w : ℕ) × (h : ℕ) × (o ≡ record { answer = framed.Frame w h; left = o.left })
unfolding accepted
framed_of o t = go o.answer refl t
  where
    go : (a : Framed) → o.answer ≡ a → accepted a ≡ true
        → (w : ℕ) × (h : ℕ) × (o ≡ record { answer = framed.Frame w h; left = o.left })
    go (framed.Frame w h) e t = (w, h, λ i. record { answer = e i; left = o.left })
    go (framed.Refused k z) e t = absurd (differ t refl)

module _ (L : Limits) (P R : List ℕ) (rule : Rule) (s : Sheet) (work v column : ℕ) where
  abbrev here : ℕ
  here = get_or s.drawing.x v 0

  abbrev part : ℕ
  part = across_of (edge P R rule v)

  abbrev on : ℕ → Drawing
  on c = longer P R rule s.drawing v c

  ------------------------------------------------------------------------
  -- What brings a lot to the column

  pub record Fills (c : ℕ) : Type 0 where
    pub free : is_held s v ≡ false
    pub gap : here + c * part ≡ column
    pub near : beyond L.place (length P) (on c) ≡ false

  pub brings_examined : {c : ℕ} → Brings L P R rule s work v column c → Examined L P R rule s work v
  brings_examined {c} b =
      let f = framed_of (lengthen L P R rule s work v c) b.accepted in
      (lengthen-accepted L P R rule s work v c f.2).0.examined

  moved_to : Examined L P R rule s work v → (c : ℕ) → get_or (on c).x v 0 ≡ here + c * part
  moved_to e c =
      (longer_stretch e.inspected.sound.drawn e.inside).x.at v e.inside
      ∙ ap (λ d. here + d) (offset_in P v (c * part) v (under_refl e.inspected.accepting.tree v e.inside))

  pub brings_fills : {c : ℕ} → Brings L P R rule s work v column c → Fills c
  brings_fills {c} b =
      let f = framed_of (lengthen L P R rule s work v c) b.accepted in
      let a = lengthen-accepted L P R rule s work v c f.2 in
      record {
        free = a.0.free;
        gap = sym (moved_to a.0.examined c) ∙ ap (λ (t : Sheet). get_or t.drawing.x v 0) a.2 ∙ b.there;
        near = a.1;
      }

  pub fills_brings : Examined L P R rule s work v → {c : ℕ} → Fills c → Brings L P R rule s work v column c
  unfolding frame accepted
  fills_brings e {c} f =
      let made = lengthen_made L P R rule s work v c (record { examined = e; free = f.free }) f.near in
      record {
        accepted = ap (λ (o : Outcome Framed Sheet). accepted o.answer) made;
        there = ap (λ (o : Outcome Framed Sheet). get_or o.left.drawing.x v 0) made ∙ moved_to e c ∙ f.gap;
      }

  ------------------------------------------------------------------------
  -- One answer

  pub wide : Examined L P R rule s work v → 1 ≤ part
  wide e = (edge_positive e.inspected.accepting.tree rule v e.above e.inside).0

  -- slopes go across, so two counts come to two places
  one-count : Examined L P R rule s work v → {c d : ℕ} → here + c * part ≡ column → here + d * part ≡ column → c ≡ d
  one-count e {c} {d} p q =
      let same : c * part ≡ d * part = omega arith in
      sym (mul-div_cancel c (wide e)) ∙ ap (λ n. n / part) same ∙ mul-div_cancel d (wide e)

  pub one_bringing : {c d : ℕ} → Brings L P R rule s work v column c → Brings L P R rule s work v column d → c ≡ d
  one_bringing a b = one-count (brings_examined a) (brings_fills a).gap (brings_fills b).gap

  pub unrefused : {c : ℕ} → Brings L P R rule s work v column c → lot_fault L P R rule s work v ≡ none
  unrefused b = let e = brings_examined b in examined_again e e.inspected.sound

  pub says_one : (r q : Aligned) → Says L P R rule s work v column r → Says L P R rule s work v column q → r ≡ q
  unfolding Says
  says_one (Count c) (Count d) a b = ap Count (one_bringing a b)
  says_one (Count c) None a b = absurd (b.1 c a)
  says_one (Count c) (Refused k z) a b = absurd (never_both (unrefused a) b)
  says_one None (Count d) a b = absurd (a.1 d b)
  says_one None None a b = refl
  says_one None (Refused k z) a b = absurd (never_both a.0 b)
  says_one (Refused k z) (Count d) a b = absurd (never_both (unrefused b) a)
  says_one (Refused k z) None a b = absurd (never_both b.0 a)
  says_one (Refused k z) (Refused j y) a b = same_refusal Refused a b

  ------------------------------------------------------------------------
  -- Why there is no count

  pub data Obstacle : Type 0 where
    Held : is_held s v ≡ true → Obstacle
    Left : column < here → Obstacle
    Uneven : ((c : ℕ) → ¬ (c * part ≡ column - here)) → Obstacle
    Far : (c : ℕ) → here + c * part ≡ column → beyond L.place (length P) (on c) ≡ true → Obstacle

  blocked : Examined L P R rule s work v → Obstacle → (c : ℕ) → ¬ Fills c
  blocked e (Held h) c f = differ h f.free
  blocked e (Left h) c f = omega (arith, f.gap)
  blocked e (Uneven h) c f = h c (omega (arith, f.gap))
  blocked e (Far d g h) c f =
      differ h (subst (λ n. beyond L.place (length P) (on n) ≡ false) (one-count e f.gap g) f.near)

  pub obstacle_none : lot_fault L P R rule s work v ≡ none → Obstacle → Says L P R rule s work v column None
  unfolding Says
  obstacle_none fine o =
      (fine, λ c b. blocked (examined L P R rule s work v fine) o c (brings_fills b))

  -- where division leaves something of the gap, no count fills it
  pub left_over : Examined L P R rule s work v → ¬ ((column - here) / part * part ≡ column - here) → Obstacle
  left_over e uneven =
      Uneven (λ c is. uneven
      (ap (λ n. n / part * part) (sym is) ∙ ap (λ n. n * part) (mul-div_cancel c (wide e)) ∙ is))

  pub none_obstacle : Says L P R rule s work v column None → Obstacle
  unfolding Says
  none_obstacle a =
      let e = examined L P R rule s work v a.0 in
      let c = (column - here) / part in
      by_test (is_held s v) (λ h. Held h)
      (λ free. by_lt column here (λ l. Left l)
      (λ right. by_eq (c * part) (column - here)
      (λ is. by_test (beyond L.place (length P) (on c)) (λ h. Far c (omega arith) h)
      (λ near. absurd (a.1 c (fills_brings e (record { free = free; gap = omega arith; near = near })))))
      (λ uneven. left_over e uneven)))

  ------------------------------------------------------------------------
  -- Columns

  pub count-within : {c : ℕ} → Brings L P R rule s work v column c → c ≤ column
  count-within {c} b =
      let w : 1 ≤ part = wide (brings_examined b) in
      omega (arith, mul-le-mul_left c w, (brings_fills b).gap)

  pub beyond-none : lot_fault L P R rule s work v ≡ none → L.place < column → Says L P R rule s work v column None
  unfolding Says
  beyond-none fine h = (
    fine,
    λ c b.
        let e = examined L P R rule s work v fine in
        let f = brings_fills b in
        omega (arith, (beyond_no L.place (length P) (on c) f.near v e.inside).0, moved_to e c, f.gap),
  )

-- where it stands, count 0
pub here_0 : (L : Limits) (P R : List ℕ) (rule : Rule) (s : Sheet) (work v : ℕ) → lot_fault L P R rule s work v ≡ none
    → is_held s v ≡ false → Says L P R rule s work v (get_or s.drawing.x v 0) (Count 0)
unfolding Says frame accepted
here_0 L P R rule s work v fine free =
    let e = examined L P R rule s work v fine in
    let made : lengthen L P R rule s work v 0 ≡ record { answer = frame s.drawing; left = s } =
    lengthen_0 L P R rule s work v ∙ settle-none framed.Refused s _ s _ (free_again e e.inspected.sound free) in
    record {
      accepted = ap (λ (o : Outcome Framed Sheet). accepted o.answer) made;
      there = ap (λ (o : Outcome Framed Sheet). get_or o.left.drawing.x v 0) made;
    }
