-- Stretching an edge: the limit's test, what the moves write, and the outcomes of lengthen and shorten.
use mathlib.Core.Bool.{Bool, true, false}
use mathlib.Core.List.{List}
use mathlib.Core.Option.{none}
use mathlib.Core.Path.{◌≡◌, refl, sym, ap, subst⁻¹, ◌∙◌}
use Prim.Native.Nat.{ℕ, ◌+◌, ◌*◌, ◌^◌, ◌≤◌, ◌<◌}
use native.Mathlib.Omega.{arith}
use lib.ListN.{length, get_or, set}
use borrow.Author.Tests.{le-leb, lt-leb}
use Rattle.faults.specs.Numbers.{number}
use Rattle.laws.specs.Refusals.{or_else_first, or_else_second, refuse_yes, refuse_no, settle-none, settle_some}
use Rattle.laws.specs.Tests.{by_test, differ}
use Rattle.table.specs.Acceptance.{validity, validity-accepted, validity_refused}
use Rattle.table.specs.declared.Limits.{Limits}
use Rattle.table.specs.Validity.{Validity}
use Rattle.table.specs.Validity.{Accepted, Refused}
use Rattle.table.specs.Parts.{no_fault, fault}
use Rattle.table.specs.Table.{under}
use Rattle.slopes.specs.declared.Rule.{Rule}
use Rattle.slopes.specs.declared.Slope.{Slope}
use Rattle.slopes.specs.Slopes.{across_of, up_of, edge}
use Rattle.drawing.specs.CallLaws.{inspected_again}
use Rattle.drawing.specs.Framed.{Framed}
use Rattle.drawing.specs.Framed as framed
use Rattle.drawing.specs.Drawing.{Drawing, lent, Sheet, sheet_of, frame, OnSheet}
use Rattle.drawing.specs.DrawingLaws.{Coordinate, Drawn, drawn_times, same_drawing}
use Rattle.drawing.specs.Parts.{FramesFit}
use Rattle.inspecting.specs.Parts.{Inspecting}
use Rattle.stretching.specs.Calls.{Examined}
use Rattle.stretching.proofs.CallLaws.{free, beyond_x, beyond_y, no_beyond, longer_drawn, shorter_drawn}
use Rattle.stretching.proofs.CallLaws.{lengthen_made}
use Rattle.stretching.specs.Parts.{by, free_fault, Passes, Movable, Stretchable, Opened, framing}
use Rattle.stretching.specs.Parts.{Unheld}
use Rattle.stretching.specs.Stretching.{moved, stretched, beyond, lot_fault, stretch_fault, lengthen, shorten}
use Rattle.stretching.specs.Stretches.{shorter, longer, Moved}
use Rattle.stretching.proofs.StretchLaws.{offset_in, moved_in, moved_out}
use Rattle.stretching.proofs.StretchLaws.{longer_stretch, back_room}
use Rattle.stretching.proofs.Examining.{on_sheet_lem}

------------------------------------------------------------------------
-- The limit

module _ (limit : ℕ) (P R : List ℕ) (rule : Rule) (s : Drawing) (v c : ℕ) {slope : Slope}
    (is : slope ≡ edge P R rule v) where
  -- a place of the subtree, moved on
  reached : (part : Slope → ℕ) {d : ℕ} → d ≡ c * part slope → (X : List ℕ) (z : ℕ) → z < length P → under P v z ≡ true
      → get_or (moved P (λ a. a + c * part (edge P R rule v)) v X) z 0 ≡ get_or X z 0 + d
  reached part far X z l u =
      moved_in P (λ a. a + c * part (edge P R rule v)) v X z l u
      ∙ ap (λ k. get_or X z 0 + k) (ap (λ k. c * part k) (sym is) ∙ sym far)

  pub too_far_x : {r : Bool} {d : ℕ} → d ≡ c * slope.across → Passes limit P s.x v d r → r ≡ true
      → true ≡ beyond limit (length P) (longer P R rule s v c)
  unfolding stretched
  too_far_x far p e =
      let z = p.yes e in
      sym (beyond_x limit (length P) (longer P R rule s v c) z.0 z.1
      (omega (arith, z.3, reached across_of far s.x z.0 z.1 z.2)))

  too_far_y : {r : Bool} {d : ℕ} → d ≡ c * slope.up → Passes limit P s.y v d r → r ≡ true
      → true ≡ beyond limit (length P) (longer P R rule s v c)
  unfolding stretched
  too_far_y far p e =
      let z = p.yes e in
      sym (beyond_y limit (length P) (longer P R rule s v c) z.0 z.1
      (omega (arith, z.3, reached up_of far s.y z.0 z.1 z.2)))

  -- what is not moved was within the limit
  near : {times : List ℕ} (part : Slope → ℕ) {X : List ℕ} {r : Bool} {d : ℕ} → d ≡ c * part slope
      → Coordinate limit P R rule times part X → Passes limit P X v d r → r ≡ false → (z : ℕ) → z < length P
      → get_or (moved P (λ a. a + c * part (edge P R rule v)) v X) z 0 ≤ limit
  near part {X} far k p e z l =
      by_test (under P v z) (λ u. omega (arith, p.no e z l u, reached part far X z l u))
      (λ u. omega (arith, moved_out P (λ a. a + c * part (edge P R rule v)) v X z l u, k.within z l))

  pub too_far_else : {r q : Bool} {d h : ℕ} → Drawn limit P R rule s → d ≡ c * slope.across
      → Passes limit P s.x v d r → r ≡ false → h ≡ c * slope.up → Passes limit P s.y v h q
      → q ≡ beyond limit (length P) (longer P R rule s v c)
  unfolding stretched
  too_far_else {q = q} drawn across p e up w =
      by_test q (λ t. t ∙ too_far_y up w t)
      (λ f. f ∙ sym (no_beyond limit (length P) (longer P R rule s v c)
      (λ z l. (near across_of across drawn.x p e z l, near up_of up drawn.y w f z l))))

------------------------------------------------------------------------
-- What is written

pub movable_at : {P X : List ℕ} {v d : ℕ} {longer : Bool} {slope here : Slope} (part : Slope → ℕ) (c : ℕ)
    → d ≡ c * part slope → slope ≡ here → Movable P X v (c * part here) longer → Movable P X v d longer
movable_at {P} {X} {v} {longer = longer} part c far is =
    subst⁻¹ (λ k. Movable P X v k longer) (far ∙ ap (λ k. c * part k) is)

-- on, where the moved places are within a limit of 32 bits; back, where there is as much
movable_on : {P X Y : List ℕ} {v d limit : ℕ} → Moved P v d X Y → limit < 2 ^ 32
    → ((z : ℕ) → z < length P → get_or Y z 0 ≤ limit) → Movable P X v d true
movable_on {P} {v = v} {d} m low fits = record {
  long = m.from_long;
  on = λ t z l u. omega (arith, m.at z l, offset_in P v d z u, fits z l);
  back = λ t. absurd (differ refl t);
}

movable_back : {P X : List ℕ} {v d : ℕ} → length X ≡ length P
    → ((z : ℕ) → z < length P → under P v z ≡ true → d ≤ get_or X z 0) → Movable P X v d false
movable_back long room = record { long = long; on = λ t. absurd (differ t refl); back = λ t. room }

pub stretched_is : {P R : List ℕ} {rule : Rule} {s : Drawing} {W : List ℕ} {v c : ℕ} {longer : Bool} {slope : Slope}
    {t k d h : ℕ} {T X Y : List ℕ} → Stretchable P R rule s W v c longer
    → slope ≡ edge P R rule v → d ≡ c * slope.across → h ≡ c * slope.up
    → t ≡ get_or s.times v 0 → k ≡ by longer t c → T ≡ set s.times v k
    → X ≡ moved P (λ a. by longer a d) v s.x → Y ≡ moved P (λ a. by longer a h) v s.y
    → lent T X Y ≡ stretched (by longer) P R rule s v c
unfolding stretched
stretched_is {P} {s = s} {v = v} {c} {longer} x is across up et ek p q r =
    same_drawing (p ∙ ap (set s.times v) (ek ∙ ap (λ a. by longer a c) et))
    (q ∙ ap (λ k. moved P (λ a. by longer a k) v s.x) (across ∙ ap (λ (k : Slope). c * k.across) is))
    (r ∙ ap (λ k. moved P (λ a. by longer a k) v s.y) (up ∙ ap (λ (k : Slope). c * k.up) is))

------------------------------------------------------------------------
-- Lengthen

-- of a sheet that is accepted
module _ {L : Limits} {P R : List ℕ} (rule : Rule) {s : Sheet} {W : List ℕ} (o : Opened L P R rule s W) (v : ℕ)
    {r : Validity} (is : r ≡ validity (free_fault s.held v)) where
  past_8 : stretch_fault L P R rule s (length W) v ≡ free_fault s.held v
  past_8 =
      on_sheet_lem L P R rule s (length W) v (inspected_again o.inspected o.inspected.sound)
      o.inspected.sound.held.long

  unrefused : r ≡ Accepted → stretch_fault L P R rule s (length W) v ≡ none
  unrefused ok = past_8 ∙ validity-accepted _ (sym is ∙ ok)

  pub examined_of : r ≡ Accepted → Examined L P R rule s (length W) v
  examined_of ok = (free L P R rule s (length W) v (unrefused ok)).examined

  module _ (c : ℕ) where
    abbrev on : Drawing
    on = longer P R rule s.drawing v c

    abbrev Lengthened : Drawing → Validity → Type 0
    Lengthened t a = framing a (sheet_of t s.held) ≡ lengthen L P R rule s (length W) v c

    pub lengthened_refused : {k z : ℕ} → r ≡ Refused k z → Lengthened s.drawing (Refused k z)
    unfolding lengthen framing
    lengthened_refused {k} {z} e =
        sym (settle_some framed.Refused s (frame on) (sheet_of on s.held) _
        (or_else_first _ _ (past_8 ∙ validity_refused _ k z (sym is ∙ e))))

    module _ (ok : r ≡ Accepted) {q : Bool} (far : q ≡ beyond L.place (length P) on) where
      pub lengthened_beyond : q ≡ true → Lengthened s.drawing (Refused (number L.far) v)
      unfolding lengthen framing
      lengthened_beyond t =
          sym (settle_some framed.Refused s (frame on) (sheet_of on s.held) _
          (or_else_second _ _ (unrefused ok) ∙ refuse_yes _ (number L.far) v (sym far ∙ t)))

      module _ (f : q ≡ false) where
        pub lengthened : {t : Drawing} → t ≡ on → Lengthened t Accepted
        unfolding framing
        lengthened new =
            ap (λ (u : Drawing). framing Accepted (sheet_of u s.held)) new
            ∙ sym (lengthen_made L P R rule s (length W) v c (free L P R rule s (length W) v (unrefused ok))
            (sym far ∙ f))

        -- within the limit, the longer drawing has times and places that fit
        pub can_lengthen : FramesFit L → Stretchable P R rule s.drawing W v c true
        unfolding stretched
        can_lengthen low =
            let x = examined_of ok in
            let m = longer_stretch {c = c} x.inspected.sound.drawn x.inside in
            let d = longer_drawn L P R rule s (length W) v c x (sym far ∙ f) in
            record {
              numbered = o.numbered;
              above = x.above;
              inside = x.inside;
              long = x.inspected.sound.drawn.long;
              more = λ t. omega (
                arith,
                drawn_times x.inspected.accepting.tree d v x.above x.inside,
                m.here,
              );
              less = λ t. absurd (differ refl t);
              x = movable_on m.x (omega arith) d.x.within;
              y = movable_on m.y (omega arith) d.y.within;
            }

-- once the sheet is tested
module _ {L : Limits} {P R : List ℕ} (rule : Rule) {s : Sheet} {W : List ℕ} {X : List ℕ} {r : Validity}
    (p : Inspecting L P R rule s W X r) (v c : ℕ) where
  pub sheet_refused : {k z : ℕ} → r ≡ Refused k z
      → OnSheet L P R s W s X (framed.Refused k z) (lengthen L P R rule s (length W) v c)
  unfolding lengthen stretch_fault lot_fault
  sheet_refused e = record {
    says = sym (settle_some framed.Refused s _ _ _
        (or_else_first _ _ (or_else_first _ _ (or_else_first _ _ (fault p e)))));
    spared = p.spared;
    long = p.long;
  }

  module _ (a : Validity) (t : Sheet) (did : framing a t ≡ lengthen L P R rule s (length X) v c) where
    did_here : framing a t ≡ lengthen L P R rule s (length W) v c
    did_here = did ∙ ap (λ n. lengthen L P R rule s n v c) p.long

    pub edge_refused : {k z : ℕ} → a ≡ Refused k z
        → OnSheet L P R s W t X (framed.Refused k z) (lengthen L P R rule s (length W) v c)
    unfolding framing
    edge_refused e = record {
      says = ap (λ b. framing b t) (sym e) ∙ did_here;
      spared = p.spared;
      long = p.long;
    }

    pub edge-longer : {q : Framed} → a ≡ Accepted → q ≡ frame t.drawing
        → OnSheet L P R s W t X q (lengthen L P R rule s (length W) v c)
    unfolding framing
    edge-longer e fr = record {
      says = ap (λ (q : Framed). record { answer = q; left = t }) fr ∙ ap (λ b. framing b t) (sym e) ∙ did_here;
      spared = p.spared;
      long = p.long;
    }

------------------------------------------------------------------------
-- Shorten

module _ {L : Limits} {P R : List ℕ} (rule : Rule) {s : Sheet} {W : List ℕ} (v : ℕ) {X : List ℕ} {r : Validity}
    (k : Unheld L P R rule s W v X r) where
  pub free_of : r ≡ Accepted → Examined L P R rule s (length W) v
  free_of ok = (free L P R rule s (length W) v (no_fault k ok)).examined

  module _ (c : ℕ) where
    abbrev back : Drawing
    back = shorter P R rule s.drawing v c

    abbrev Shortened : Drawing → Framed → Type 0
    Shortened t a = OnSheet L P R s W (sheet_of t s.held) X a (shorten L P R rule s (length W) v c)

    pub shortened_refused : {a z : ℕ} → r ≡ Refused a z → Shortened s.drawing (framed.Refused a z)
    unfolding shorten
    shortened_refused e = record {
      says = sym (settle_some framed.Refused s (frame back) (sheet_of back s.held) _ (or_else_first _ _ (fault k e)));
      spared = k.spared;
      long = k.long;
    }

    module _ (ok : r ≡ Accepted) where
      module _ {n : ℕ} (is : n ≡ get_or s.drawing.times v 0) where
        pub shortened_12 : n ≤ c → Shortened s.drawing (framed.Refused 12 v)
        unfolding shorten
        shortened_12 h = record {
          says = sym (settle_some framed.Refused s (frame back) (sheet_of back s.held) _
              (or_else_second _ _ (no_fault k ok)
              ∙ refuse_yes _ 12 v (le-leb (get_or s.drawing.times v 0) c (omega arith))));
          spared = k.spared;
          long = k.long;
        }

        module _ (h : c < n) where
          pub shortened : {t : Drawing} {a : Framed} → t ≡ back → a ≡ frame t → Shortened t a
          unfolding shorten
          shortened {t} new fr = record {
            says = ap (λ (a : Framed). record { answer = a; left = sheet_of t s.held }) fr
                ∙ ap (λ (u : Drawing). record { answer = frame u; left = sheet_of u s.held }) new
                ∙ sym (settle-none framed.Refused s (frame back) (sheet_of back s.held) _
                (or_else_second _ _ (no_fault k ok)
                ∙ refuse_no _ 12 v (lt-leb (get_or s.drawing.times v 0) c (omega arith))));
            spared = k.spared;
            long = k.long;
          }

          -- the new drawing is one, within the limits
          pub new_shorter : Drawn L.place P R rule back
          new_shorter = shorter_drawn L P R rule s (length W) v c (free_of ok) (omega arith)

          pub can_shorten : Stretchable P R rule s.drawing X v c false
          can_shorten =
              let x = free_of ok in
              let less : c ≤ get_or s.drawing.times v 0 = omega arith in
              record {
                numbered = (k.left ok).sized.numbered;
                above = x.above;
                inside = x.inside;
                long = x.inspected.sound.drawn.long;
                more = λ t. absurd (differ t refl);
                less = λ t. less;
                x = movable_back x.inspected.sound.drawn.x.long
                    (back_room x.inspected.accepting.tree x.above x.inside x.inspected.sound.drawn.x
                    less);
                y = movable_back x.inspected.sound.drawn.y.long
                    (back_room x.inspected.accepting.tree x.above x.inside x.inspected.sound.drawn.y
                    less);
              }
