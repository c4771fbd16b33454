-- Layout's outcome from what its parts say.
use mathlib.Core.Bool.{Bool}
use mathlib.Core.List.{List}
use mathlib.Core.Path.{◌≡◌, sym, ap, subst, ◌∙◌}
use Prim.Native.Nat.{ℕ, ◌<◌}
use native.Mathlib.Omega.{arith}
use lib.ListN.{length, replicate, length-replicate, get_or-replicate}
use lib.Seq.{ext_get_or}
use Rattle.laws.specs.Refusals.{settle-none, settle_some}
use Rattle.laws.specs.Regions.{Only}
use Rattle.table.specs.Acceptance.{accepting}
use Rattle.table.specs.declared.Limits.{Limits}
use Rattle.table.specs.Validity.{Validity}
use Rattle.table.specs.Validity.{Accepted, Refused}
use Rattle.table.specs.Parts.{Zeroed, Tested, fault, no_fault}
use Rattle.table.specs.Parts as table
use Rattle.table.specs.Table.{table_fault}
use Rattle.slopes.specs.declared.Rule.{Rule}
use Rattle.drawing.specs.Framed.{Framed}
use Rattle.drawing.specs.Framed as framed
use Rattle.drawing.specs.CallLaws.{fresh-within}
use Rattle.drawing.specs.Drawing.{Drawing, Sheet, sheet_of, lengths_fit, fresh, fresh_sheet, frame, layout, OnSheet}
use Rattle.drawing.specs.FreshLaws.{Roomy}
use Rattle.drawing.specs.Parts.{Framable, FramesFit, SizedSheet, Prepared, Blank, framable}
use Rattle.drawing.specs.SheetLaws.{fits_long}

-- a list that is zeroed as a whole
pub freed : {H X : List ℕ} → Zeroed 0 (length H) X → Only 0 (length H) H X → X ≡ replicate (length H) 0
freed {H} {X} z kept =
    ext_get_or 0 X (replicate (length H) 0) (kept.long ∙ sym (length-replicate (length H) 0))
    (λ i l.
    let inside : i < length H = omega (arith, kept.long) in
    z.at i (omega arith) inside ∙ sym (get_or-replicate (length H) i 0 0 inside))

-- a table's refusals, and its numbers, as those of a call on a sheet
pub prepared : (P : List ℕ) (s : Sheet) {L : Limits} {R W X : List ℕ} {long : Bool} {r : Validity}
    → long ≡ lengths_fit P s → table.Prepared L P R long W X r → Prepared L P R s W X r
prepared P s {L} {R} {W} {X} {long} {r} is p =
    subst (λ b. Tested L P R b W X (table_fault L P R b (length W)) (SizedSheet P R s X) r) is
    (record {
      answer = p.answer;
      spared = p.spared;
      long = p.long;
      left = λ e.
          let all = (accepting L P R long (length W) (no_fault p e)).shape.others in
          let l = fits_long P s (sym is ∙ all) in
          record {
            sized = record { numbered = p.left e; times = l.times; x = l.x; y = l.y };
            held = l.held;
          };
    })

-- of the drawing in the same lists, read another way
pub prepared_as : {L : Limits} {P R : List ℕ} {d e : Drawing} {H W X : List ℕ} {r : Validity} → d ≡ e
    → Prepared L P R (sheet_of d H) W X r → Prepared L P R (sheet_of e H) W X r
prepared_as {L} {P} {R} {H = H} {W} {X} {r} is p = subst (λ (d : Drawing). Prepared L P R (sheet_of d H) W X r) is p

module _ {L : Limits} {P R : List ℕ} {s : Sheet} {W X : List ℕ} {r : Validity} (p : Prepared L P R s W X r) where
  pub blank : {rule : Rule} → Roomy L → FramesFit L → r ≡ Accepted → Blank P R rule s.drawing X
  blank {rule} room low e =
      let few = (accepting L P R _ (length W) (no_fault p e)).shape.few in
      record {
        sized = (p.left e).sized;
        wide = omega (arith, room.across rule (length P) few);
        tall = omega (arith, room.up rule (length P) few);
      }

  pub fresh_framable : (rule : Rule) {t : Drawing} → Roomy L → FramesFit L → r ≡ Accepted
      → t ≡ fresh P R rule → Framable t.x t.y
  fresh_framable rule room low e =
      framable low (fresh-within room (accepting L P R _ (length W) (no_fault p e)) rule).drawn

  pub laid_refused : (rule : Rule) {k z : ℕ} → r ≡ Refused k z
      → OnSheet L P R s W s X (framed.Refused k z) (layout L P R rule s (length W))
  unfolding layout
  laid_refused rule e =
      let new = fresh_sheet P R rule in
      record {
        says = sym (settle_some framed.Refused s (frame new.drawing) new _ (fault p e));
        spared = p.spared;
        long = p.long;
      }

  pub laid_fresh : (rule : Rule) {t : Drawing} {H : List ℕ} {q : Framed} → r ≡ Accepted → t ≡ fresh P R rule
      → H ≡ replicate (length s.held) 0 → q ≡ frame t
      → OnSheet L P R s W (sheet_of t H) X q (layout L P R rule s (length W))
  unfolding layout
  laid_fresh rule {t} {H} {q} e is free fr =
      let new = fresh_sheet P R rule in
      let none : H ≡ replicate (length P) 0 = free ∙ ap (λ n. replicate n 0) (p.left e).held in
      record {
        says = (λ i. record { answer = fr i; left = sheet_of t H })
            ∙ (λ i. record { answer = frame (is i); left = sheet_of (is i) (none i) })
            ∙ sym (settle-none framed.Refused s (frame new.drawing) new _ (no_fault p e));
        spared = p.spared;
        long = p.long;
      }
