-- An accepted file is laid out under both rules, and the text is that of the two fresh sheets.
use mathlib.Core.List.{List}
use mathlib.Core.Option.{none}
use mathlib.Core.Path.{◌≡◌, refl, sym, ap, ap₂, subst, ◌∙◌}
use Prim.Native.Nat.{ℕ, ◌+◌, ◌*◌, ◌≤◌}
use native.Mathlib.Omega.{arith}
use lib.ListN.{length, length-replicate}
use Rattle.laws.specs.Refusals.{or_else_second}
use Rattle.laws.specs.SearchLaws.{length-tabulate}
use Rattle.table.specs.Acceptance.{shape_fits}
use Rattle.table.specs.Counted.{Counted}
use Rattle.table.specs.declared.Limits.{Limits}
use Rattle.table.specs.Table.{large, shape_fault, tree_fault, table_fault, printed}
use Rattle.slopes.specs.declared.Rule.{Rule}
use Rattle.slopes.specs.declared.Rule.TheVariants.{Steep, Balanced}
use Rattle.drawing.specs.Framed.{Framed}
use Rattle.laws.specs.Refusals.{settle-none}
use Rattle.laws.specs.Search.{Outcome}
use Rattle.drawing.specs.Framed as framed
use Rattle.drawing.specs.Drawing as drawing
use Rattle.drawing.specs.Drawing.{Drawing, Sheet, lengths_fit, lent, fresh, fresh_places, fresh_sheet, frame, layout}
use Rattle.drawing.specs.SheetLaws.{Long, long_fits}
use Rattle.treefile.specs.TreeFile.{stated_nodes, Read}
use Rattle.text.specs.Text.{sheet_of, Appended}
use Rattle.text.proofs.TextLaws.{appended_is}
use Rattle.text.specs.Parts.{places_of, Lines}
use Rattle.sheetfile.specs.SheetFile.{places_of_table, sheet_text, lots_in}
use Rattle.sheetfile.specs.SheetFileLaws.{Opening, opening, parents_long, ranks_long, Taken, accepted_text}

module _ {B X Y : List ℕ} (t : Taken B X Y) where
  opened : Opening B
  opened = opening B t.fault

  table_long : length X ≡ stated_nodes B
  table_long = ap length t.parents ∙ parents_long B

  -- the lists of a sheet have as many numbers as the file can hold lots
  pub fits_large : (s : Sheet) (work : ℕ) → Long (lots_in (length B)) s → work ≡ 4 * lots_in (length B)
      → table_fault large X Y (lengths_fit X s) work ≡ none
  unfolding table_fault
  fits_large s work long ew =
      let n : lots_in (length B) ≡ length X = opened.lots ∙ sym table_long in
      or_else_second (shape_fault large X Y (lengths_fit X s) work) (tree_fault X Y) (shape_fits (record {
        some = omega (arith, table_long, opened.some);
        few = omega (arith, table_long, opened.few);
        ranks = ap length t.ranks ∙ ranks_long B ∙ sym table_long;
        others = long_fits X s (subst (λ k. Long k s) n long);
        work_long = ew ∙ ap (λ (k : ℕ). 4 * k) n;
      }))
      ∙ ap₂ tree_fault t.parents t.ranks ∙ opened.tree

  pub drawn_fresh : (rule : Rule) (s : Sheet) {u : Sheet} (work : ℕ) {r : Framed}
      → record { answer = r; left = u } ≡ layout large X Y rule s work
      → Long (lots_in (length B)) s → work ≡ 4 * lots_in (length B) → u ≡ fresh_sheet X Y rule
  unfolding layout
  drawn_fresh rule s work l long ew =
      ap (λ (o : Outcome Framed Sheet). o.left)
      (l ∙ settle-none framed.Refused s (frame (fresh X Y rule)) (fresh_sheet X Y rule) _ (fits_large s work long ew))

  -- a fresh sheet has as many times and held edges as there are lots
  pub times_long : (rule : Rule) {u : Sheet} → u ≡ fresh_sheet X Y rule → length u.drawing.times ≡ lots_in (length B)
  unfolding fresh
  times_long rule e =
      ap (λ (d : Sheet). length d.drawing.times) e ∙ length-replicate (length X) 1 ∙ table_long ∙ sym opened.lots

  pub held_long : (rule : Rule) {u : Sheet} → u ≡ fresh_sheet X Y rule → length u.held ≡ lots_in (length B)
  held_long rule e =
      ap (λ (d : Sheet). length d.held) e ∙ length-replicate (length X) 0 ∙ table_long ∙ sym opened.lots

  -- the second layout is lent the times and the held edges that the first leaves
  pub both_drawn : (x y : List ℕ) {s u v : Sheet} {d : Drawing} {work again : ℕ} {r q : Framed}
      → record { answer = r; left = u } ≡ layout large X Y Steep s work
      → record { answer = q; left = v }
      ≡ layout large X Y Balanced (drawing.sheet_of (lent u.drawing.times x y) u.held) again
      → Long (lots_in (length B)) s → length x ≡ lots_in (length B) → length y ≡ lots_in (length B)
      → work ≡ 4 * lots_in (length B) → again ≡ work → d ≡ v.drawing
      → (u ≡ fresh_sheet X Y Steep) × (drawing.sheet_of d v.held ≡ fresh_sheet X Y Balanced)
  both_drawn x y {v = v} l m long ex ey ew ea ed =
      let steep = drawn_fresh Steep _ _ l long ew in
      let balanced =
      drawn_fresh Balanced _ _ m (record {
        times = times_long Steep steep;
        x = ex;
        y = ey;
        held = held_long Steep steep;
      }) (ea ∙ ew) in
      (steep, ap (λ (d : Drawing). drawing.sheet_of d v.held) ed ∙ balanced)

  x_long : (rule : Rule) → length (fresh X Y rule).x ≡ stated_nodes B
  unfolding fresh fresh_places
  x_long rule = length-tabulate (length X) _ ∙ table_long

  y_long : (rule : Rule) → length (fresh X Y rule).y ≡ stated_nodes B
  unfolding fresh fresh_places
  y_long rule = length-tabulate (length X) _ ∙ table_long

  module _ {S T x y u w G H : List ℕ} (steep : drawing.sheet_of (lent S x y) G ≡ fresh_sheet X Y Steep)
      (balanced : drawing.sheet_of (lent T u w) H ≡ fresh_sheet X Y Balanced) where
    steep_long : length x ≡ stated_nodes B
    steep_long = ap (λ (d : Sheet). length d.drawing.x) steep ∙ x_long Steep

    pub both_lines : {A : List ℕ} → 30 + 55 * lots_in (length B) ≤ length A
        → Lines (places_of x y u w) (length x) A 17
    both_lines room = record {
      steep_x = refl;
      steep_y = ap (λ (d : Sheet). length d.drawing.y) steep ∙ y_long Steep ∙ sym steep_long;
      balanced_x = ap (λ (d : Sheet). length d.drawing.x) balanced ∙ x_long Balanced ∙ sym steep_long;
      balanced_y = ap (λ (d : Sheet). length d.drawing.y) balanced ∙ y_long Balanced ∙ sym steep_long;
      few = omega (arith, steep_long, opened.few);
      room = omega (arith, room, steep_long, opened.lots);
    }

    pub both_shown : {A C : List ℕ} {r : ℕ} → Appended A C 0 r (sheet_of (places_of x y u w) (length x))
        → Appended A C 0 r (sheet_text B)
    unfolding places_of_table
    both_shown a =
        appended_is a
        ((λ i. sheet_of (places_of (steep i).drawing.x (steep i).drawing.y (balanced i).drawing.x
        (balanced i).drawing.y) (steep_long i))
        ∙ sym (accepted_text t))

-- the reader was called with the program's limits
pub at_limits : {L : Limits} (B P R W : List ℕ) {X Y Z : List ℕ} {r : Counted} → L ≡ printed → Read L B P R W X Y Z r
    → Read printed B P R W X Y Z r
at_limits B P R W {X} {Y} {Z} {r} e d = subst (λ (L : Limits). Read L B P R W X Y Z r) e d
