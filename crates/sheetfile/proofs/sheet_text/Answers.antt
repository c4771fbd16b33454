-- The lists are cut to the lots that the file can hold. A refusal is printed; an accepted table is laid out under both
-- rules.
use mathlib.Core.Path.{refl, sym, ◌∙◌}
use Rattle.text.proofs.TextLaws.{appended_is}
use Rattle.sheetfile.specs.SheetFileLaws.{refused_text, taken}
use Rattle.sheetfile.proofs.Cutting.{cut_long, cut_work}
use Rattle.sheetfile.proofs.Showing.{both_drawn, both_lines, both_shown, at_limits}
use Rattle.sheetfile.proofs.sheet_text.Goals as goal

pub returns-in-Err : goal.returns-in-Err
returns-in-Err c =
    let n = c.lots_in-n.ensures in
    appended_is (rw c.number.ensures at c.put_refusal.ensures)
    (sym (refused_text _ _ _ _ (at_limits _ _ _ _ c.printed_limits-limits.ensures c.in-Err.ensures)
    (cut_long _ n c.requires.parent) (cut_long _ n c.requires.rank) (cut_work _ n c.requires.work) refl))

pub put_sheet-requires : goal.put_sheet-requires
put_sheet-requires c =
    let n = c.lots_in-n.ensures in
    let table =
    taken _ _ _ _ (at_limits _ _ _ _ c.printed_limits-limits.ensures c.in_default.ensures)
    (cut_long _ n c.requires.parent) (cut_long _ n c.requires.rank) (cut_work _ n c.requires.work) refl in
    let drawn =
    both_drawn table _ _ c.layout.ensures.does.says c.layout-2.ensures.does.says (record {
      times = cut_long _ n c.requires.times;
      x = cut_long _ n c.requires.steep_x;
      y = cut_long _ n c.requires.steep_y;
      held = cut_long _ n c.requires.held;
    }) (cut_long _ n c.requires.balanced_x) (cut_long _ n c.requires.balanced_y)
    (c.read_tree.ensures.long ∙ cut_work _ n c.requires.work) c.layout.ensures.does.long
    c.read-balanced.ensures in
    both_lines table drawn.0 drawn.1 c.requires.long

pub returns : goal.returns
returns c =
    let n = c.lots_in-n.ensures in
    let table =
    taken _ _ _ _ (at_limits _ _ _ _ c.printed_limits-limits.ensures c.in_default.ensures)
    (cut_long _ n c.requires.parent) (cut_long _ n c.requires.rank) (cut_work _ n c.requires.work) refl in
    let drawn =
    both_drawn table _ _ c.layout.ensures.does.says c.layout-2.ensures.does.says (record {
      times = cut_long _ n c.requires.times;
      x = cut_long _ n c.requires.steep_x;
      y = cut_long _ n c.requires.steep_y;
      held = cut_long _ n c.requires.held;
    }) (cut_long _ n c.requires.balanced_x) (cut_long _ n c.requires.balanced_y)
    (c.read_tree.ensures.long ∙ cut_work _ n c.requires.work) c.layout.ensures.does.long
    c.read-balanced.ensures in
    both_shown table drawn.0 drawn.1 c.put_sheet.ensures
