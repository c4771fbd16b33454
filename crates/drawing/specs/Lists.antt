-- The structs of lists that calls are lent, as trees and drawings.
--
--   read d               == the drawing whose lists are lent to read
--   written d            == the drawing whose lists are lent to write
--   SameLists d e        == the structs d and e hold the same lent lists, whatever these hold
--   parents t, ranks t   == the lists of a lent tree, at entry and at exit
--   sheet_read d held    == the sheet of a drawing lent to read and of held, at entry and at exit
--   sheet_written d held == that of a drawing lent to write
use Rattle.std.specs.Prelude.{◌≡◌}
use Rattle.std.specs.Borrow.{Bor, MutBor}
use denote.Triple.Both.{Both}
use Rattle.table.specs.declared.tree.Tree.{Tree}
use Rattle.drawing.specs.Drawing.{Drawing, Sheet, lent, sheet_of, Lent}
use Rattle.drawing.specs.declared.Drawing as shared
use Rattle.drawing.specs.declared.DrawingMut.{DrawingMut}

abbrev pub read : shared.Drawing → Drawing
read d = lent d.times.now d.x.now d.y.now

abbrev pub written : DrawingMut → Drawing
written d = lent d.times.now d.x.now d.y.now

abbrev pub SameLists : DrawingMut → DrawingMut → Type 0
SameLists d e =
    (e.times.ghost_name ≡ d.times.ghost_name) × (e.x.ghost_name ≡ d.x.ghost_name) × (e.y.ghost_name ≡ d.y.ghost_name)

abbrev pub parents : Both (Bor Tree) (Bor Tree) → Lent
parents t = record { entry = t.entry.now.parent.now; exit = t.exit.now.parent.now }

abbrev pub ranks : Both (Bor Tree) (Bor Tree) → Lent
ranks t = record { entry = t.entry.now.rank.now; exit = t.exit.now.rank.now }

abbrev pub sheet_read : Both (Bor shared.Drawing) (Bor shared.Drawing) → Lent → Both Sheet Sheet
sheet_read d held = record {
  entry = sheet_of (read d.entry.now) held.entry;
  exit = sheet_of (read d.exit.now) held.exit;
}

abbrev pub sheet_written : Both (MutBor DrawingMut) (MutBor DrawingMut) → Lent → Both Sheet Sheet
sheet_written d held = record {
  entry = sheet_of (written d.entry.now) held.entry;
  exit = sheet_of (written d.exit.now) held.exit;
}
