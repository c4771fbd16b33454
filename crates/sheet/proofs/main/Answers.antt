-- The arrays have room.
use Rattle.std.proofs.Common.{rules}
use Rattle.sheet.proofs.Room.{ample}
use Rattle.sheet.proofs.main.Goals as goal

pub sheet_text-k-requires : goal.sheet_text-k-requires
sheet_text-k-requires c =
    ample (search rules) (search rules) (search rules) (search rules) (search rules) (search rules) (search rules)
    (search rules) (search rules) (search rules)
