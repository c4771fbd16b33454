-- The old contents are kept in the half of the work list that `validate` leaves alone.
use Rattle.std.proofs.Common.{refl}
use Rattle.treefile.proofs.Loading.{parents_room, ranks_room, loaded-accepted, loaded_refused}
use Rattle.treefile.proofs.load.Goals as goal

pub copy_out-requires : goal.copy_out-requires
copy_out-requires c =
    parents_room c.requires c.save.ensures c.save-2.ensures c.decode.ensures c.decode-2.ensures c.in-Err.ensures

pub copy_out-requires-in-Err : goal.copy_out-requires-in-Err
copy_out-requires-in-Err c =
    ranks_room c.requires c.save.ensures c.save-2.ensures c.decode.ensures c.decode-2.ensures c.in-Err.ensures

pub returns-in-Err : goal.returns-in-Err
returns-in-Err c =
    loaded_refused c.requires c.save.ensures c.save-2.ensures c.decode.ensures c.decode-2.ensures c.in-Err.ensures
    c.copy_out.ensures c.copy_out-in-Err.ensures refl

pub returns : goal.returns
returns c =
    loaded-accepted c.requires c.save.ensures c.save-2.ensures c.decode.ensures c.decode-2.ensures
    c.in_default.ensures refl
