-- The refusals with place 0, then the lengthens.
use Rattle.std.proofs.Common.{refl}
use Rattle.std.proofs.lemmas.Result.{err_from_is_err_and}
use Rattle.arranging.proofs.Listing.{listed_as, each_refused, each_made}
use Rattle.arranging.proofs.lengthen_each_within.Goals as goal

pub returns-in_err-inspect_lists : goal.returns-in_err-inspect_lists
returns-in_err-inspect_lists c =
    let p = err_from_is_err_and c.from_residual.result c.from_residual.ensures.1 in
    record {
      arranges = rw (p.1, p.2) (each_refused _ _ (listed_as _ c.read.ensures _ _ c.in_err-inspect_lists.ensures) refl);
      lists = (refl, refl, refl);
    }

pub lengthen_in_turn-requires : goal.lengthen_in_turn-requires
lengthen_in_turn-requires c =
    let listed = listed_as _ c.read.ensures _ _ c.in_ok-inspect_lists.ensures in
    (c.requires, listed.opened refl, listed.same refl)

pub returns : goal.returns
returns c = record {
  arranges = each_made _ _ (listed_as _ c.read.ensures _ _ c.in_ok-inspect_lists.ensures) refl
      c.lengthen_in_turn.ensures.turns;
  lists = c.lengthen_in_turn.ensures.lists;
}
