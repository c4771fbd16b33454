-- Lists of one length leave refusals 1 to 8; others 1 to 3, and 19.
use Rattle.std.proofs.Common.{refl}
use Rattle.std.proofs.lemmas.Result.{err_from_is_err_and}
use Rattle.arranging.proofs.Listing.{listed_same, listed_lengths, listed_19}
use Rattle.arranging.proofs.inspect_lists.Goals as goal

pub returns-then-lots-counts : goal.returns-then-lots-counts
returns-then-lots-counts c = listed_same _ _ _ _ _ _ _ _ c.if-lots-counts.true c.inspect.ensures

pub returns-in_err-test_lengths : goal.returns-in_err-test_lengths
returns-in_err-test_lengths c =
    let p = err_from_is_err_and c.from_residual.result c.from_residual.ensures.1 in
    rw (p.1, p.2) (listed_lengths _ _ _ _ _ _ _ _ c.if-lots-counts.false c.all_long-long.ensures
    c.in_err-test_lengths.ensures refl)

pub returns : goal.returns
returns c =
    rw c.at.ensures (listed_19 _ _ _ _ _ _ _ _ c.if-lots-counts.false c.all_long-long.ensures
    c.in_ok-test_lengths.ensures refl)
