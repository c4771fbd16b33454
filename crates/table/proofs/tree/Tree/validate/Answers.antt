-- Refusals 1 to 3, then 4 to 7.
use Rattle.std.proofs.Common.{refl, arith}
use Rattle.std.proofs.lemmas.Result.{err_from_is_err_and}
use Rattle.table.proofs.Validation.{validated_lengths, lengths_of, validated_tree}
use Rattle.table.proofs.tree.Tree.validate.Goals as goal

pub returns-in_err-test_lengths : goal.returns-in_err-test_lengths
returns-in_err-test_lengths c =
    let p = err_from_is_err_and c.from_residual.result c.from_residual.ensures.1 in
    rw (p.1, p.2) (validated_lengths _ _ _ _ _ c.in_err-test_lengths.ensures refl)

pub test_tree-requires : goal.test_tree-requires
test_tree-requires c = lengths_of _ _ _ _ _ c.in_ok-test_lengths.ensures refl (omega arith)

pub returns : goal.returns
returns c = validated_tree _ _ _ _ _ c.in_ok-test_lengths.ensures refl c.test_tree.ensures
