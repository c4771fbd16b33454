-- An accepted table's file, number by number.
use Rattle.std.proofs.Common.{refl, arith}
use Rattle.std.proofs.lemmas.Result.{err_from_is_err_and}
use Rattle.treefile.proofs.Encoding.{accepted, wrote_refused, wrote_17, wrote_file, file_written}
use Rattle.treefile.proofs.write_tree.Goals as goal

pub returns-in_err-validate : goal.returns-in_err-validate
returns-in_err-validate c =
    let p = err_from_is_err_and c.from_residual.result c.from_residual.ensures.1 in
    rw (p.1, p.2) (wrote_refused c.in_err-validate.ensures _ refl)

pub returns-then-bytes-n : goal.returns-then-bytes-n
returns-then-bytes-n c = rw c.at.ensures (wrote_17 c.in_ok-validate.ensures refl _ c.if-bytes-n.true)

pub overflow_cast-n : goal.overflow_cast-n
overflow_cast-n c = omega (arith, (accepted c.in_ok-validate.ensures refl).shape.few)

pub encode-requires-2 : goal.encode-requires-2
encode-requires-2 c =
    omega (
      arith,
      c.if-bytes-n.false,
      c.put_word.ensures.kept.long,
      c.encode.ensures.kept.long,
      (accepted c.in_ok-validate.ensures refl).shape.ranks,
    )

pub returns : goal.returns
returns c =
    wrote_file c.in_ok-validate.ensures refl _ _ c.if-bytes-n.false
    (file_written (accepted c.in_ok-validate.ensures refl).shape.ranks c.if-bytes-n.false
    c.put_word.ensures c.encode.ensures c.encode-2.ensures)
