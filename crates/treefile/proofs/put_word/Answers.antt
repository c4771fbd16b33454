-- The four bytes of the number, least byte first.
use Rattle.std.proofs.Common.{◌∙◌}
use Rattle.treefile.specs.TreeFile.{bytes_of}
use Rattle.treefile.proofs.Encoding.{word_put}
use Rattle.treefile.proofs.put_word.Goals as goal

pub returns : goal.returns
unfolding bytes_of
returns c = word_put _ _ _ c.requires (c.copy_from_slice.ensures.after ∙ c.to_le_bytes.ensures)
