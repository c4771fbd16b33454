-- The text for a file cut short, computed.
use Rattle.std.specs.Prelude.{[], ◌∷◌, ◌++◌, ◌≡◌, refl}
use Rattle.treefile.specs.TreeFile.{word_at, stated_nodes, open_fault}
use Rattle.text.specs.Text.{digits, decimal, field, space, newline, refused_word, refusal_of}
use Rattle.sheetfile.specs.SheetFile.{file_fault, text_of, sheet_text}

-- REFUSED 16 0
pub short_text : sheet_text (5 ∷ 0 ∷ 0 ∷ []) ≡ refused_word ++ (49 ∷ 54 ∷ space ∷ 48 ∷ newline ∷ [])
unfolding word_at stated_nodes open_fault digits decimal field refusal_of file_fault text_of sheet_text
short_text = refl
