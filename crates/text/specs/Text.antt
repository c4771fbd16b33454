-- The text of a sheet (document 01, "Tree file and program"), as a list of bytes.
--
--   decimal n            == a number in base ten, without a leading zero (32-bit numbers have at most ten digits)
--   field n e            == a number and the byte after it
--   lot_line S v          == the line of a lot: lot, steep x, steep y, balanced x, balanced y
--   lot_lines S n         == the lines of the lots below n, in number order
--   sheet_of S n          == `SHEET n` and the lots' lines
--   refusal_of k v        == `REFUSED k v`
--   Appended A B a e T   == B is A with the text T put in from a up to e; what stands before a is unchanged
use Rattle.std.specs.Prelude.{cond, List, [], ◌∷◌, ◌++◌, ◌≡◌, ℕ, zero, suc, ◌+◌, ◌/◌, ◌%◌, ltb, length, get_or, take}

------------------------------------------------------------------------
-- Numbers

-- the last f digits at most
unfoldable pub digits : ℕ → ℕ → List ℕ
digits zero n = []
digits (suc f) n = cond (ltb n 10) [] (digits f (n / 10)) ++ ((48 + n % 10) ∷ [])

unfoldable pub decimal : ℕ → List ℕ
decimal n = digits 10 n

unfoldable pub field : ℕ → ℕ → List ℕ
field n e = decimal n ++ (e ∷ [])

abbrev pub space : ℕ
space = 32

-- byte 10 ends a line
abbrev pub newline : ℕ
newline = 10

------------------------------------------------------------------------
-- Lines

-- the places of a sheet's lots under both rules
pub record Places : Type 0 where
  pub steep_x : List ℕ
  pub steep_y : List ℕ
  pub balanced_x : List ℕ
  pub balanced_y : List ℕ

unfoldable pub lot_line : Places → ℕ → List ℕ
lot_line S v =
    field v space ++ (field (get_or S.steep_x v 0) space ++ (field (get_or S.steep_y v 0) space
    ++ (field (get_or S.balanced_x v 0) space ++ field (get_or S.balanced_y v 0) newline)))

unfoldable pub lot_lines : Places → ℕ → List ℕ
lot_lines S zero = []
lot_lines S (suc v) = lot_lines S v ++ lot_line S v

-- S H E E T and a space
abbrev pub sheet_word : List ℕ
sheet_word = 83 ∷ 72 ∷ 69 ∷ 69 ∷ 84 ∷ 32 ∷ []

-- R E F U S E D and a space
abbrev pub refused_word : List ℕ
refused_word = 82 ∷ 69 ∷ 70 ∷ 85 ∷ 83 ∷ 69 ∷ 68 ∷ 32 ∷ []

unfoldable pub sheet_of : Places → ℕ → List ℕ
sheet_of S n = sheet_word ++ (field n newline ++ lot_lines S n)

unfoldable pub refusal_of : ℕ → ℕ → List ℕ
refusal_of k v = refused_word ++ (field k space ++ field v newline)

------------------------------------------------------------------------
-- What the writers' contracts say

pub record Appended (A B : List ℕ) (a e : ℕ) (T : List ℕ) : Type 0 where
  pub ends : e ≡ a + length T
  pub text : take e B ≡ take a A ++ T
  pub long : length B ≡ length A
