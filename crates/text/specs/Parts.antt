-- What the writers pass on.
--
--   Power d             == d is a power of ten
--   Unit n d            == d is the largest power of ten that is not above n, 1 where n is 0
--   line_of v a b c d    == the line of five numbers
--   title_of n           == the first line of a sheet
--   Lines S n B at      == the four lists have n numbers each, and B has room for n lines from `at` on
use Rattle.std.specs.Prelude.{List, ◌++◌, ◌≡◌, ℕ, ◌+◌, ◌*◌, ◌/◌, ◌^◌, ◌≤◌, ◌<◌, length}
use Rattle.text.specs.Text.{field, space, newline, Places, sheet_word}

pub record Power (d : ℕ) : Type 0 where
  pub places : ℕ
  pub is : d ≡ 10 ^ places

pub record Unit (n d : ℕ) : Type 0 where
  pub power : Power d
  pub within : 1 < d → d ≤ n
  pub one : n / d < 10

unfoldable pub line_of : ℕ → ℕ → ℕ → ℕ → ℕ → List ℕ
line_of v a b c d = field v space ++ (field a space ++ (field b space ++ (field c space ++ field d newline)))

unfoldable pub title_of : ℕ → List ℕ
title_of n = sheet_word ++ field n newline

abbrev pub places_of : List ℕ → List ℕ → List ℕ → List ℕ → Places
places_of x y u w = record { steep_x = x; steep_y = y; balanced_x = u; balanced_y = w }

pub record Lines (S : Places) (n : ℕ) (B : List ℕ) (at : ℕ) : Type 0 where
  pub steep_x : length S.steep_x ≡ n
  pub steep_y : length S.steep_y ≡ n
  pub balanced_x : length S.balanced_x ≡ n
  pub balanced_y : length S.balanced_y ≡ n
  pub few : n < 2 ^ 32
  pub room : at + 55 * n ≤ length B
