-- Writing words and lines one after the other.
use mathlib.Core.List.{List, ◌++◌, append_assoc}
use mathlib.Core.Path.{◌≡◌, ap, ◌∙◌}
use Prim.Native.Nat.{ℕ, suc, ◌+◌, ◌≤◌, ◌<◌}
use native.Mathlib.Omega.{arith}
use lib.ListN.{length, get_or, length-append}
use Rattle.text.specs.Text.{field, Places, lot_line, lot_lines, sheet_of, sheet_word, Appended}
use Rattle.text.proofs.TextLaws.{length-field, length-lot_lines, appended_none, appended_on, appended_is}
use Rattle.text.specs.Parts.{line_of, title_of, Lines}
use Rattle.text.specs.Writing.{Puts}
use Rattle.text.specs.declared.Writer.{Writer}

------------------------------------------------------------------------
-- One text after another

pub puts_on : {s t u : Writer} {T U : List ℕ} → Puts s t T → Puts t u U → Puts s u (T ++ U)
puts_on p q = record { text = appended_on p.text q.text; same = q.same ∙ p.same }

pub puts_is : {s t : Writer} {T U : List ℕ} → Puts s t T → T ≡ U → Puts s t U
puts_is p e = record { text = appended_is p.text e; same = p.same }

------------------------------------------------------------------------
-- Lines

pub line_is : (S : Places) (v : ℕ) {p q r s : ℕ} → p ≡ get_or S.steep_x v 0 → q ≡ get_or S.steep_y v 0
    → r ≡ get_or S.balanced_x v 0 → s ≡ get_or S.balanced_y v 0 → line_of v p q r s ≡ lot_line S v
unfolding line_of lot_line
line_is S v ep eq er es = λ i. line_of v (ep i) (eq i) (er i) (es i)

-- the lines of the lots below v stand from `at` up to e
pub record Listing (S : Places) (n : ℕ) (A B : List ℕ) (at e v : ℕ) : Type 0 where
  pub upto : v ≤ n
  pub text : Appended A B at e (lot_lines S v)

module _ (S : Places) (n : ℕ) where
  pub listing_start : (A : List ℕ) (at : ℕ) → Listing S n A A at at 0
  unfolding lot_lines
  listing_start A at = record { upto = omega arith; text = appended_none A at }

  pub listing_step : {A B C : List ℕ} {at e f v p q r s : ℕ} → Listing S n A B at e v → v < n
      → p ≡ get_or S.steep_x v 0 → q ≡ get_or S.steep_y v 0 → r ≡ get_or S.balanced_x v 0
      → s ≡ get_or S.balanced_y v 0 → Appended B C e f (line_of v p q r s) → Listing S n A C at f (v + 1)
  unfolding lot_lines
  listing_step {v = v} l h ep eq er es a = record {
    upto = omega arith;
    text = appended_is (appended_on l.text (appended_is a (line_is S v ep eq er es))) (ap (lot_lines S) (next v));
  }
    where
      next : (v : ℕ) → suc v ≡ v + 1
      next v = omega arith

  -- a line has room
  pub listing_room : {A B : List ℕ} {at e v : ℕ} → Lines S n A at → Listing S n A B at e v → v < n → e + 55 ≤ length B
  listing_room {e = e} {v} s l h = omega (arith, s.room, l.text.long, l.text.ends, length-lot_lines S v)

  pub sheet_put : {s t u : Writer} → Puts s t (title_of n) → Puts t u (lot_lines S n) → Puts s u (sheet_of S n)
  unfolding title_of sheet_of
  sheet_put p q = puts_is (puts_on p q) (append_assoc sheet_word (field n 10) (lot_lines S n))

-- after the title there is room for the lines
pub lines_room : {S : Places} {n : ℕ} {A B : List ℕ} {e : ℕ} → Lines S n A 17 → Appended A B 0 e (title_of n)
    → Lines S n B e
unfolding title_of
lines_room {n = n} s a = record {
  steep_x = s.steep_x;
  steep_y = s.steep_y;
  balanced_x = s.balanced_x;
  balanced_y = s.balanced_y;
  few = s.few;
  room = omega (arith, s.room, a.ends, a.long, length-append sheet_word (field n 10), length-field n 10);
}
