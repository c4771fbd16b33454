-- What a writer's methods say.
--
--   Puts s t T  == the text T is put in from the place of s up to that of t, into the same lent bytes
use Rattle.std.specs.Prelude.{List, ◌≡◌, ℕ}
use Rattle.text.specs.declared.Writer.{Writer}
use Rattle.text.specs.Text.{Appended}

pub record Puts (s t : Writer) (T : List ℕ) : Type 0 where
  pub text : Appended s.out.now t.out.now s.at t.at T
  pub same : t.out.ghost_name ≡ s.out.ghost_name
