-- The numbers of the C interface's replies, three or four, for each answer.
--
--   three a b c            == a reply of three numbers; `four` of four
--   refused_reply k v       == that of a refusal: 0, number, node
--   counted_reply a, ..     == the three numbers of an answer
--   arranged_reply a        == the four numbers of the answer to a list of lengthens
--   screen p q             == what a window's answer is written into: a point of two positions, and a reply
--   view_reply p a          == the answer there, with the point p at entry
--   Short a                == the number of bytes that the writer answers fits 32 bits
--   Near a                 == the place that a list of lengthens answers fits 63 bits
use Rattle.std.specs.Prelude.{List, [], ◌∷◌, ℕ, ◌^◌, ◌<◌, Float, ℤ, pos}
use Rattle.table.specs.Counted.{Counted}
use Rattle.table.specs.Counted as counted
use Rattle.drawing.specs.Framed.{Framed}
use Rattle.drawing.specs.Framed as framed
use Rattle.arranging.specs.Arranged.{Arranged}
use Rattle.arranging.specs.Arranged as arranged
use Rattle.aligning.specs.Aligned.{Aligned}
use Rattle.aligning.specs.Aligned as aligned
use Rattle.direction.specs.Heading.{Heading}
use Rattle.direction.specs.Heading as heading
use Rattle.monotone.specs.declared.Verdict.{Verdict}
use Rattle.monotone.specs.declared.Verdict.TheVariants as verdict
use Rattle.treefile.specs.Saved.{Saved}
use Rattle.treefile.specs.Saved as saved
use Rattle.window.specs.declared.View.{View}
use Rattle.window.specs.declared.View.TheVariants as view

abbrev pub three : ℤ → ℤ → ℤ → List ℤ
three a b c = a ∷ b ∷ c ∷ []

abbrev pub refused_reply : ℕ → ℕ → List ℤ
refused_reply number node = three (pos 0) (pos number) (pos node)

unfoldable pub counted_reply : Counted → List ℤ
counted_reply (counted.Nodes n) = three (pos 1) (pos n) (pos 0)
counted_reply (counted.Refused number node) = refused_reply number node

unfoldable pub framed_reply : Framed → List ℤ
framed_reply (framed.Frame width height) = three (pos 1) (pos width) (pos height)
framed_reply (framed.Refused number node) = refused_reply number node

unfoldable pub aligned_reply : Aligned → List ℤ
aligned_reply (aligned.Count count) = three (pos 1) (pos count) (pos 0)
aligned_reply aligned.None = three (pos 2) (pos 0) (pos 0)
aligned_reply (aligned.Refused number node) = refused_reply number node

unfoldable pub heading_reply : Heading → List ℤ
heading_reply (heading.Along d e) = three (pos 1) d e
heading_reply (heading.Refused number node) = refused_reply number node

unfoldable pub verdict_reply : Verdict → List ℤ
verdict_reply verdict.Monotone = three (pos 1) (pos 0) (pos 0)
verdict_reply (verdict.Turns u v) = three (pos 2) (pos u) (pos v)
verdict_reply (verdict.Refused number node) = refused_reply number node

unfoldable pub saved_reply : Saved → List ℤ
saved_reply (saved.Bytes bytes) = three (pos 1) (pos bytes) (pos 0)
saved_reply (saved.Unsaved number node) = refused_reply number node

abbrev pub four : ℤ → ℤ → ℤ → ℤ → List ℤ
four a b c d = a ∷ b ∷ c ∷ d ∷ []

unfoldable pub arranged_reply : Arranged → List ℤ
arranged_reply (arranged.Frame width height) = four (pos 1) (pos width) (pos height) (pos 0)
arranged_reply (arranged.Refused number lot place) = four (pos 0) (pos number) (pos lot) (pos place)

pub record Screen : Type 0 where
  pub point : List Float
  pub reply : List ℤ

abbrev pub screen : List Float → List ℤ → Screen
screen point reply = record { point = point; reply = reply }

unfoldable pub view_reply : List Float → View → Screen
view_reply point (view.Shown p) = screen (p.across ∷ p.up ∷ []) (three (pos 1) (pos 0) (pos 0))
view_reply point view.Outside = screen point (three (pos 2) (pos 0) (pos 0))
view_reply point (view.Refused number node) = screen point (refused_reply number node)

unfoldable pub Short : Saved → Type 0
Short (saved.Bytes bytes) = bytes < 2 ^ 32
Short (saved.Unsaved number node) = Unit {0}

unfoldable pub Near : Arranged → Type 0
Near (arranged.Frame width height) = Unit {0}
Near (arranged.Refused number lot place) = place < 2 ^ 63
