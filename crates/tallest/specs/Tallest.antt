-- The tallest sheet (document 02, request 113; refusals 1 and 2 on the n given, then 3).
--
--   table_of P R        == the table of a parent list and a rank list
--   lists parent rank  == the table in the two lists that are lent, at entry and at exit
--   chain_of n          == the table of n nodes in which each node v from 1 up has parent v - 1
--   steep_frame t       == the frame of its fresh steep sheet
--   lent_fault L n t    == refusals 1 to 3 at the limits L
--   tallest L n t      == the call: what it answers, and the table that it leaves
--   Fills L n t r      == its contract
--   Chain P            == no node has two children
use Rattle.std.specs.Prelude.{not, List, [], ◌∷◌, ◌≡◌, ℕ, ◌-◌, ◌≤◌, ◌<◌, ltb, eqb, length}
use Rattle.std.proofs.Math.Option.{Option}
use denote.Triple.Both.{Both}
use Rattle.faults.specs.Numbers.{number}
use Rattle.laws.specs.Search.{tabulate, Refusal, refuse, ◌or_else◌, Outcome, settle}
use Rattle.table.specs.declared.Limits.{Limits}
use Rattle.table.specs.Table.{children, all_long}
use Rattle.slopes.specs.declared.Rule.TheVariants.{Steep}
use Rattle.drawing.specs.Framed.{Framed}
use Rattle.drawing.specs.Framed.{Refused}
use Rattle.drawing.specs.Drawing.{fresh, frame, Lent}

pub record Table : Type 0 where
  pub parents : List ℕ
  pub ranks : List ℕ

abbrev pub table_of : List ℕ → List ℕ → Table
table_of parents ranks = record { parents = parents; ranks = ranks }

abbrev pub lists : Lent → Lent → Both Table Table
lists parent rank = record {
  entry = table_of parent.entry rank.entry;
  exit = table_of parent.exit rank.exit;
}

-- the root's parent is 0, which 0 - 1 is here; a node that is its parent's only child has rank 0
unfoldable pub chain_of : ℕ → Table
chain_of n = table_of (tabulate n (λ v. v - 1)) (tabulate n (λ v. 0))

unfoldable pub steep_frame : Table → Framed
steep_frame t = frame (fresh t.parents t.ranks Steep)

unfoldable pub lent_fault : Limits → ℕ → Table → Option Refusal
lent_fault L n t =
    refuse (eqb n 0) 1 0
    or_else refuse (ltb L.nodes n) (number L.many) 0
    or_else refuse (not (all_long n (t.parents ∷ t.ranks ∷ []))) 3 0

unfoldable pub tallest : Limits → ℕ → Table → Outcome Framed Table
tallest L n t = settle Refused (lent_fault L n t) t (steep_frame (chain_of n)) (chain_of n)

-- r is the answer, t the lists at entry and at exit
abbrev pub Fills : Limits → ℕ → Both Table Table → Framed → Type 0
Fills L n t r = record { answer = r; left = t.exit } ≡ tallest L n t.entry

abbrev pub Chain : List ℕ → Type 0
Chain P = (p : ℕ) → p < length P → children P p ≤ 1
