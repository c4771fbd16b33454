-- Tree files (document 01, "Tree file and program"; refusals 16 and 17): n, then n parents, then n ranks, each in 4
-- bytes, least byte first.
--
--   word_at B i             == the number in the 4 bytes from i on
--   words B i n            == n such numbers, one after the other
--   stated_nodes B          == n as the file states it
--   stated_or_zero B         == the same, or 0 where the file has fewer than 4 bytes
--   file_parents, file_ranks == the table that the file holds
--   bytes_of w              == a number's 4 bytes
--   file_of P R             == the file of a table
--   open_fault L ..         == refusals 16, 1, 2, 17 and 3, which leave the work list alone
--   read_tree L ..          == the reader: what it answers, and the two lists that it leaves
--   write_tree L ..         == the writer: what it answers, and the bytes that it leaves
--   Read, Wrote            == their contracts
use Rattle.std.specs.Prelude.{true, cond, not, ◌&&◌, List, [], ◌∷◌, ◌++◌, ◌≡◌, ℕ, ◌+◌, ◌*◌, ◌/◌, ◌%◌, ltb, eqb, length}
use Rattle.std.specs.Prelude.{get_or}
use Rattle.std.proofs.Math.Option.{Option}
use Rattle.faults.specs.Numbers.{number}
use Rattle.laws.specs.Search.{tabulate, Refusal, refuse, ◌or_else◌, refused_or}
use Rattle.table.specs.Counted.{Counted}
use Rattle.table.specs.Counted.{Nodes, Refused}
use Rattle.table.specs.declared.Limits.{Limits}
use Rattle.table.specs.Table.{shape_fault, tree_fault, table_fault, Called}
use Rattle.treefile.specs.Saved.{Saved}
use Rattle.treefile.specs.Saved.{Bytes, Unsaved}

------------------------------------------------------------------------
-- Numbers in 4 bytes

unfoldable pub word_at : List ℕ → ℕ → ℕ
word_at B i = get_or B i 0 + 256 * get_or B (i + 1) 0 + (65536 * get_or B (i + 2) 0 + 16777216 * get_or B (i + 3) 0)

unfoldable pub words : List ℕ → ℕ → ℕ → List ℕ
words B i n = tabulate n (λ v. word_at B (i + 4 * v))

unfoldable pub bytes_of : ℕ → List ℕ
bytes_of w = w % 256 ∷ w / 256 % 256 ∷ w / 65536 % 256 ∷ w / 16777216 % 256 ∷ []

unfoldable pub all_bytes : List ℕ → List ℕ
all_bytes [] = []
all_bytes (w ∷ l) = bytes_of w ++ all_bytes l

------------------------------------------------------------------------
-- Files

unfoldable pub stated_nodes : List ℕ → ℕ
stated_nodes B = word_at B 0

unfoldable pub stated_or_zero : List ℕ → ℕ
stated_or_zero B = cond (ltb (length B) 4) 0 (stated_nodes B)

unfoldable pub file_parents : List ℕ → List ℕ
file_parents B = words B 4 (stated_nodes B)

unfoldable pub file_ranks : List ℕ → List ℕ
file_ranks B = words B (4 + 4 * stated_nodes B) (stated_nodes B)

unfoldable pub file_of : List ℕ → List ℕ → List ℕ
file_of P R = all_bytes (length P ∷ (P ++ R))

------------------------------------------------------------------------
-- Reading

-- parents, ranks, work: the lengths of the lists that are lent
unfoldable pub open_fault : Limits → List ℕ → ℕ → ℕ → ℕ → Option Refusal
open_fault L B parents ranks work =
    refuse (ltb (length B) 4) 16 0
    or_else refuse (eqb (stated_nodes B) 0) 1 0
    or_else refuse (ltb L.nodes (stated_nodes B)) (number L.many) 0
    or_else refuse (not (eqb (length B) (4 + 8 * stated_nodes B))) 17 0
    or_else refuse (not (eqb parents (stated_nodes B) && (eqb ranks (stated_nodes B) && eqb work (4 * stated_nodes B)))) 3 0

pub record Lists : Type 0 where
  pub answer : Counted
  pub parents : List ℕ
  pub ranks : List ℕ

unfoldable pub loaded : Option Refusal → List ℕ → List ℕ → List ℕ → Lists
loaded f B P R =
    refused_or (λ k v. record { answer = Refused k v; parents = P; ranks = R }) f
    (record { answer = Nodes (stated_nodes B); parents = file_parents B; ranks = file_ranks B })

unfoldable pub read_tree : Limits → List ℕ → List ℕ → List ℕ → ℕ → Lists
read_tree L B P R work =
    loaded (open_fault L B (length P) (length R) work or_else tree_fault (file_parents B) (file_ranks B)) B P R

------------------------------------------------------------------------
-- Writing

pub record Written : Type 0 where
  pub answer : Saved
  pub bytes : List ℕ

unfoldable pub saved : Option Refusal → List ℕ → List ℕ → List ℕ → Written
saved f P R B =
    refused_or (λ k v. record { answer = Unsaved k v; bytes = B }) f
    (record { answer = Bytes (4 + 8 * length P); bytes = file_of P R })

unfoldable pub write_tree : Limits → List ℕ → List ℕ → List ℕ → ℕ → Written
write_tree L P R B work =
    saved (table_fault L P R true work or_else refuse (not (eqb (length B) (4 + 8 * length P))) 17 0) P R B

------------------------------------------------------------------------
-- The contracts: W and Z are the work list at entry and at exit, the other lists are P, R and B at entry, X, Y and C
-- at exit

abbrev pub Read : Limits → List ℕ → List ℕ → List ℕ → List ℕ → List ℕ → List ℕ → List ℕ → Counted → Type 0
Read L B P R W X Y Z r =
    Called (open_fault L B (length P) (length R) (length W)) W Z
    (record { answer = r; parents = X; ranks = Y } ≡ read_tree L B P R (length W))

abbrev pub Wrote : Limits → List ℕ → List ℕ → List ℕ → List ℕ → List ℕ → List ℕ → Saved → Type 0
Wrote L P R B W C Z r =
    Called (shape_fault L P R true (length W)) W Z (record { answer = r; bytes = C } ≡ write_tree L P R B (length W))
