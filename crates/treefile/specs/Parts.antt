-- What the reader and the writer pass through.
--
--   Opened L B P R W     == what refusals 16, 1, 2, 17 and 3 leave
--   WordPut, Encoded     == a number's, and a list's, bytes stand from a place on
--   Tabled B P R X Y r   == the answer r to an opened file, and the lists at exit
use Rattle.std.specs.Prelude.{List, ◌≡◌, ℕ, ◌+◌, ◌*◌, ◌^◌, ◌≤◌, ◌<◌, length, get_or}
use Rattle.laws.specs.Regions.{Only}
use Rattle.table.specs.Counted.{Counted}
use Rattle.table.specs.declared.Limits.{Limits}
use Rattle.table.specs.Table.{tree_fault}
use Rattle.treefile.specs.TreeFile.{bytes_of, stated_nodes, file_parents, file_ranks, loaded}

-- the 4 bytes of w from i on, and nothing else changed
pub record WordPut (B C : List ℕ) (i w : ℕ) : Type 0 where
  pub at : (k : ℕ) → k < 4 → get_or C (i + k) 0 ≡ get_or (bytes_of w) k 0
  pub kept : Only i (i + 4) B C

-- the 4 bytes of each number of l from a on, and nothing else changed
pub record Encoded (l B C : List ℕ) (a : ℕ) : Type 0 where
  pub at : (v k : ℕ) → v < length l → k < 4 → get_or C (a + 4 * v + k) 0 ≡ get_or (bytes_of (get_or l v 0)) k 0
  pub kept : Only a (a + 4 * length l) B C

pub record Opened (L : Limits) (B P R W : List ℕ) : Type 0 where
  pub some : 0 < length P
  pub few : length P ≤ L.nodes
  pub small : length P < 2 ^ 32
  pub stated : stated_nodes B ≡ length P
  pub long : length B ≡ 4 + 8 * length P
  pub ranks : length R ≡ length P
  pub work : length W ≡ 4 * length P

pub record Tabled (B P R : List ℕ) (X Y : List ℕ) (r : Counted) : Type 0 where
  pub outcome : record { answer = r; parents = X; ranks = Y } ≡ loaded (tree_fault (file_parents B) (file_ranks B)) B P R
