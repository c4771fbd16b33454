-- What the upper layers need of post-order numbers, and what `number` leaves in the work list.
--
--   Numbering P R number   == the laws of a numbering in post-order
--   Numbered P R W         == the regions of the work list W hold the post-order numbers
--   NumberedTree P R W     == and P and R are an accepted table
--   Numbers P R j v        == v is the node with number j, other than the root
use Rattle.std.specs.Prelude.{◌≡◌}
use mathlib.Core.List.{List}
use Prim.Native.Nat.{ℕ, ◌+◌, ◌*◌, ◌^◌, ◌≤◌, ◌<◌}
use Rattle.std.proofs.Math.ListN.{length, get_or}
use Rattle.table.specs.Table.{parent, rank, climb, order, post_number}
use Rattle.table.specs.Table.{first_number}
use Rattle.table.specs.TableLaws.{Tree}

pub record Numbering (P R : List ℕ) (number : ℕ → ℕ) : Type 0 where
  pub from_1 : (v : ℕ) → v < length P → 1 ≤ number v
  pub to_n : (v : ℕ) → v < length P → number v ≤ length P
  pub once : (v w : ℕ) → v < length P → w < length P → number v ≡ number w → v ≡ w
  pub parent_later : (v : ℕ) → 0 < v → v < length P → number v < number (parent P v)
  -- the subtree of a sibling of lower rank, p's, comes before that of a sibling of higher rank, q's
  pub sibling_later : (p q y z j k : ℕ) → 0 < p → p < length P → 0 < q → q < length P
      → parent P p ≡ parent P q → rank R p < rank R q
      → y < length P → z < length P → climb P j y ≡ p → climb P k z ≡ q → number y < number z

-- the region at 0: the post numbers; at 2n: the first number of each subtree; at 3n: the post-order
pub record Numbered (P R W : List ℕ) : Type 0 where
  pub long : length W ≡ 4 * length P
  pub last : (v : ℕ) → v < length P → get_or W v 0 ≡ post_number P R v
  pub first : (v : ℕ) → v < length P → get_or W (2 * length P + v) 0 ≡ first_number P R v
  pub node : (j : ℕ) → j < length P → get_or W (3 * length P + j) 0 ≡ get_or (order P R) j 0

pub record NumberedTree (P R W : List ℕ) : Type 0 where
  pub tree : Tree P R
  pub few : length P < 2 ^ 32
  pub numbers : Numbered P R W

pub record Numbers (P R : List ℕ) (j v : ℕ) : Type 0 where
  pub above : 0 < v
  pub inside : v < length P
  pub number : post_number P R v ≡ j
