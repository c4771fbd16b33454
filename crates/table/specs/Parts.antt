-- What the work list holds while a table is tested and numbered, and what the tests answer. n is the length of P.
--
--   Scratch P W        == P's parents are nodes, and W has room for two numbers a node
--   Zeroed a e W       == W is 0 from a up to e
--   Tallied P W        == at 1 to n: the number of children of each node, after a 0
--   Started P W        == at 0 to n: the first slot of each node's children, and the number of all slots
--   in_slot P R s w     == w has a slot, and it is s
--   Seating P R W v    == from n + 1 on: how many of the nodes below v stand in each slot
--   Occupied P R W     == from n + 1 on: how many nodes share each node's slot
--   Slotted P R W      == from n + 1 on: the node in each slot
--   Visited P R W c    == the nodes with numbers up to c have their first numbers at 2n, and stand in order at 3n
--   marked P W v       == the mark of v, at n + v, is set; that of node 0 is the number of all slots
--   Marking P W        == node 0 is marked, and whoever is marked leads to node 0
--   Reaching P W v k   == a climb of k steps from v comes to a marked node, and no shorter one does
--   Copied l W a       == W holds the list l from a on
--   Tested L .. f Left r == the answer r to a call on a table is refusal f; if there is none, Left holds then
--   Prepared L .. r    == refusals 1 to 7; if none, the table is numbered
use Rattle.std.specs.Prelude.{Bool, true, false, ◌&&◌, List, ℕ, ◌+◌, ◌*◌, ◌^◌, ◌≤◌, ◌<◌, ltb, eqb, length, get_or}
use Rattle.std.proofs.Math.Option.{Option, none, some}
use Rattle.std.proofs.Math.Path.{◌≡◌, ap}
use Rattle.std.proofs.Common.{sym, ◌∙◌, arith}
use Rattle.laws.specs.Refusals.{refusal}
use Rattle.laws.specs.Regions.{Only}
use Rattle.laws.specs.Search.{count, Refusal}
use Rattle.laws.specs.Sums.{sum}
use Rattle.table.specs.Children.{Nodes, slot}
use Rattle.table.specs.declared.Limits.{Limits}
use Rattle.table.specs.Validity.{Validity}
use Rattle.table.specs.Validity.{Accepted, Refused}
use Rattle.table.specs.Table.{parent, rank, climb, children, is_child_at, order, post_number, first_number}
use Rattle.table.specs.Table.{tree_fault, shape_fault, table_fault}
use Rattle.table.specs.Acceptance.{accepting, validity, validity-accepted, validity_refused}
use Rattle.table.specs.Numbering.{NumberedTree}
use Rattle.table.specs.TableLaws.{Tree}

-- the work list is left alone on these refusals
abbrev pub Spared : Option Refusal → List ℕ → List ℕ → Type 0
Spared fault W X = (f : Refusal) → fault ≡ some f → X ≡ W

pub record Scratch (P W : List ℕ) : Type 0 where
  pub nodes : Nodes P
  pub few : length P < 2 ^ 32
  pub room : 2 * length P ≤ length W

pub record Zeroed (a e : ℕ) (W : List ℕ) : Type 0 where
  pub at : (k : ℕ) → a ≤ k → k < e → get_or W k 0 ≡ 0

pub record Tallied (P W : List ℕ) : Type 0 where
  pub none : get_or W 0 0 ≡ 0
  pub at : (p : ℕ) → p < length P → get_or W (p + 1) 0 ≡ children P p

pub record Started (P W : List ℕ) : Type 0 where
  pub at : (p : ℕ) → p ≤ length P → get_or W p 0 ≡ sum (children P) p

pub record Occupied (P R W : List ℕ) : Type 0 where
  pub at : (v : ℕ) → 0 < v → v < length P → rank R v < children P (parent P v)
      → get_or W (length P + 1 + slot P R v) 0 ≡ count (is_child_at P R (parent P v) (rank R v)) (length P)

pub record Slotted (P R W : List ℕ) : Type 0 where
  pub at : (v : ℕ) → 0 < v → v < length P → get_or W (length P + 1 + slot P R v) 0 ≡ v

-- 0 < w, w's rank is below its parent's number of children, and s is its slot
unfoldable pub in_slot : List ℕ → List ℕ → ℕ → ℕ → Bool
in_slot P R s w = ltb 0 w && (ltb (rank R w) (children P (parent P w)) && eqb (slot P R w) s)

pub record Seating (P R W : List ℕ) (v : ℕ) : Type 0 where
  pub scratch : Scratch P W
  pub long : length R ≡ length P
  pub started : Started P W
  pub from : 1 ≤ v
  pub at : (s : ℕ) → s + 1 < length P → get_or W (length P + 1 + s) 0 ≡ count (in_slot P R s) v

unfoldable pub marked : List ℕ → List ℕ → ℕ → Bool
marked P W v = ltb 0 (get_or W (length P + v) 0)

-- with only node 0 there is nothing to mark
pub record Marking (P W : List ℕ) : Type 0 where
  pub root : 1 < length P → marked P W 0 ≡ true
  pub leads : (v : ℕ) → v < length P → marked P W v ≡ true → (k : ℕ) × (climb P k v ≡ 0)

-- a climb of k steps from v reaches a marked node, and none before
pub record Reaching (P W : List ℕ) (v k : ℕ) : Type 0 where
  pub scratch : Scratch P W
  pub marking : Marking P W
  pub above : 0 < v
  pub inside : v < length P
  pub steps : k ≤ length P
  pub here : marked P W (climb P k v) ≡ true
  pub before : (i : ℕ) → i < k → marked P W (climb P i v) ≡ false

------------------------------------------------------------------------
-- What the tests say and leave, and what `number` needs

-- what refusals 1 to 3 leave
pub record Lengths (P R W : List ℕ) : Type 0 where
  pub some : 0 < length P
  pub few : length P < 2 ^ 32
  pub ranks : length R ≡ length P
  pub long : length W ≡ 4 * length P

-- and refusal 4
pub record Rooted (P R W : List ℕ) : Type 0 where
  pub lengths : Lengths P R W
  pub parent : parent P 0 ≡ 0
  pub rank : rank R 0 ≡ 0

-- refusals 4 to 7
pub record Structured (P R W X : List ℕ) (r : Validity) : Type 0 where
  pub answer : r ≡ validity (tree_fault P R)
  pub kept : Only 0 (2 * length P) W X
  pub started : r ≡ Accepted → Started P X

-- refusals 1 to 7
pub record Validated (L : Limits) (P R : List ℕ) (long : Bool) (W X : List ℕ) (r : Validity) : Type 0 where
  pub answer : r ≡ validity (table_fault L P R long (length W))
  pub spared : Spared (shape_fault L P R long (length W)) W X
  pub kept : Only 0 (2 * length P) W X
  pub started : r ≡ Accepted → Started P X

pub record Ready (P R W : List ℕ) : Type 0 where
  pub tree : Tree P R
  pub few : length P < 2 ^ 32
  pub long : length W ≡ 4 * length P
  pub started : Started P W

pub ready : {L : Limits} {P R : List ℕ} {long : Bool} {W X : List ℕ} {r : Validity} → Validated L P R long W X r
    → L.nodes < 2 ^ 32 → r ≡ Accepted → Ready P R X
ready {L} {P} {R} {long} {W} v few e =
    let a = accepting L P R long (length W) (validity-accepted _ (sym v.answer ∙ e)) in
    record {
      tree = a.tree;
      few = omega arith;
      long = v.kept.long ∙ a.shape.work_long;
      started = v.started e;
    }

-- the first slots and the slots, for the walk
pub record Seated (P R W : List ℕ) : Type 0 where
  pub ready : Ready P R W
  pub slotted : Slotted P R W

-- the nodes with numbers up to c are visited: their first numbers at 2n, and the start of the order at 3n
pub record Visited (P R W : List ℕ) (c : ℕ) : Type 0 where
  pub seated : Seated P R W
  pub first : (u : ℕ) → u < length P → post_number P R u ≤ c → get_or W (2 * length P + u) 0 ≡ first_number P R u
  pub node : (j : ℕ) → j < c → get_or W (3 * length P + j) 0 ≡ get_or (order P R) j 0

-- u comes first in v's subtree
pub record Leftmost (P R : List ℕ) (v u : ℕ) : Type 0 where
  pub inside : u < length P
  pub number : post_number P R u ≡ first_number P R v

-- u comes next after v
pub record Next (P R : List ℕ) (v u : ℕ) : Type 0 where
  pub inside : u < length P
  pub number : post_number P R u ≡ post_number P R v + 1

-- W holds the list from a on
pub record Copied (l W : List ℕ) (a : ℕ) : Type 0 where
  pub same : (i : ℕ) → i < length l → get_or W (a + i) 0 ≡ get_or l i 0

------------------------------------------------------------------------
-- What a call's tests answer, one after the other

-- others: the lists that are lent besides P and R are n long
pub record Tested (L : Limits) (P R : List ℕ) (others : Bool) (W X : List ℕ) (fault : Option Refusal) (Left : Type 0)
    (r : Validity) : Type 0 where
  pub answer : r ≡ validity fault
  pub spared : Spared (shape_fault L P R others (length W)) W X
  pub long : length X ≡ length W
  pub left : r ≡ Accepted → Left

abbrev pub Prepared : Limits → List ℕ → List ℕ → Bool → List ℕ → List ℕ → Validity → Type 0
Prepared L P R others W X = Tested L P R others W X (table_fault L P R others (length W)) (NumberedTree P R X)

module _ {L : Limits} {P R : List ℕ} {others : Bool} {W X : List ℕ} {f : Option Refusal} {Left : Type 0} {r : Validity}
    (p : Tested L P R others W X f Left r) where
  pub no_fault : r ≡ Accepted → f ≡ none
  no_fault e = validity-accepted _ (sym p.answer ∙ e)

  pub fault : {k z : ℕ} → r ≡ Refused k z → f ≡ refusal k z
  fault {k} {z} e = validity_refused _ k z (sym p.answer ∙ e)

  -- a later refusal
  pub refused_later : {g : Option Refusal} {Later : Type 0} {k z : ℕ} → g ≡ refusal k z
      → Tested L P R others W X g Later (Refused k z)
  unfolding validity
  refused_later e = record {
    answer = ap validity (sym e);
    spared = p.spared;
    long = p.long;
    left = λ a. absurd (let q : ◌≡◌ {A = ℕ} 0 1 = cc in omega arith);
  }

  -- and none
  pub accepted_later : {g : Option Refusal} {Later : Type 0} → g ≡ none → Later
      → Tested L P R others W X g Later Accepted
  unfolding validity
  accepted_later e x = record { answer = ap validity (sym e); spared = p.spared; long = p.long; left = λ a. x }
