-- Tree tables and their post-order (document 01, "The tree table", "Traversal and slopes"; refusals 1 to 7).
--
-- A table is its parent list P and its rank list R. n is the length of P, and the nodes (document 01: lots) are the
-- numbers below n.
--
--   parent P v, rank R v     == what the lists say of v
--   climb P k v              == where k steps from node to parent lead, from v
--   leads P v                == the parents of v lead to node 0
--   is_child P p v            == v is a child of p: a node other than 0 whose parent is p
--   children P p             == the number of p's children
--   is_child_at P R p r v      == v is a child of p with rank r
--   child_at P R p r          == the child of p with rank r
--   under P a v              == v is in a's subtree: a is v or an ancestor of v
--   steps_up P u v            == the number of steps from u up to the lowest common ancestor of u and v
--   postorder P R f v        == v's subtree, the subtrees of the children in rank order, then v; f bounds the depth
--   order P R                == the whole post-order: the root's subtree
--   post_number P R v         == v's place in it, from 1
--   has_number P R v j        == a node in v's subtree has the post number j
--   first_number P R v        == the first post number in v's subtree: the least
--   large, small             == the limits of a call on a table, and of the small cabinet's (document 02, request 106)
--   limits_of c              == those of the cabinet c
--   checked, printed         == those of the check, and of the program `sheet`
--   shape_fault L ..          == refusals 1 to 3 at the limits L
--   tree_fault P R            == refusals 4 to 7
--   table_fault L ..          == both, in this order
--   Called fault W X Says    == a call's contract: what it answers and leaves, and what becomes of the work list
use Rattle.std.specs.Prelude.{Bool, true, cond, not, ◌&&◌, ◌||◌, List, [], ◌∷◌, ◌++◌, ◌≡◌, ℕ, zero, suc, ◌*◌, ltb, leb}
use Rattle.std.specs.Prelude.{eqb, length, get_or}
use Rattle.std.proofs.Math.Option.{Option, some}
use Rattle.faults.specs.declared.Fault.TheVariants.{TooManyLots, WouldPassMaxPlace, TooManyToCheck, PassesMaxPlace}
use Rattle.faults.specs.declared.Fault.TheVariants.{TooManyForSmall, WouldPassSmallPlace}
use Rattle.faults.specs.Numbers.{number}
use Rattle.laws.specs.Search.{count, least, Refusal, refuse, refuse_least, ◌or_else◌}
use Rattle.table.specs.declared.Cabinet.{Cabinet}
use Rattle.table.specs.declared.Cabinet.TheVariants.{Large, Small}
use Rattle.table.specs.declared.Limits.{Limits}

------------------------------------------------------------------------
-- Parents and children

abbrev pub parent : List ℕ → ℕ → ℕ
parent P v = get_or P v 0

abbrev pub rank : List ℕ → ℕ → ℕ
rank R v = get_or R v 0

unfoldable pub climb : List ℕ → ℕ → ℕ → ℕ
climb P zero v = v
climb P (suc k) v = parent P (climb P k v)

-- n steps are enough, since node 0 is its own parent
unfoldable pub leads : List ℕ → ℕ → Bool
leads P v = eqb (climb P (length P) v) 0

unfoldable pub is_child : List ℕ → ℕ → ℕ → Bool
is_child P p v = ltb 0 v && eqb (parent P v) p

unfoldable pub children : List ℕ → ℕ → ℕ
children P p = count (is_child P p) (length P)

unfoldable pub is_child_at : List ℕ → List ℕ → ℕ → ℕ → ℕ → Bool
is_child_at P R p r v = is_child P p v && eqb (rank R v) r

unfoldable pub child_at : List ℕ → List ℕ → ℕ → ℕ → ℕ
child_at P R p r = least (is_child_at P R p r) (length P)

unfoldable pub under : List ℕ → ℕ → ℕ → Bool
under P a v = leb (least (λ k. eqb (climb P k v) a) (suc (length P))) (length P)

-- the first of u and its ancestors that has v in its subtree
unfoldable pub steps_up : List ℕ → ℕ → ℕ → ℕ
steps_up P u v = least (λ k. under P (climb P k u) v) (length P)

------------------------------------------------------------------------
-- Post-order

-- the lists of the first r children, one after the other
unfoldable pub forest : (ℕ → List ℕ) → (ℕ → ℕ) → ℕ → List ℕ
forest list child zero = []
forest list child (suc r) = forest list child r ++ list (child r)

unfoldable pub postorder : List ℕ → List ℕ → ℕ → ℕ → List ℕ
postorder P R zero v = []
postorder P R (suc f) v = forest (postorder P R f) (child_at P R v) (children P v) ++ (v ∷ [])

-- the first place of v in a list, from 0
unfoldable pub place : ℕ → List ℕ → ℕ
place v [] = 0
place v (a ∷ l) = cond (eqb v a) 0 (suc (place v l))

-- no path to the root is longer than n steps
unfoldable pub order : List ℕ → List ℕ → List ℕ
order P R = postorder P R (suc (length P)) 0

unfoldable pub post_number : List ℕ → List ℕ → ℕ → ℕ
post_number P R v = suc (place v (order P R))

unfoldable pub has_number : List ℕ → List ℕ → ℕ → ℕ → Bool
has_number P R v j = ltb 0 (count (λ z. under P v z && eqb (post_number P R z) j) (length P))

unfoldable pub first_number : List ℕ → List ℕ → ℕ → ℕ
first_number P R v = least (has_number P R v) (suc (length P))

------------------------------------------------------------------------
-- Limits

-- no call takes a place beyond this
abbrev pub farthest : ℕ
farthest = 2147483647

abbrev pub large : Limits
large = record { nodes = 65536; many = TooManyLots; place = farthest; far = WouldPassMaxPlace }

abbrev pub small : Limits
small = record { nodes = 1024; many = TooManyForSmall; place = 1048575; far = WouldPassSmallPlace }

abbrev pub limits_of : Cabinet → Limits
limits_of Large = large
limits_of Small = small

abbrev pub checked : Limits
checked = record { nodes = 4096; many = TooManyToCheck; place = farthest; far = PassesMaxPlace }

abbrev pub printed : Limits
printed = record { nodes = 4096; many = TooManyToCheck; place = farthest; far = WouldPassMaxPlace }

------------------------------------------------------------------------
-- Refusals 1 to 7

-- 5: the parent is no node
unfoldable pub stray_parent : List ℕ → ℕ → Bool
stray_parent P v = ltb 0 v && leb (length P) (parent P v)

-- 6: the rank is not below the parent's number of children, or a sibling has it too
unfoldable pub bad_rank : List ℕ → List ℕ → ℕ → Bool
bad_rank P R v =
    ltb 0 v
    && (leb (children P (parent P v)) (rank R v) || ltb 1 (count (is_child_at P R (parent P v) (rank R v)) (length P)))

-- 7: the parents never lead to node 0
unfoldable pub adrift : List ℕ → ℕ → Bool
adrift P v = ltb 0 v && not (leads P v)

-- every list has n elements
unfoldable pub all_long : ℕ → List (List ℕ) → Bool
all_long n [] = true
all_long n (l ∷ ls) = eqb (length l) n && all_long n ls

-- 1, 2 and 3, which leave the work list alone. long: the lists that are lent besides P and R are n long. work: the
-- length of the work list, whose contents don't matter
unfoldable pub shape_fault : Limits → List ℕ → List ℕ → Bool → ℕ → Option Refusal
shape_fault L P R long work =
    refuse (eqb (length P) 0) 1 0
    or_else refuse (ltb L.nodes (length P)) (number L.many) 0
    or_else refuse (not (eqb (length R) (length P) && (long && eqb work (4 * length P)))) 3 0

unfoldable pub tree_fault : List ℕ → List ℕ → Option Refusal
tree_fault P R =
    refuse (not (eqb (parent P 0) 0 && eqb (rank R 0) 0)) 4 0
    or_else refuse_least 5 (length P) (stray_parent P)
    or_else refuse_least 6 (length P) (bad_rank P R)
    or_else refuse_least 7 (length P) (adrift P)

unfoldable pub table_fault : Limits → List ℕ → List ℕ → Bool → ℕ → Option Refusal
table_fault L P R long work = shape_fault L P R long work or_else tree_fault P R

------------------------------------------------------------------------
-- What a call's contract says

-- Says: the answer and the lists at exit are what the call's definition says
pub record Called (fault : Option Refusal) (W X : List ℕ) (Says : Type 0) : Type 0 where
  pub says : Says
  -- on these refusals the work list, W at entry and X at exit, is left alone
  pub spared : (f : Refusal) → fault ≡ some f → X ≡ W
  pub long : length X ≡ length W
