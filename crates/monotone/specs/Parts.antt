-- The work list while the paths from one node u are followed: each node's cone is that of its path from u, and 0 while
-- that path is not known. What the contracts of the loops cite.
--
--   WithEdges P W       == P is a tree, and W has its edges
--   EdgeTurned n z W X  == X is W with the edge of z turned round
--   TurnedPart P u ..   == the numbers at `at` with those of the edges from u to the root turned round
--   Away P u W X        == the edges of X are those of W, with those from u to the root turned round
--   Turned P u W X      == so they are, and nothing else has changed
--   Said P edge u k v   == k is the cone of the path from u to v
--   Told P edge u W     == every known cone is that of the path from u
--   Row P edge u W      == so it is, and those of u and its ancestors are known
--   Reached P W v       == v's cone is known, or its parent's is
--   ConeKnown P W v X   == X is W with v's cone known, from its parent's
--   ChildrenFirst P W   == the last region is an order in which children come before their parents
--   Climbed P u W X     == X is W with its edges walked away from u, and the cones of u and its ancestors
--   Coned P u W X       == X is W with every cone
--   NearPlaces P c      == c is a coordinate of the nodes, within 2,147,483,647
--   DrawnPart P c at W  == the numbers at `at` are the edges' parts in the coordinate c
--   DrawnEdges P x y W  == the edges are those of a drawing, walked down
--   Found P x y r       == r says whether every pair has a direction, or the first that has none
--   Judged P R x y W    == what the refusals leave
use Rattle.std.specs.Prelude.{true, false, List, ◌≡◌, ℕ, ◌+◌, ◌*◌, ◌≤◌, ◌<◌, length, get_or, set}
use Rattle.laws.specs.Regions.{Only}
use Rattle.table.specs.Table.{parent, under}
use Rattle.table.specs.TableLaws.{Tree}
use Rattle.table.specs.Parts.{Ready}
use Rattle.monotone.specs.declared.Verdict.{Verdict}
use Rattle.monotone.specs.declared.Verdict.TheVariants.{Monotone, Turns, Refused}
use Rattle.monotone.specs.Monotone.{AllDirected, FirstTurn}
use Rattle.monotone.specs.Plane.{Vec}
use Rattle.monotone.specs.PathEdges.{OnPath}
use Rattle.monotone.specs.Cones.{edge_at, SmallEdges, Holds, any, Formed, Grown}

pub record WithEdges (P W : List ℕ) : Type 0 where
  pub ranks : List ℕ
  pub tree : Tree P ranks
  pub edges : SmallEdges (length P) W

------------------------------------------------------------------------
-- SmallEdges walked away from u

pub record EdgeTurned (n z : ℕ) (W X : List ℕ) : Type 0 where
  pub across : get_or X (n + z) 0 + get_or W (n + z) 0 ≡ 4294967296
  pub up : get_or X (2 * n + z) 0 + get_or W (2 * n + z) 0 ≡ 4294967296
  pub others : (k : ℕ) → (k ≡ n + z → ⊥) → (k ≡ 2 * n + z → ⊥) → get_or X k 0 ≡ get_or W k 0
  pub long : length X ≡ length W

pub record TurnedPart (P : List ℕ) (u at : ℕ) (W X : List ℕ) : Type 0 where
  pub turned : (z : ℕ) → 0 < z → z < length P → under P z u ≡ true → get_or X (at + z) 0 + get_or W (at + z) 0 ≡ 4294967296
  pub same : (z : ℕ) → z < length P → (0 < z → under P z u ≡ false) → get_or X (at + z) 0 ≡ get_or W (at + z) 0

pub record Away (P : List ℕ) (u : ℕ) (W X : List ℕ) : Type 0 where
  pub across : TurnedPart P u (length P) W X
  pub up : TurnedPart P u (2 * length P) W X

pub record Turned (P : List ℕ) (u : ℕ) (W X : List ℕ) : Type 0 where
  pub away : Away P u W X
  pub only : Only (length P) (3 * length P) W X

------------------------------------------------------------------------
-- Cones of the paths from u

pub record Said (P : List ℕ) (edge : ℕ → Vec) (u k v : ℕ) : Type 0 where
  pub way : List Vec
  pub path : OnPath P edge u v way
  pub holds : Holds (length P) any edge k way

pub record Told (P : List ℕ) (edge : ℕ → Vec) (u : ℕ) (W : List ℕ) : Type 0 where
  pub said : (v : ℕ) → v < length P → (get_or W v 0 ≡ 0 → ⊥) → Said P edge u (get_or W v 0) v

pub record Row (P : List ℕ) (edge : ℕ → Vec) (u : ℕ) (W : List ℕ) : Type 0 where
  pub told : Told P edge u W
  pub above : (v : ℕ) → v < length P → under P v u ≡ true → get_or W v 0 ≡ 0 → ⊥

pub record Reached (P W : List ℕ) (v : ℕ) : Type 0 where
  pub inside : v < length P
  pub some : get_or W v 0 ≡ 0 → 0 < v
  pub formed : get_or W v 0 ≡ 0 → Formed (length P) (get_or W (parent P v) 0)

pub data ConeKnown (P W : List ℕ) (v : ℕ) (X : List ℕ) : Type 0 where
  known : (get_or W v 0 ≡ 0 → ⊥) → X ≡ W → ConeKnown P W v X
  grown : (r : ℕ) → get_or W v 0 ≡ 0 → Grown (length P) (edge_at (length P) W) (get_or W (parent P v) 0) v r → X ≡ set W v r
      → ConeKnown P W v X

pub record ChildrenFirst (P W : List ℕ) : Type 0 where
  pub number : ℕ → ℕ
  pub inside : (j : ℕ) → j < length P → get_or W (3 * length P + j) 0 < length P
  pub place : (j : ℕ) → j < length P → number (get_or W (3 * length P + j) 0) ≡ j + 1
  pub once : (v w : ℕ) → v < length P → w < length P → number v ≡ number w → v ≡ w
  pub least : (v : ℕ) → v < length P → 1 ≤ number v
  pub most : (v : ℕ) → v < length P → number v ≤ length P
  pub later : (v : ℕ) → 0 < v → v < length P → number v < number (parent P v)

pub record Climbed (P : List ℕ) (u : ℕ) (W X : List ℕ) : Type 0 where
  pub away : Away P u W X
  pub row : Row P (edge_at (length P) X) u X
  pub only : Only 0 (3 * length P) W X

-- the paths are of the edges of the list `turned`, which are walked away from u
pub record Coned (P : List ℕ) (u : ℕ) (W X : List ℕ) : Type 0 where
  pub turned : List ℕ
  pub away : Away P u W turned
  pub said : (v : ℕ) → v < length P → Said P (edge_at (length P) turned) u (get_or X v 0) v
  pub only : Only 0 (length P) W X

------------------------------------------------------------------------
-- Drawings

pub record NearPlaces (P c : List ℕ) : Type 0 where
  pub inside : (v : ℕ) → v < length P → parent P v < length P
  pub long : length c ≡ length P
  pub within : (v : ℕ) → v < length P → get_or c v 0 ≤ 2147483647

pub record DrawnPart (P c : List ℕ) (at : ℕ) (W : List ℕ) : Type 0 where
  pub drawn : (z : ℕ) → z < length P → get_or W (at + z) 0 + get_or c (parent P z) 0 ≡ get_or c z 0 + 2147483648

pub record DrawnEdges (P x y W : List ℕ) : Type 0 where
  pub across : DrawnPart P x (length P) W
  pub up : DrawnPart P y (2 * length P) W

abbrev pub Found : List ℕ → List ℕ → List ℕ → Verdict → Type 0
Found P x y Monotone = AllDirected P x y
Found P x y (Turns u v) = FirstTurn P x y u v
Found P x y (Refused k v) = ⊥

-- what the refusals leave
pub record Judged (P R x y W : List ℕ) : Type 0 where
  pub ready : Ready P R W
  pub few : length P ≤ 65536
  pub across : NearPlaces P x
  pub up : NearPlaces P y
