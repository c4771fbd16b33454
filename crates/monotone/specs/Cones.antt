-- Cones in the work list, which is four regions of n numbers: the cone of each node, the part across and the part up of
-- its edge, and the post-order. What the contracts of the inner functions cite.
--
--   vec u                 == a vector of the code as a vector of the plane
--   SmallPart z           == a difference of two places of 0 to 2,147,483,647
--   Near u                == both parts of u are small
--   After m lo hi u us    == what is left of a cone where a move says m
--   RightMove lo hi u m   == a move is right
--   part_at W i            == the number at i as a part of a vector; it is stored with 2,147,483,648 added
--   edge_at n W z          == the vector of the edge of node z
--   SmallEdges n W        == the nodes from 1 on have edges with small parts
--   ConePair n k          == k is a cone of two edges: the one clockwise of the other times 65,536, and that other
--   Holds n side edge ..  == k stands for the vectors us: 1 for none, 2 where no half plane holds them, or the pair of
--                            their cone, whose two edges pass the test `side`
--   any                   == every edge may be a side
--   Formed n k            == k is 1, 2 or a pair
--   Alone z e r           == r stands for one vector, the edge e of z
--   Growing n W k z       == k is a cone, to which the edge of z is to be added
--   Grown n edge k z r    == r stands for one vector more than k, the edge of z
use Rattle.std.specs.Prelude.{Bool, true, List, [], ◌∷◌, ◌≡◌, ℕ, ◌+◌, ◌*◌, ◌/◌, ◌%◌, ◌≤◌, ◌<◌, ℤ, pos, nat_abs, ◌-ℤ◌}
use Rattle.std.specs.Prelude.{get_or, length}
use Rattle.monotone.specs.declared.Vector.{Vector}
use Rattle.monotone.specs.declared.Move.{Move}
use Rattle.monotone.specs.declared.Move.TheVariants.{Keep, High, Low, Never}
use Rattle.monotone.specs.Plane.{Vec, Cone, HasHalfPlane}

------------------------------------------------------------------------
-- Vectors

abbrev pub vec : Vector → Vec
vec u = record { across = u.across; up = u.up }

abbrev pub SmallPart : ℤ → Type 0
SmallPart z = nat_abs z ≤ 2147483647

pub record Near (u : Vector) : Type 0 where
  pub across_near : SmallPart u.across
  pub up_near : SmallPart u.up

abbrev pub After : Move → Vec → Vec → Vec → List Vec → Type 0
After Keep lo hi u us = Cone lo hi (u ∷ us)
After High lo hi u us = Cone lo u (u ∷ us)
After Low lo hi u us = Cone u hi (u ∷ us)
After Never lo hi u us = HasHalfPlane (u ∷ us) → ⊥

pub record RightMove (lo hi u : Vec) (m : Move) : Type 0 where
  pub after : (us : List Vec) → Cone lo hi us → After m lo hi u us

------------------------------------------------------------------------
-- SmallEdges

abbrev pub part_at : List ℕ → ℕ → ℤ
part_at W i = pos (get_or W i 0) -ℤ pos 2147483648

abbrev pub edge_at : ℕ → List ℕ → ℕ → Vec
edge_at n W z = record { across = part_at W (n + z); up = part_at W (2 * n + z) }

-- the number of a small part
pub record Part (k : ℕ) : Type 0 where
  pub least : 1 ≤ k
  pub most : k < 4294967296

pub record SmallEdges (n : ℕ) (W : List ℕ) : Type 0 where
  pub few : n ≤ 65536
  pub long : length W ≡ 4 * n
  pub across : (z : ℕ) → 0 < z → z < n → Part (get_or W (n + z) 0)
  pub up : (z : ℕ) → 0 < z → z < n → Part (get_or W (2 * n + z) 0)

------------------------------------------------------------------------
-- Cones

pub record ConePair (n k : ℕ) : Type 0 where
  pub low : 0 < k / 65536
  pub low_in : k / 65536 < n
  pub high : 0 < k % 65536
  pub high_in : k % 65536 < n

pub data Holds (n : ℕ) (side : ℕ → Bool) (edge : ℕ → Vec) (k : ℕ) (us : List Vec) : Type 0 where
  empty : k ≡ 1 → us ≡ [] → Holds n side edge k us
  shut : k ≡ 2 → (HasHalfPlane us → ⊥) → Holds n side edge k us
  wide : ConePair n k → side (k / 65536) ≡ true → side (k % 65536) ≡ true → Cone (edge (k / 65536)) (edge
      (k % 65536)) us
      → Holds n side edge k us

abbrev pub any : ℕ → Bool
any z = true

pub record Formed (n k : ℕ) : Type 0 where
  pub some : k ≡ 0 → ⊥
  pub pair : (k ≡ 1 → ⊥) → (k ≡ 2 → ⊥) → ConePair n k

-- 2 for a zero vector, else the pair of the edge and itself
pub data Alone (z : ℕ) (e : Vec) (r : ℕ) : Type 0 where
  none : (e.across ≡ pos 0) × (e.up ≡ pos 0) → r ≡ 2 → Alone z e r
  one : ((e.across ≡ pos 0) × (e.up ≡ pos 0) → ⊥) → r ≡ z * 65536 + z → Alone z e r

pub record Growing (n : ℕ) (W : List ℕ) (k z : ℕ) : Type 0 where
  pub edges : SmallEdges n W
  pub some : 0 < z
  pub inside : z < n
  pub formed : Formed n k

pub record Grown (n : ℕ) (edge : ℕ → Vec) (k z r : ℕ) : Type 0 where
  pub holds : (side : ℕ → Bool) → side z ≡ true → (us : List Vec)
      → Holds n side edge k us → Holds n side edge r (edge z ∷ us)
  pub formed : Formed n r
  pub fits : r < 4294967296
