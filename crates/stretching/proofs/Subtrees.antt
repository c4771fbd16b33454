-- A subtree, node by node in the order of the numbers, from its first to its last: what is tested, or moved, up to
-- number j.
use mathlib.Core.Bool.{Bool, true, false}
use mathlib.Core.List.{List}
use mathlib.Core.Path.{◌≡◌, refl, sym, ap, subst⁻¹, ◌∙◌}
use Prim.Native.Nat.{ℕ, ◌+◌, ◌-◌, ◌*◌, ◌^◌, ◌≤◌, ◌<◌}
use native.Mathlib.Omega.{arith}
use lib.ListN.{length, get_or, set, length-set}
use lib.Seq.{ext_get_or}
use Rattle.laws.specs.Regions.{read_set}
use Rattle.laws.specs.Tests.{by_test, by_eq, differ}
use Rattle.table.specs.Numbering.{NumberedTree}
use Rattle.table.proofs.NumberingLaws.{numbering, number_at, first_is, in_subtree}
use Rattle.table.specs.Table.{under, order, post_number, first_number}
use Rattle.stretching.specs.Stretching.{moved}
use Rattle.stretching.specs.Parts.{by, Passes, Movable}
use Rattle.stretching.proofs.StretchLaws.{moved_long, moved_in, moved_out}

-- the nodes of v's subtree up to number j are passed, those up to `last` are left
pub record Walk (P R W : List ℕ) (v last j : ℕ) : Type 0 where
  pub numbered : NumberedTree P R W
  pub inside : v < length P
  pub low : first_number P R v ≤ j + 1
  pub end : last ≡ post_number P R v
  pub most : last ≤ length P

-- z has number j + 1 and is in v's subtree
pub record Visit (P R : List ℕ) (v j z : ℕ) : Type 0 where
  pub inside : z < length P
  pub number : post_number P R z ≡ j + 1
  pub under_v : under P v z ≡ true

pub first_some : {P R W : List ℕ} → NumberedTree P R W → (v : ℕ) → v < length P → {first : ℕ}
    → first ≡ get_or W (2 * length P + v) 0 → 1 ≤ first
first_some t v l e = omega (arith, t.numbers.first v l, first_is t.tree v l)

walk_start : {P R W : List ℕ} → NumberedTree P R W → (v : ℕ) → v < length P → {last first : ℕ} → last ≡ get_or W v 0
    → first ≡ get_or W (2 * length P + v) 0 → Walk P R W v last (first - 1)
walk_start {P} {R} {W} t v l e f =
    let end = e ∙ t.numbers.last v l in
    record {
      numbered = t;
      inside = l;
      low = omega (arith, t.numbers.first v l);
      end = end;
      most = omega (arith, (numbering t.tree).to_n v l);
    }

module _ {P R W : List ℕ} {v last j : ℕ} (k : Walk P R W v last j) where
  -- a node of the subtree has a number from the first to the last
  first_under : (w : ℕ) → w < length P → under P v w ≡ true → first_number P R v ≤ post_number P R w
  first_under w l u = ((in_subtree k.numbered.tree v w k.inside l).0 u).0

  last_under : (w : ℕ) → w < length P → under P v w ≡ true → post_number P R w ≤ last
  last_under w l u = omega (arith, ((in_subtree k.numbered.tree v w k.inside l).0 u).1, k.end)

  walk_step : j < last → Walk P R W v last (j + 1)
  walk_step h = record {
    numbered = k.numbered;
    inside = k.inside;
    low = omega arith;
    end = k.end;
    most = k.most;
  }

  -- the node at place j of the order
  pub walk_node : {z : ℕ} → j < last → z ≡ get_or W (3 * length P + j) 0 → Visit P R v j z
  walk_node {z} h is =
      let t = k.numbered in
      let at = number_at t.tree j (omega arith) in
      let node : z ≡ get_or (order P R) j 0 = is ∙ t.numbers.node j (omega arith) in
      let inside : z < length P = omega arith in
      let number : post_number P R z ≡ j + 1 = ap (post_number P R) node ∙ at.1 in
      record {
        inside = inside;
        number = number;
        under_v = (in_subtree t.tree v z k.inside inside).1 (omega arith, omega arith);
      }

  -- only that node has its number
  other : {z : ℕ} → Visit P R v j z → (w : ℕ) → w < length P → (w ≡ z → ⊥) → post_number P R w ≡ j + 1 → ⊥
  other {z} x w lw ne e = ne ((numbering k.numbered.tree).once w z lw x.inside (e ∙ sym x.number))

------------------------------------------------------------------------
-- Testing the subtree

-- up to number j no place is beyond the limit
pub record Clear (limit : ℕ) (P R W X : List ℕ) (v d last j : ℕ) : Type 0 where
  pub walk : Walk P R W v last j
  pub long : length X ≡ length P
  pub before : (w : ℕ) → w < length P → under P v w ≡ true → post_number P R w ≤ j → get_or X w 0 + d ≤ limit

pub clear_start : (limit : ℕ) {P R W X : List ℕ} (v d : ℕ) {last first : ℕ} → NumberedTree P R W → length X ≡ length P
    → v < length P → last ≡ get_or W v 0 → first ≡ get_or W (2 * length P + v) 0 → Clear limit P R W X v d last (first - 1)
clear_start limit v d t long l e f =
    let k = walk_start t v l e f in
    let some = first_some t v l f in
    record {
      walk = k;
      long = long;
      before = λ w lw u h. absurd (omega (arith, first_under k w lw u, t.numbers.first v l));
    }

module _ {limit : ℕ} {P R W X : List ℕ} {v d last j : ℕ} (c : Clear limit P R W X v d last j) where
  pub clear_step : {z a : ℕ} → j < last → Visit P R v j z → a ≡ get_or X z 0 → a + d ≤ limit
      → Clear limit P R W X v d last (j + 1)
  clear_step {z} l x e h = record {
    walk = walk_step c.walk l;
    long = c.long;
    before = λ w lw u g. by_eq w z (λ q. omega (arith, ap (λ k. get_or X k 0) q))
        (λ ne. let off : post_number P R w ≡ j + 1 → ⊥ = other c.walk x w lw ne in c.before w lw u (omega arith));
  }

  pub clear_end : last ≤ j → Passes limit P X v d false
  clear_end h = record {
    yes = λ q. absurd (differ q refl);
    no = λ q w lw u. c.before w lw u (omega (arith, last_under c.walk w lw u));
  }

pub passes_yes : {limit : ℕ} {P R X : List ℕ} {v d j z a : ℕ} → Visit P R v j z → a ≡ get_or X z 0 → limit < a + d
    → Passes limit P X v d true
passes_yes {z = z} x e h =
    record { yes = λ q. (z, x.inside, x.under_v, omega arith); no = λ q. absurd (differ refl q) }

------------------------------------------------------------------------
-- Moving the subtree

-- up to number j the places are moved
pub record Moving (P R W X : List ℕ) (v d : ℕ) (longer : Bool) (Y : List ℕ) (last j : ℕ) : Type 0 where
  pub walk : Walk P R W v last j
  pub can : Movable P X v d longer
  pub long : length Y ≡ length P
  pub before : (w : ℕ) → w < length P → under P v w ≡ true → post_number P R w ≤ j
      → get_or Y w 0 ≡ by longer (get_or X w 0) d
  pub after : (w : ℕ) → w < length P → (under P v w ≡ true → j < post_number P R w) → get_or Y w 0 ≡ get_or X w 0

pub moving_start : {P R W X : List ℕ} {v d : ℕ} {longer : Bool} {last first : ℕ} → NumberedTree P R W
    → Movable P X v d longer → v < length P → last ≡ get_or W v 0 → first ≡ get_or W (2 * length P + v) 0
    → Moving P R W X v d longer X last (first - 1)
moving_start {v = v} t can l e f =
    let k = walk_start t v l e f in
    let some = first_some t v l f in
    record {
      walk = k;
      can = can;
      long = can.long;
      before = λ w lw u h. absurd (omega (arith, first_under k w lw u, t.numbers.first v l));
      after = λ w lw u. refl;
    }

-- the number that is written fits
movable_fits : {P X : List ℕ} {v d : ℕ} {longer : Bool} → Movable P X v d longer → (z a : ℕ) → z < length P
    → under P v z ≡ true → a ≡ get_or X z 0 → a < 2 ^ 32 → by longer a d < 2 ^ 32
movable_fits {longer = true} m z a l u e h = omega (arith, m.on refl z l u)
movable_fits {longer = false} m z a l u e h = omega arith

module _ {P R W X : List ℕ} {v d : ℕ} {longer : Bool} {Y : List ℕ} {last j : ℕ}
    (m : Moving P R W X v d longer Y last j) where
  moving_here : {z a : ℕ} → Visit P R v j z → a ≡ get_or Y z 0 → a ≡ get_or X z 0
  moving_here {z} x e = e ∙ m.after z x.inside (λ u. omega arith)

  -- the sum or difference is one of 64 bits, and the place one of 32
  pub moving_can : {z a : ℕ} → Visit P R v j z → a ≡ get_or Y z 0
      → (longer ≡ true → a + d < 2 ^ 64) × (longer ≡ false → d ≤ a)
  moving_can {z} x e =
      let here = moving_here x e in (
        λ t. omega (arith, m.can.on t z x.inside x.under_v),
        λ f. omega (arith, m.can.back f z x.inside x.under_v),
      )

  pub moving_fits : {z a : ℕ} → Visit P R v j z → a ≡ get_or Y z 0 → a < 2 ^ 32 → by longer a d < 2 ^ 32
  moving_fits {z} {a} x e h = movable_fits m.can z a x.inside x.under_v (moving_here x e) h

  pub moving_step : {z a b : ℕ} {Z : List ℕ} → j < last → Visit P R v j z → a ≡ get_or Y z 0 → b ≡ by longer a d
      → Z ≡ set Y z b
      → Moving P R W X v d longer Z last (j + 1)
  moving_step {z} {a} {b} {Z} l x e is q = record {
    walk = walk_step m.walk l;
    can = m.can;
    long = ap length q ∙ length-set Y z b ∙ m.long;
    before = λ w lw u g. ap (λ (l : List ℕ). get_or l w 0) q
        ∙ read_set Y z w b (by longer (get_or X w 0) d) (omega arith)
        (λ s. is ∙ ap (λ k. by longer k d) (moving_here x e ∙ ap (λ k. get_or X k 0) (sym s)))
        (λ ne. let off : post_number P R w ≡ j + 1 → ⊥ = other m.walk x w lw ne in m.before w lw u (omega arith));
    after = λ w lw u. ap (λ (l : List ℕ). get_or l w 0) q
        ∙ read_set Y z w b (get_or X w 0) (omega arith)
        (λ s. absurd (omega (
          arith,
          x.number,
          ap (post_number P R) s,
          u (subst⁻¹ (λ k. under P v k ≡ true) s x.under_v),
        )))
        (λ ne. m.after w lw (λ g. omega (arith, u g)));
  }

  pub moving_end : last ≤ j → Y ≡ moved P (λ a. by longer a d) v X
  moving_end h =
      ext_get_or 0 Y (moved P (λ a. by longer a d) v X) (m.long ∙ sym (moved_long P (λ a. by longer a d) v X))
      (λ i l. let li : i < length P = omega arith in
      by_test (under P v i)
      (λ u. m.before i li u (omega (arith, last_under m.walk i li u))
      ∙ sym (moved_in P (λ a. by longer a d) v X i li u))
      (λ u. m.after i li (λ g. absurd (differ g u)) ∙ sym (moved_out P (λ a. by longer a d) v X i li u)))
