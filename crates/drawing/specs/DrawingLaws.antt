-- What the test of refusal 8 says of a drawing, and what the frame is.
--
--   Coordinate limit .. part X    == X has a drawing's places in the coordinate that adds up `part`, within the limit
--   Drawn limit P R rule s        == s is a drawing of the table under the rule
--   fits_drawn, drawn_fits        == it is one exactly when every node fits
--   drawn_times                   == times are within the limit too
--   drawn_one                     == times determine a drawing
--   largest_above, largest-found  == the largest of a list is above all, and one of them or 0
--   largest_in                    == of a list that is not empty it is one of them
--   largest-within                == in a coordinate it is within the limit
use Rattle.std.specs.Prelude.{Bool, cond, ◌&&◌, List, [], ◌∷◌, ◌⊎◌, ◌≡◌, ℕ, zero, suc, ◌+◌, ◌*◌, ◌≤◌, ◌<◌, length}
use Rattle.std.proofs.Math.Bool.{true}
use Rattle.std.proofs.Common.{inl, inr, ⊎_elim, sym, subst, ◌∙◌, mul-le-mul_left, arith, ext_get_or}
use Rattle.std.proofs.Math.Path.{refl, ap, subst⁻¹}
use Rattle.std.proofs.Math.Dec.{leb, eqb}
use Rattle.std.proofs.Math.ListN.{get_or}
use borrow.Author.Tests.{eqb-true, eq-eqb, ne_eqb, leb-true, le-leb}
use Rattle.laws.specs.Tests.{by_eq, by_lt, both, both_is}
use Rattle.table.specs.Table.{parent}
use Rattle.table.specs.TableLaws.{Tree}
use Rattle.slopes.specs.declared.Rule.{Rule}
use Rattle.slopes.specs.declared.Slope.{Slope}
use Rattle.slopes.proofs.SlopeLaws.{edge_positive}
use Rattle.slopes.specs.Slopes.{across_of, up_of, edge}
use Rattle.drawing.specs.Drawing.{Drawing, largest, placed, node_fits}
use Rattle.drawing.specs.PathLaws.{Adds, adds_le}

------------------------------------------------------------------------
-- Drawings

-- what times and the part of its slope add to v's place
abbrev pub step_of : List ℕ → List ℕ → Rule → (Slope → ℕ) → List ℕ → ℕ → ℕ
step_of P R rule part times v = get_or times v 0 * part (edge P R rule v)

pub record Coordinate (limit : ℕ) (P R : List ℕ) (rule : Rule) (times : List ℕ) (part : Slope → ℕ)
    (X : List ℕ) : Type 0 where
  pub long : length X ≡ length P
  pub adds : Adds P (step_of P R rule part times) X
  pub within : (v : ℕ) → v < length P → get_or X v 0 ≤ limit

pub record Drawn (limit : ℕ) (P R : List ℕ) (rule : Rule) (s : Drawing) : Type 0 where
  pub long : length s.times ≡ length P
  pub root_once : get_or s.times 0 0 ≡ 1
  pub some : (v : ℕ) → v < length P → 1 ≤ get_or s.times v 0
  pub x : Coordinate limit P R rule s.times across_of s.x
  pub y : Coordinate limit P R rule s.times up_of s.y

pub same_drawing : {s t : Drawing} → s.times ≡ t.times → s.x ≡ t.x → s.y ≡ t.y → s ≡ t
same_drawing p q r = λ i. record { times = p i; x = q i; y = r i }

------------------------------------------------------------------------
-- The test of a node

module _ {A : Type 0} (a b : A) where
  cond_node : (v : ℕ) → 0 < v → cond (eqb v 0) a b ≡ b
  cond_node v l = ap (λ t. cond t a b) (ne_eqb v 0 (λ e. omega arith))

module _ (limit : ℕ) (P R : List ℕ) (rule : Rule) where
  module _ (times : List ℕ) (part : Slope → ℕ) (X : List ℕ) where
    abbrev step : ℕ → ℕ
    step = step_of P R rule part times

    pub placed_root : placed limit P R rule times part X 0 ≡ eqb (get_or X 0 0) 0 && leb (get_or X 0 0) limit
    unfolding placed
    placed_root = refl

    pub placed_node : (v : ℕ) → 0 < v
        → placed limit P R rule times part X v
        ≡ eqb (get_or X v 0) (get_or X (parent P v) 0 + step v) && leb (get_or X v 0) limit
    unfolding placed
    placed_node v a = ap (λ z. eqb (get_or X v 0) z && leb (get_or X v 0) limit) (cond_node 0 _ v a)

    coordinate_placed : Coordinate limit P R rule times part X → (v : ℕ) → v < length P
        → placed limit P R rule times part X v ≡ true
    coordinate_placed c v l =
        by_eq v 0
        (λ e. subst⁻¹ (λ z. placed limit P R rule times part X z ≡ true) e
        (placed_root ∙ both_is (eq-eqb (get_or X 0 0) 0 c.adds.root)
        (le-leb (get_or X 0 0) limit (omega arith))))
        (λ ne.
        let a : 0 < v = omega arith in
        placed_node v a
        ∙ both_is (eq-eqb (get_or X v 0) _ (c.adds.at v a l)) (le-leb (get_or X v 0) limit (c.within v l)))

    placed_coordinate : 0 < length P → length X ≡ length P
        → ((v : ℕ) → v < length P → placed limit P R rule times part X v ≡ true)
        → Coordinate limit P R rule times part X
    placed_coordinate n long all =
        let root = both (eqb (get_or X 0 0) 0) (leb (get_or X 0 0) limit) (sym placed_root ∙ all 0 n) in
        let zero : get_or X 0 0 ≡ 0 = eqb-true (get_or X 0 0) 0 root.0 in
        record {
          long = long;
          adds = record { root = zero; at = λ v a l. eqb-true (get_or X v 0) _ (node v a l).0 };
          within = λ v l. by_eq v 0 (λ e. omega (arith, ap (λ z. get_or X z 0) e))
              (λ ne. leb-true (get_or X v 0) limit (node v (omega arith) l).1);
        }
      where
        node : (v : ℕ) → 0 < v → v < length P
            → (eqb (get_or X v 0) (get_or X (parent P v) 0 + step v) ≡ true) × (leb (get_or X v 0) limit ≡ true)
        node v a l = both _ _ (sym (placed_node v a) ∙ all v l)

  module _ (s : Drawing) where
    unfoldable pub both_placed : ℕ → Bool
    both_placed v = placed limit P R rule s.times across_of s.x v && placed limit P R rule s.times up_of s.y v

    pub fits_root : node_fits limit P R rule s 0 ≡ eqb (get_or s.times 0 0) 1 && both_placed 0
    unfolding node_fits both_placed
    fits_root = refl

    pub fits_node : (v : ℕ) → 0 < v
        → node_fits limit P R rule s v
        ≡ leb 1 (get_or s.times v 0)
        && (placed limit P R rule s.times across_of s.x v && placed limit P R rule s.times up_of s.y v)
    unfolding node_fits
    fits_node v a =
        ap (λ b. b && (placed limit P R rule s.times across_of s.x v
        && placed limit P R rule s.times up_of s.y v))
        (cond_node _ _ v a)

    pub drawn_fits : Drawn limit P R rule s → (v : ℕ) → v < length P → node_fits limit P R rule s v ≡ true
    unfolding both_placed
    drawn_fits d v l =
        by_eq v 0
        (λ e. subst⁻¹ (λ z. node_fits limit P R rule s z ≡ true) e
        (fits_root ∙ both_is (eq-eqb (get_or s.times 0 0) 1 d.root_once)
        (subst (λ z. both_placed z ≡ true) e there)))
        (λ ne. fits_node v (omega arith) ∙ both_is (le-leb 1 (get_or s.times v 0) (d.some v l)) there)
      where
        there : both_placed v ≡ true
        there = both_is (coordinate_placed s.times across_of s.x d.x v l)
            (coordinate_placed s.times up_of s.y d.y v l)

    pub fits_drawn : 0 < length P → length s.times ≡ length P → length s.x ≡ length P → length s.y ≡ length P
        → ((v : ℕ) → v < length P → node_fits limit P R rule s v ≡ true) → Drawn limit P R rule s
    unfolding both_placed
    fits_drawn n long_times long_x long_y all =
        let once : get_or s.times 0 0 ≡ 1 = eqb-true (get_or s.times 0 0) 1 root.0 in
        record {
          long = long_times;
          root_once = once;
          some = λ v l. by_eq v 0 (λ e. omega (arith, ap (λ z. get_or s.times z 0) e))
              (λ ne. leb-true 1 (get_or s.times v 0) (node v (omega arith) l).0);
          x = placed_coordinate s.times across_of s.x n long_x (λ v l. (there v l).0);
          y = placed_coordinate s.times up_of s.y n long_y (λ v l. (there v l).1);
        }
      where
        root : (eqb (get_or s.times 0 0) 1 ≡ true) × (both_placed 0 ≡ true)
        root = both _ _ (sym fits_root ∙ all 0 n)

        node : (v : ℕ) → 0 < v → v < length P → (leb 1 (get_or s.times v 0) ≡ true) × (both_placed v ≡ true)
        node v a l = both _ _ (sym (fits_node v a) ∙ all v l)

        there : (v : ℕ) → v < length P
            → (placed limit P R rule s.times across_of s.x v ≡ true)
            × (placed limit P R rule s.times up_of s.y v ≡ true)
        there v l =
            both _ _
            (by_eq v 0 (λ e. subst⁻¹ (λ z. both_placed z ≡ true) e root.1) (λ ne. (node v (omega arith) l).1))

-- slopes go across, so times are within the limit too
pub drawn_times : {limit : ℕ} {P R : List ℕ} {rule : Rule} {s : Drawing} → Tree P R → Drawn limit P R rule s
    → (v : ℕ) → 0 < v → v < length P → get_or s.times v 0 ≤ limit
drawn_times {rule = rule} {s} tree d v a l =
    let across = (edge_positive tree rule v a l).0 in
    omega (arith, mul-le-mul_left (get_or s.times v 0) across, d.x.adds.at v a l, d.x.within v l)

module _ {P R : List ℕ} (tree : Tree P R) {limit : ℕ} {rule : Rule} where
  coordinate_one : {S T : List ℕ} {part : Slope → ℕ} {X Y : List ℕ} → Coordinate limit P R rule S part X
      → Coordinate limit P R rule T part Y → ((z : ℕ) → z < length P → get_or S z 0 ≡ get_or T z 0) → X ≡ Y
  coordinate_one {S} {T} {part} {X} {Y} a b same =
      ext_get_or 0 X Y (a.long ∙ sym b.long)
      (λ i h.
      let inside : i < length P = omega (arith, a.long) in
      omega (
        arith,
        adds_le tree a.adds b.adds (λ z p l. omega (arith, step z l)) i inside,
        adds_le tree b.adds a.adds (λ z p l. omega (arith, step z l)) i inside,
      ))
    where
      step : (z : ℕ) → z < length P → step_of P R rule part S z ≡ step_of P R rule part T z
      step z l = ap (λ k. k * part (edge P R rule z)) (same z l)

  pub drawn_one : {s t : Drawing} → Drawn limit P R rule s → Drawn limit P R rule t
      → ((z : ℕ) → z < length P → get_or s.times z 0 ≡ get_or t.times z 0) → s ≡ t
  drawn_one {s} {t} a b same =
      same_drawing
      (ext_get_or 0 s.times t.times (a.long ∙ sym b.long) (λ i h. same i (omega (arith, a.long))))
      (coordinate_one a.x b.x same) (coordinate_one a.y b.y same)

------------------------------------------------------------------------
-- The frame

pub largest_above : (l : List ℕ) (k : ℕ) → k < length l → get_or l k 0 ≤ largest l
unfolding largest
largest_above [] k h = absurd (omega arith)
largest_above (a ∷ l) zero h = omega arith
largest_above (a ∷ l) (suc k) h = omega (arith, largest_above l k (omega arith))

pub largest-found : (l : List ℕ) → (largest l ≡ 0) ⊎ ((k : ℕ) × (k < length l) × (get_or l k 0 ≡ largest l))
unfolding largest
largest-found [] = inl refl
largest-found (a ∷ l) =
    by_lt a (largest l)
    (λ h. ⊎_elim (λ e. inl (omega arith))
    (λ (f : (k : ℕ) × (k < length l) × (get_or l k 0 ≡ largest l)).
    inr (suc f.0, omega arith, omega arith))
    (largest-found l))
    (λ h. inr (0, omega arith, omega arith))

pub largest_in : (l : List ℕ) → 0 < length l → (k : ℕ) × (k < length l) × (get_or l k 0 ≡ largest l)
largest_in l some =
    ⊎_elim (λ e. (0, some, omega (arith, largest_above l 0 some)))
    (λ (f : (k : ℕ) × (k < length l) × (get_or l k 0 ≡ largest l)). f) (largest-found l)

pub largest-within : {limit : ℕ} {P R : List ℕ} {rule : Rule} {times : List ℕ} {part : Slope → ℕ} {X : List ℕ}
    → Coordinate limit P R rule times part X → largest X ≤ limit
largest-within {X = X} c =
    ⊎_elim (λ e. omega arith)
    (λ (f : (k : ℕ) × (k < length X) × (get_or X k 0 ≡ largest X)).
    omega (arith, c.within f.0 (omega (arith, f.1, c.long)), f.2))
    (largest-found X)
