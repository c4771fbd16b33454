-- A stretched drawing: longer and shorter drawings are stretches, and each determines the other.
--
--   stretch_counts          == a stretched edge gets the count, and no other anything
--   stretch_adds            == a coordinate of the longer drawing adds up its steps if that of the other does
--   longer_stretch, shorter_stretch == lengthen takes s to t, and shorten t to s
--   stretch_drawn, unstretch_drawn  == either is a drawing if the other is
--   stretch_one, unstretch_one      == either is determined by the other
use Rattle.std.specs.Prelude.{true, false, cond, List, ◌≡◌, refl, ℕ, ◌+◌, ◌-◌, ◌*◌, ◌≤◌, ◌<◌, eqb, length, get_or}
use Rattle.std.proofs.Math.Path.{sym, subst⁻¹}
use Rattle.std.proofs.Common.{ap, subst, ◌∙◌, mul-le-mul_right, arith, ext_get_or, eq-eqb, ne_eqb}
use Rattle.std.proofs.Math.ListN.{length-set}
use Rattle.std.proofs.Math.Seq.{get_or-set_same, get_or-set_other}
use Rattle.laws.specs.SearchLaws.{length-tabulate, get_d_tabulate}
use Rattle.laws.specs.Tests.{by_test, by_eq, differ}
use Rattle.table.specs.Ancestry.{under_refl, under_parent, under_trans, under_antisym, under_root, under_on}
use Rattle.table.proofs.NumberingLaws.{numbering}
use Rattle.table.specs.Table.{parent, under, post_number}
use Rattle.table.specs.TableLaws.{Tree}
use Rattle.slopes.specs.declared.Rule.{Rule}
use Rattle.slopes.specs.declared.Slope.{Slope}
use Rattle.slopes.specs.Slopes.{across_of, up_of, edge}
use Rattle.drawing.specs.Drawing.{Drawing}
use Rattle.drawing.specs.DrawingLaws.{step_of, Coordinate, Drawn, same_drawing}
use Rattle.drawing.specs.PathLaws.{Adds, adds-under}
use Rattle.stretching.specs.Stretching.{moved, stretched}
use Rattle.stretching.specs.Stretches.{Moved, Stretch, longer, offset, shorter}

pub offset_in : (P : List ℕ) (v d z : ℕ) → under P v z ≡ true → offset P v d z ≡ d
unfolding offset
offset_in P v d z t = ap (λ b. cond b d 0) t

pub offset_out : (P : List ℕ) (v d z : ℕ) → under P v z ≡ false → offset P v d z ≡ 0
unfolding offset
offset_out P v d z t = ap (λ b. cond b d 0) t

module _ {P R : List ℕ} (tree : Tree P R) where
  -- a node is not in the subtree of its child
  pub parent_out : (v : ℕ) → 0 < v → v < length P → under P v (parent P v) ≡ false
  parent_out v a l =
      by_test (under P v (parent P v))
      (λ t. absurd (omega (
        arith,
        (numbering tree).parent_later v a l,
        ap (post_number P R) (under_antisym tree v (parent P v) l (tree.inside v l) t (under_parent tree v l)),
      )))
      (λ t. t)

  pub root_out : (v : ℕ) → 0 < v → v < length P → under P v 0 ≡ false
  root_out v a l =
      by_test (under P v 0)
      (λ t. absurd (omega (arith, under_antisym tree v 0 l tree.some t (under_root tree v l))))
      (λ t. t)

  -- a node outside a subtree has its parent outside
  pub outside_on : (v z : ℕ) → v < length P → z < length P → under P v z ≡ false → under P v (parent P z) ≡ false
  outside_on v z lv lz f =
      by_test (under P v (parent P z))
      (λ t. absurd (differ (under_trans tree v (parent P z) z lz t (under_parent tree z lz)) f))
      (λ t. t)

  -- from parent to node the offset changes at v alone
  pub offset_step : (v d z : ℕ) → 0 < v → v < length P → 0 < z → z < length P
      → (z ≡ v → offset P v d z ≡ offset P v d (parent P z) + d)
      × ((z ≡ v → ⊥) → offset P v d z ≡ offset P v d (parent P z))
  offset_step v d z av lv az lz = (
    λ e. subst⁻¹ (λ w. offset P v d w ≡ offset P v d (parent P w) + d) e
        (omega (arith, offset_in P v d v (under_refl tree v lv), offset_out P v d (parent P v) (parent_out v av lv))),
    λ ne. by_test (under P v z)
        (λ t. offset_in P v d z t ∙ sym (offset_in P v d (parent P z) (under_on tree v z lz t ne)))
        (λ f. offset_out P v d z f ∙ sym (offset_out P v d (parent P z) (outside_on v z lv lz f))),
  )

pub moved_long : (P : List ℕ) (move : ℕ → ℕ) (v : ℕ) (X : List ℕ) → length (moved P move v X) ≡ length P
unfolding moved
moved_long P move v X = length-tabulate (length P) _

pub moved_in : (P : List ℕ) (move : ℕ → ℕ) (v : ℕ) (X : List ℕ) (z : ℕ) → z < length P → under P v z ≡ true
    → get_or (moved P move v X) z 0 ≡ move (get_or X z 0)
unfolding moved
moved_in P move v X z l t = get_d_tabulate (length P) _ z l ∙ ap (λ b. cond b (move (get_or X z 0)) (get_or X z 0)) t

pub moved_out : (P : List ℕ) (move : ℕ → ℕ) (v : ℕ) (X : List ℕ) (z : ℕ) → z < length P → under P v z ≡ false
    → get_or (moved P move v X) z 0 ≡ get_or X z 0
unfolding moved
moved_out P move v X z l f = get_d_tabulate (length P) _ z l ∙ ap (λ b. cond b (move (get_or X z 0)) (get_or X z 0)) f

-- on by d
pub moved_on : (P : List ℕ) (v d : ℕ) (X : List ℕ) → length X ≡ length P → Moved P v d X (moved P (λ a. a + d) v X)
moved_on P v d X long = record {
  from_long = long;
  to_long = moved_long P (λ a. a + d) v X;
  at = λ z l. by_test (under P v z)
      (λ t. moved_in P (λ a. a + d) v X z l t ∙ omega (arith, offset_in P v d z t))
      (λ f. moved_out P (λ a. a + d) v X z l f ∙ omega (arith, offset_out P v d z f));
}

-- back by d, where there is as much
pub moved_back : (P : List ℕ) (v d : ℕ) (Y : List ℕ) → length Y ≡ length P
    → ((z : ℕ) → z < length P → under P v z ≡ true → d ≤ get_or Y z 0) → Moved P v d (moved P (λ a. a - d) v Y) Y
moved_back P v d Y long room = record {
  from_long = moved_long P (λ a. a - d) v Y;
  to_long = long;
  at = λ z l. by_test (under P v z)
      (λ t. omega (arith, moved_in P (λ a. a - d) v Y z l t, offset_in P v d z t, room z l t))
      (λ f. omega (arith, moved_out P (λ a. a - d) v Y z l f, offset_out P v d z f));
}

module _ {P : List ℕ} {v d : ℕ} where
  pub moved-one : {X Y Z : List ℕ} → Moved P v d X Y → Moved P v d X Z → Y ≡ Z
  moved-one {X} {Y} {Z} m w =
      ext_get_or 0 Y Z (m.to_long ∙ sym w.to_long)
      (λ i h. m.at i (omega arith) ∙ sym (w.at i (omega arith)))

  pub unmoved_one : {X Y Z : List ℕ} → Moved P v d X Z → Moved P v d Y Z → X ≡ Y
  unmoved_one {X} {Y} {Z} m w =
      ext_get_or 0 X Y (m.from_long ∙ sym w.from_long)
      (λ i h. omega (arith, m.at i (omega arith), w.at i (omega arith)))

-- the one coordinate adds up its steps exactly when the other adds up the steps with d more at v
module _ {P R : List ℕ} (tree : Tree P R) {v d : ℕ} (av : 0 < v) (lv : v < length P) {X Y : List ℕ}
    (m : Moved P v d X Y)
    (g h : ℕ → ℕ) (here : h v ≡ g v + d) (other : (z : ℕ) → z < length P → (z ≡ v → ⊥) → h z ≡ g z) where
  balance : (z : ℕ) → 0 < z → z < length P → offset P v d z + g z ≡ offset P v d (parent P z) + h z
  balance z az lz =
      let o = offset_step tree v d z av lv az lz in
      by_eq z v (λ e. omega (arith, o.0 e, ap g e, ap h e)) (λ ne. omega (arith, o.1 ne, other z lz ne))

  root_same : get_or Y 0 0 ≡ get_or X 0 0
  root_same = omega (arith, m.at 0 tree.some, offset_out P v d 0 (root_out tree v av lv))

  pub moved-adds : Adds P g X → Adds P h Y
  moved-adds a = record {
    root = root_same ∙ a.root;
    at = λ z az lz. omega (arith, m.at z lz, m.at (parent P z) (tree.inside z lz), balance z az lz, a.at z az lz);
  }

  pub unmoved_adds : Adds P h Y → Adds P g X
  unmoved_adds a = record {
    root = sym root_same ∙ a.root;
    at = λ z az lz. omega (arith, m.at z lz, m.at (parent P z) (tree.inside z lz), balance z az lz, a.at z az lz);
  }

module _ {P R : List ℕ} {rule : Rule} {v c : ℕ} where
  pub longer_stretch : {limit : ℕ} {s : Drawing} → Drawn limit P R rule s → v < length P
      → Stretch P R rule v c s (longer P R rule s v c)
  unfolding stretched
  longer_stretch {s = s} d lv = record {
    from_long = d.long;
    to_long = length-set s.times v (get_or s.times v 0 + c) ∙ d.long;
    here = get_or-set_same s.times v (get_or s.times v 0 + c) 0 (omega arith);
    other = λ z lz ne. get_or-set_other s.times v z (get_or s.times v 0 + c) 0 ne;
    x = moved_on P v (c * across_of (edge P R rule v)) s.x d.x.long;
    y = moved_on P v (c * up_of (edge P R rule v)) s.y d.y.long;
  }

  -- two drawings that are stretched to one, or from one, are one
  pub stretch_one : {s t u : Drawing} → v < length P → Stretch P R rule v c s t → Stretch P R rule v c s u → t ≡ u
  stretch_one {s} {t} {u} lv a b =
      same_drawing
      (ext_get_or 0 t.times u.times (a.to_long ∙ sym b.to_long)
      (λ i h. by_eq i v
      (λ e. ap (λ z. get_or t.times z 0) e ∙ a.here ∙ sym b.here ∙ ap (λ z. get_or u.times z 0) (sym e))
      (λ ne. a.other i (omega arith) ne ∙ sym (b.other i (omega arith) ne))))
      (moved-one a.x b.x) (moved-one a.y b.y)

  pub unstretch_one : {s t u : Drawing} → v < length P → Stretch P R rule v c s u → Stretch P R rule v c t u → s ≡ t
  unstretch_one {s} {t} {u} lv a b =
      same_drawing
      (ext_get_or 0 s.times t.times (a.from_long ∙ sym b.from_long)
      (λ i h. by_eq i v
      (λ e. omega (arith, ap (λ z. get_or s.times z 0) e, ap (λ z. get_or t.times z 0) e, a.here, b.here))
      (λ ne. sym (a.other i (omega arith) ne) ∙ b.other i (omega arith) ne)))
      (unmoved_one a.x b.x) (unmoved_one a.y b.y)

  module _ {s t : Drawing} (m : Stretch P R rule v c s t) where
    pub stretch_counts : (z : ℕ) → z < length P
        → get_or t.times z 0 ≡ get_or s.times z 0 + cond (eqb v z) c 0
    stretch_counts z l =
        by_eq v z
        (λ e. rw (eq-eqb v z e) (subst (λ (w : ℕ). get_or t.times w 0 ≡ get_or s.times w 0 + c) e m.here))
        (λ ne. rw (ne_eqb v z ne) (omega (arith, m.other z l (λ e. ne (sym e)))))

    steps_here : (part : Slope → ℕ)
        → step_of P R rule part t.times v ≡ step_of P R rule part s.times v + c * part (edge P R rule v)
    steps_here part = ap (λ k. k * part (edge P R rule v)) m.here ∙ omega arith

    steps_other : (part : Slope → ℕ) (z : ℕ) → z < length P → (z ≡ v → ⊥)
        → step_of P R rule part t.times z ≡ step_of P R rule part s.times z
    steps_other part z lz ne = ap (λ k. k * part (edge P R rule z)) (m.other z lz ne)

    pub stretch_adds : Tree P R → 0 < v → v < length P → (part : Slope → ℕ) {X Y : List ℕ}
        → Moved P v (c * part (edge P R rule v)) X Y → Adds P (step_of P R rule part s.times) X
        → Adds P (step_of P R rule part t.times) Y
    stretch_adds tree av lv part w =
        moved-adds tree av lv w (step_of P R rule part s.times) (step_of P R rule part t.times) (steps_here part)
        (steps_other part)

module _ {P R : List ℕ} (tree : Tree P R) {rule : Rule} {limit v c : ℕ} (av : 0 < v) (lv : v < length P) where
  -- what is taken away is there in the whole subtree
  pub back_room : {times : List ℕ} {part : Slope → ℕ} {X : List ℕ} → Coordinate limit P R rule times part X
      → c ≤ get_or times v 0 → (z : ℕ) → z < length P → under P v z ≡ true → c * part (edge P R rule v) ≤ get_or X z 0
  back_room {times} {part} {X} k less z lz t =
      let low : c * part (edge P R rule v) ≤ get_or times v 0 * part (edge P R rule v) =
      mul-le-mul_right (part (edge P R rule v)) less in
      omega (arith, adds-under tree k.adds v z av lz t)

  pub shorter_stretch : {t : Drawing} → Drawn limit P R rule t → c ≤ get_or t.times v 0
      → Stretch P R rule v c (shorter P R rule t v c) t
  unfolding stretched
  shorter_stretch {t} d less =
      let same = get_or-set_same t.times v (get_or t.times v 0 - c) 0 (omega arith) in
      record {
        from_long = length-set t.times v (get_or t.times v 0 - c) ∙ d.long;
        to_long = d.long;
        here = omega arith;
        other = λ z lz ne. sym (get_or-set_other t.times v z (get_or t.times v 0 - c) 0 ne);
        x = moved_back P v (c * across_of (edge P R rule v)) t.x d.x.long (back_room d.x less);
        y = moved_back P v (c * up_of (edge P R rule v)) t.y d.y.long (back_room d.y less);
      }

  module _ {s t : Drawing} (m : Stretch P R rule v c s t) where
    coordinate_on : (part : Slope → ℕ) {X Y : List ℕ} → Moved P v (c * part (edge P R rule v)) X Y
        → Coordinate limit P R rule s.times part X → ((z : ℕ) → z < length P → get_or Y z 0 ≤ limit)
        → Coordinate limit P R rule t.times part Y
    coordinate_on part w k fits = record {
      long = w.to_long;
      adds = stretch_adds m tree av lv part w k.adds;
      within = fits;
    }

    coordinate_back : (part : Slope → ℕ) {X Y : List ℕ} → Moved P v (c * part (edge P R rule v)) X Y
        → Coordinate limit P R rule t.times part Y → Coordinate limit P R rule s.times part X
    coordinate_back part w k = record {
      long = w.from_long;
      adds = unmoved_adds tree av lv w (step_of P R rule part s.times) (step_of P R rule part t.times)
          (steps_here m part) (steps_other m part) k.adds;
      within = λ z lz. omega (arith, w.at z lz, k.within z lz);
    }

    pub stretch_drawn : Drawn limit P R rule s
        → ((z : ℕ) → z < length P → (get_or t.x z 0 ≤ limit) × (get_or t.y z 0 ≤ limit)) → Drawn limit P R rule t
    stretch_drawn d fits = record {
      long = m.to_long;
      root_once = m.other 0 tree.some (λ e. omega arith) ∙ d.root_once;
      some = λ z lz. by_eq z v (λ e. omega (arith, ap (λ w. get_or t.times w 0) e, m.here, d.some v lv))
          (λ ne. omega (arith, m.other z lz ne, d.some z lz));
      x = coordinate_on across_of m.x d.x (λ z lz. (fits z lz).0);
      y = coordinate_on up_of m.y d.y (λ z lz. (fits z lz).1);
    }

    pub unstretch_drawn : Drawn limit P R rule t → c < get_or t.times v 0 → Drawn limit P R rule s
    unstretch_drawn d less = record {
      long = m.from_long;
      root_once = sym (m.other 0 tree.some (λ e. omega arith)) ∙ d.root_once;
      some = λ z lz. by_eq z v (λ e. omega (arith, ap (λ w. get_or s.times w 0) e, m.here))
          (λ ne. omega (arith, m.other z lz ne, d.some z lz));
      x = coordinate_back across_of m.x d.x;
      y = coordinate_back up_of m.y d.y;
    }

-- by no count nothing changes
pub stretch_0 : {P R : List ℕ} {rule : Rule} {limit v : ℕ} {s : Drawing} → Drawn limit P R rule s
    → Stretch P R rule v 0 s s
stretch_0 {P} {R} {rule} {v = v} {s} d = record {
  from_long = d.long;
  to_long = d.long;
  here = omega arith;
  other = λ z l ne. refl;
  x = still s.x d.x.long (across_of (edge P R rule v));
  y = still s.y d.y.long (up_of (edge P R rule v));
}
  where
    still : (X : List ℕ) → length X ≡ length P → (part : ℕ) → Moved P v (0 * part) X X
    still X long part = record {
      from_long = long;
      to_long = long;
      at = λ z l. by_test (under P v z) (λ t. omega (arith, offset_in P v (0 * part) z t))
          (λ f. omega (arith, offset_out P v (0 * part) z f));
    }
