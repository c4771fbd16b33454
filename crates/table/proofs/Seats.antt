-- Refusal 6: how many nodes stand in each slot, and the least node that shares its slot or has none.
use mathlib.Core.Bool.{true, false, ◌&&◌}
use mathlib.Core.List.{List}
use mathlib.Core.Option.{none}
use mathlib.Core.Path.{◌≡◌, refl, sym, ap, ◌∙◌}
use Prim.Native.Nat.{ℕ, ◌+◌, ◌-◌, ◌*◌, ◌≤◌, ◌<◌}
use native.Mathlib.Omega.{arith}
use lib.Dec.{ltb, eqb}
use lib.ListN.{length, get_or, set}
use borrow.Author.Tests.{ltb-true, eqb-true, lt-ltb, eq-eqb}
use borrow.Author.Count.{below_more, below_none}
use Rattle.laws.specs.Refusals.{refusal, refuse_least_yes, refuse_least_all}
use Rattle.laws.specs.Regions.{Only, only_store}
use Rattle.laws.specs.Search.{bit, count, refuse_least}
use Rattle.laws.specs.SearchLaws.{count-zero, count_more, count_le, count_cong, least_is}
use Rattle.laws.specs.Sums.{sum, sum_more}
use Rattle.laws.specs.Tests.{both, both_is, same_test, false_of}
use Rattle.table.specs.Children.{child_at_of, child_at_test, slot, slot_below, slot_once}
use Rattle.table.specs.Table.{parent, rank, children, is_child_at, bad_rank}
use Rattle.table.specs.TableLaws.{bad_root, bad_high, bad_shared, bad_no}
use Rattle.table.specs.Parts.{Scratch, Zeroed, Started, in_slot, Seating, Occupied}
use Rattle.table.proofs.FirstSlots.{tally_more, tally_none, scratch_kept}

------------------------------------------------------------------------
-- Who stands in a slot

pub record InSlot (P R : List ℕ) (s w : ℕ) : Type 0 where
  pub above : 0 < w
  pub low : rank R w < children P (parent P w)
  pub is : slot P R w ≡ s

in_slot_of : (P R : List ℕ) (s w : ℕ) → in_slot P R s w ≡ true → InSlot P R s w
unfolding in_slot
in_slot_of P R s w t =
    let b = both (ltb 0 w) (ltb (rank R w) (children P (parent P w)) && eqb (slot P R w) s) t in
    let d = both (ltb (rank R w) (children P (parent P w))) (eqb (slot P R w) s) b.1 in
    record { above = ltb-true _ _ b.0; low = ltb-true _ _ d.0; is = eqb-true _ _ d.1 }

in_slot_test : {P R : List ℕ} {s w : ℕ} → InSlot P R s w → in_slot P R s w ≡ true
unfolding in_slot
in_slot_test i = both_is (lt-ltb _ _ i.above) (both_is (lt-ltb _ _ i.low) (eq-eqb _ _ i.is))

-- those in v's slot are the children of its parent with its rank
slot-children : (P R : List ℕ) (v : ℕ) → rank R v < children P (parent P v)
    → count (in_slot P R (slot P R v)) (length P) ≡ count (is_child_at P R (parent P v) (rank R v)) (length P)
slot-children P R v h =
    count_cong _ _ (length P)
    (λ w l. same_test _ _
    (λ t.
    let i = in_slot_of P R (slot P R v) w t in
    let e = slot_once (children P) (parent P w) (rank R w) (parent P v) (rank R v) i.low h i.is in
    child_at_test P R _ _ w (record { above = i.above; up = e.0 }) e.1)
    (λ t.
    let k = child_at_of P R _ _ w t in
    in_slot_test (record { above = k.0.above; low = rw (k.0.up, k.1) h; is = rw (k.0.up, k.1) refl })))

------------------------------------------------------------------------
-- What a turn reads: p and r are v's parent and rank, s the slot for them, e the first slot after p's

pub record Turn (P R X : List ℕ) (v p r s e : ℕ) : Type 0 where
  pub parent_is : p ≡ parent P v
  pub rank_is : r ≡ rank R v
  pub slot_is : s ≡ get_or X p 0 + r
  pub end_is : e ≡ get_or X (p + 1) 0

pub turn : {P R X : List ℕ} {v p r k e : ℕ} → p ≡ parent P v → r ≡ rank R v → k ≡ get_or X p 0 → e ≡ get_or X (p + 1) 0
    → Turn P R X v p r (k + r) e
turn {P} {R} {X} {v} {p} {r} ep er ek ee =
    record { parent_is = ep; rank_is = er; slot_is = ap (λ (k : ℕ). k + r) ek; end_is = ee }

module _ {P R X : List ℕ} {v p r s e : ℕ} (w : Scratch P X) (d : Started P X) (l : v < length P)
    (t : Turn P R X v p r s e) where
  pub parent_in : p < length P
  parent_in = omega (arith, t.parent_is, w.nodes.inside v l)

  slot_right : s ≡ slot P R v
  slot_right =
      omega (
        arith,
        t.slot_is,
        t.rank_is,
        d.at p (omega (arith, parent_in)),
        ap (sum (children P)) t.parent_is,
      )

  end_right : e ≡ sum (children P) (parent P v) + children P (parent P v)
  end_right =
      omega (
        arith,
        t.end_is,
        d.at (p + 1) (omega (arith, parent_in)),
        sum_more (children P) p,
        ap (sum (children P)) t.parent_is,
        ap (children P) t.parent_is,
      )

  pub rank_high : e ≤ s → children P (parent P v) ≤ rank R v
  rank_high h = omega (arith, slot_right, end_right)

  pub rank_low : s < e → rank R v < children P (parent P v)
  rank_low h = omega (arith, slot_right, end_right)

  pub seat_in : s < e → length P + 1 + s < 2 * length P
  seat_in h =
      omega (
        arith,
        slot_right,
        slot_below P (parent P v) (rank R v) w.nodes (w.nodes.inside v l) (rank_low h),
      )

  pub seat_room : s < e → length P + 1 + s < length X
  seat_room h = omega (arith, seat_in h, w.room)

  pub seat_shared : Occupied P R X → 0 < v → s < e
      → get_or X (length P + 1 + s) 0 ≡ count (is_child_at P R (parent P v) (rank R v)) (length P)
  seat_shared o a h = ap (λ (k : ℕ). get_or X (length P + 1 + k) 0) slot_right ∙ o.at v a l (rank_low h)

------------------------------------------------------------------------
-- Counting the nodes in each slot

pub seating_start : {P R W : List ℕ} → Scratch P W → length R ≡ length P → Started P W
    → Zeroed (length P + 1) (2 * length P) W → Seating P R W 1
seating_start {P} {R} {W} w long d z = record {
  scratch = w;
  long = long;
  started = d;
  from = omega arith;
  at = λ s l. z.at (length P + 1 + s) (omega arith) (omega arith) ∙ sym (nobody s);
}
  where
    nobody : (s : ℕ) → count (in_slot P R s) 1 ≡ 0
    nobody s =
        let root : in_slot P R s 0 ≡ false = false_of (λ t. absurd (omega (arith, (in_slot_of P R s 0 t).above))) in
        omega (arith, count_more (in_slot P R s) 0, count-zero (in_slot P R s), ap bit root)

module _ {P R X : List ℕ} {v p r s e : ℕ} (i : Seating P R X v) (l : v < length P) (t : Turn P R X v p r s e) where
  pub seating_few : {o : ℕ} → s < e → o ≡ get_or X (length P + 1 + s) 0 → o ≤ v
  seating_few {o} h eo =
      omega (arith, i.at s (omega (arith, seat_in i.scratch i.started l t h)), count_le (in_slot P R s) v)

  -- v has no slot
  pub seating_none : e ≤ s → Seating P R X (v + 1)
  seating_none h = record {
    scratch = i.scratch;
    long = i.long;
    started = i.started;
    from = omega arith;
    at = λ k m. tally_none (in_slot P R k) v _ (i.at k m) (false_of (λ q.
        absurd (omega (arith, (in_slot_of P R k v q).low, rank_high i.scratch i.started l t h))));
  }

  pub seating_step : {o : ℕ} {Y : List ℕ} → s < e → o ≡ get_or X (length P + 1 + s) 0
      → Y ≡ set X (length P + 1 + s) (o + 1)
      → Seating P R Y (v + 1) × Only (length P + 1) (2 * length P) X Y
  seating_step {o} {Y} h eo ey =
      let inside = seat_in i.scratch i.started l t h in
      let kept : Only (length P + 1) (2 * length P) X Y = only_store (length P + 1 + s) (o + 1) (omega arith)
      inside ey in (
        record {
          scratch = scratch_kept i.scratch kept.long;
          long = i.long;
          started = record { at = λ q m. kept.below q (omega arith) ∙ i.started.at q m };
          from = omega arith;
          at =
              λ k m. tally_more (in_slot P R) (λ (x : ℕ). length P + 1 + x) (length P - 1) X Y v s (λ a b q. omega arith)
              (seat_room i.scratch i.started l t h) (omega arith)
              (ey ∙ ap (λ (x : ℕ). set X (length P + 1 + s) (x + 1)) eo) (λ q b. i.at q (omega arith))
              (in_slot_test (record { above = i.from; low = rank_low i.scratch i.started l t h; is = sym right }))
              (λ q ne. false_of (λ z. ne (sym (in_slot_of P R q v z).is ∙ sym right))) k (omega arith);
        },
        kept,
      )
    where
      right : s ≡ slot P R v
      right = slot_right i.scratch i.started l t

pub seating_end : {P R X : List ℕ} {v : ℕ} → Seating P R X v → v ≡ length P → Occupied P R X
seating_end {P} {R} {X} {v} i e = record {
  at = λ u a l h.
      i.at (slot P R u) (slot_below P (parent P u) (rank R u) i.scratch.nodes (i.scratch.nodes.inside u l) h)
      ∙ ap (count (in_slot P R (slot P R u))) e
      ∙ slot-children P R u h;
}

------------------------------------------------------------------------
-- The least node with refusal 6

-- the nodes below v pass
pub record Ranking (P R : List ℕ) (v : ℕ) : Type 0 where
  pub fine : (k : ℕ) → k < v → bad_rank P R k ≡ false

pub ranking_start : {P : List ℕ} (R : List ℕ) → Ranking P R 1
ranking_start {P} R = record {
  fine = below_more (λ (k : ℕ). bad_rank P R k ≡ false) 0 (below_none (λ (k : ℕ). bad_rank P R k ≡ false)) (bad_root P R);
}

module _ {P R X : List ℕ} {v p r s e : ℕ} (w : Scratch P X) (d : Started P X) (o : Occupied P R X) (i : Ranking P R v)
    (from : 1 ≤ v) (l : v < length P) (t : Turn P R X v p r s e) where
  refused_6 : bad_rank P R v ≡ true → refuse_least 6 (length P) (bad_rank P R) ≡ refusal 6 v
  refused_6 bad =
      refuse_least_yes 6 (length P) (bad_rank P R) v (least_is (bad_rank P R) (length P) v (omega arith) i.fine (λ _. bad)) l

  pub ranking_high : e ≤ s → refuse_least 6 (length P) (bad_rank P R) ≡ refusal 6 v
  ranking_high h = refused_6 (bad_high P R v from (rank_high w d l t h))

  pub ranking_shared : {k : ℕ} → s < e → k ≡ get_or X (length P + 1 + s) 0 → 1 < k
      → refuse_least 6 (length P) (bad_rank P R) ≡ refusal 6 v
  ranking_shared h ek more = refused_6 (bad_shared P R v from (omega (arith, seat_shared w d l t o from h)))

  pub ranking_step : {k : ℕ} → s < e → k ≡ get_or X (length P + 1 + s) 0 → k ≤ 1 → Ranking P R (v + 1)
  ranking_step h ek few = record {
    fine = below_more (λ (k : ℕ). bad_rank P R k ≡ false) v i.fine
        (bad_no P R v (rank_low w d l t h) (omega (arith, seat_shared w d l t o from h)));
  }

pub ranking_end : {P R : List ℕ} {v : ℕ} → Ranking P R v → length P ≤ v
    → refuse_least 6 (length P) (bad_rank P R) ≡ none
ranking_end {P} {R} i h = refuse_least_all 6 (length P) (bad_rank P R) (λ k l. i.fine k (omega arith))
