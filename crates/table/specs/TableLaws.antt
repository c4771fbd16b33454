-- Accepted tables, and the tests of refusals 5, 6 and 7.
--
--   Tree P R      == what refusals 1 and 3 to 7 leave: the parents lead to node 0, and the ranks of siblings are 0,
--                    1, ..
use Rattle.std.specs.Prelude.{true, false, List, ◌≡◌, refl, ℕ, ◌≤◌, ◌<◌, ltb, leb, length}
use Rattle.std.proofs.Math.Bool.{and-false}
use Rattle.std.proofs.Common.{lt-ltb, le-ltb, le-leb, eq-eqb, ne_eqb}
use Rattle.std.proofs.lemmas.Bool.{lt-leb}
use Rattle.laws.specs.Search.{count}
use Rattle.laws.specs.Tests.{both_is, either_first, either_second, neither_is}
use Rattle.table.specs.Children.{Nodes, Ranked}
use Rattle.table.specs.Table.{parent, rank, climb, leads, children, is_child_at, stray_parent, bad_rank, adrift}

pub record Tree (P R : List ℕ) : Type 0 where
  pub some : 0 < length P
  pub long : length R ≡ length P
  pub root : parent P 0 ≡ 0
  pub inside : (v : ℕ) → v < length P → parent P v < length P
  pub rank_low : (v : ℕ) → 0 < v → v < length P → rank R v < children P (parent P v)
  pub ranks_differ : (v w : ℕ) → 0 < v → v < w → w < length P → parent P v ≡ parent P w → rank R v ≡ rank R w → ⊥
  pub leads_home : (v : ℕ) → v < length P → climb P (length P) v ≡ 0

pub tree_nodes : {P R : List ℕ} → Tree P R → Nodes P
tree_nodes t = record { some = t.some; root = t.root; inside = t.inside }

pub tree_ranked : {P R : List ℕ} → Tree P R → Ranked P R
tree_ranked t = record { below = t.rank_low; apart = t.ranks_differ }

------------------------------------------------------------------------
-- The tests of refusals 5, 6 and 7

pub stray_root : (P : List ℕ) → stray_parent P 0 ≡ false
unfolding stray_parent
stray_root P = refl

pub stray_yes : (P : List ℕ) (v : ℕ) → 0 < v → length P ≤ parent P v → stray_parent P v ≡ true
unfolding stray_parent
stray_yes P v a h = both_is (lt-ltb 0 v a) (le-leb _ _ h)

pub stray_no : (P : List ℕ) (v : ℕ) → parent P v < length P → stray_parent P v ≡ false
unfolding stray_parent
stray_no P v h = rw (lt-leb (length P) (parent P v) h) (and-false (ltb 0 v))

pub bad_root : (P R : List ℕ) → bad_rank P R 0 ≡ false
unfolding bad_rank
bad_root P R = refl

pub bad_high : (P R : List ℕ) (v : ℕ) → 0 < v → children P (parent P v) ≤ rank R v → bad_rank P R v ≡ true
unfolding bad_rank
bad_high P R v a h = both_is (lt-ltb 0 v a) (either_first _ _ (le-leb _ _ h))

pub bad_shared : (P R : List ℕ) (v : ℕ) → 0 < v → 1 < count (is_child_at P R (parent P v) (rank R v)) (length P)
    → bad_rank P R v ≡ true
unfolding bad_rank
bad_shared P R v a h =
    both_is (lt-ltb 0 v a) (either_second (leb (children P (parent P v)) (rank R v)) _ (lt-ltb _ _ h))

pub bad_no : (P R : List ℕ) (v : ℕ) → rank R v < children P (parent P v)
    → count (is_child_at P R (parent P v) (rank R v)) (length P) ≤ 1 → bad_rank P R v ≡ false
unfolding bad_rank
bad_no P R v h o = rw (neither_is (lt-leb _ _ h) (le-ltb 1 _ o)) (and-false (ltb 0 v))

pub adrift_root : (P : List ℕ) → adrift P 0 ≡ false
unfolding adrift
adrift_root P = refl

pub adrift_yes : (P : List ℕ) (v : ℕ) → 0 < v → (climb P (length P) v ≡ 0 → ⊥) → adrift P v ≡ true
unfolding adrift leads
adrift_yes P v a h = both_is (lt-ltb 0 v a) (rw (ne_eqb _ _ h) refl)

pub adrift_no : (P : List ℕ) (v : ℕ) → climb P (length P) v ≡ 0 → adrift P v ≡ false
unfolding adrift leads
adrift_no P v h = rw (eq-eqb _ _ h) (and-false (ltb 0 v))
