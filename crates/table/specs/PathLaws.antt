-- Laws of rising edges and paths.
--
--   height x y d e z   == how far along (d, e) node z lies. An edge rises where its end is higher than its start
use Rattle.std.specs.Prelude.{List, [], ◌∷◌, ◌≡◌, ℕ, suc, ◌+◌, ◌*◌, ◌<◌, ℤ, pos, neg_ℤ, ◌+ℤ◌, ◌-ℤ◌, ◌*ℤ◌, get_or, ◌<ℤ◌}
use Rattle.std.proofs.Common.{sym, ap, ◌∙◌, arith}
use Rattle.std.proofs.Math.IntN.{+ℤ_idr, zero-*ℤ}
use Rattle.laws.specs.Differences.{IsDiff, recast, diff_pos, diff_neg, diff_add, diff_mul, diff_lt}
use Rattle.laws.specs.Signs.{<-to}
use Rattle.laws.specs.Solver.{v, ◌⊕◌, ◌⊖◌, ◌⊗◌, neg, solve}
use Rattle.table.specs.Table.{climb}
use Rattle.table.specs.Paths.{step, Rises, PathRises, along, SharePoint, CommonEnd}

------------------------------------------------------------------------
-- Rising, by natural numbers

step_is : (c : List ℕ) (a b : ℕ) → IsDiff (step c a b) (get_or c b 0) (get_or c a 0)
step_is c a b =
    recast (step c a b) (get_or c b 0 + 0) (0 + get_or c a 0) (get_or c b 0) (get_or c a 0)
    (diff_add (pos (get_or c b 0)) (neg_ℤ (pos (get_or c a 0))) (get_or c b 0) 0 0 (get_or c a 0)
    (diff_pos (get_or c b 0)) (diff_neg (pos (get_or c a 0)) (get_or c a 0) 0 (diff_pos (get_or c a 0))))
    (omega arith)

-- along d = p - p' and e = q - q'
pub rises_by : (x y : List ℕ) (d e : ℤ) (p p' q q' a b : ℕ) → IsDiff d p p' → IsDiff e q q'
    → (p * get_or x a 0 + p' * get_or x b 0) + (q * get_or y a 0 + q' * get_or y b 0)
    < (p * get_or x b 0 + p' * get_or x a 0) + (q * get_or y b 0 + q' * get_or y a 0)
    → Rises x y d e a b
rises_by x y d e p p' q q' a b hd he l = record {
  above_0 = diff_lt (d *ℤ step x a b +ℤ e *ℤ step y a b)
      ((p * get_or x b 0 + p' * get_or x a 0) + (q * get_or y b 0 + q' * get_or y a 0))
      ((p * get_or x a 0 + p' * get_or x b 0) + (q * get_or y a 0 + q' * get_or y b 0))
      (diff_add (d *ℤ step x a b) (e *ℤ step y a b)
      (p * get_or x b 0 + p' * get_or x a 0) (p * get_or x a 0 + p' * get_or x b 0)
      (q * get_or y b 0 + q' * get_or y a 0) (q * get_or y a 0 + q' * get_or y b 0)
      (diff_mul d (step x a b) p p' (get_or x b 0) (get_or x a 0) hd (step_is x a b))
      (diff_mul e (step y a b) q q' (get_or y b 0) (get_or y a 0) he (step_is y a b)))
      l;
}

------------------------------------------------------------------------
-- Walked the other way

pub rises_back : (x y : List ℕ) (d e : ℤ) (a b : ℕ) → Rises x y d e a b → Rises x y (neg_ℤ d) (neg_ℤ e) b a
rises_back x y d e a b h = record {
  above_0 = <-to (solve (d ∷ e ∷ pos (get_or x a 0) ∷ pos (get_or x b 0) ∷ pos (get_or y a 0) ∷ pos (get_or y b 0) ∷ [])
      (v 0 ⊗ (v 3 ⊖ v 2) ⊕ v 1 ⊗ (v 5 ⊖ v 4))
      (neg (v 0) ⊗ (v 2 ⊖ v 3) ⊕ neg (v 1) ⊗ (v 4 ⊖ v 5)) tt) h.above_0;
}

pub path_back : (P x y : List ℕ) (d e : ℤ) (u w : ℕ) → PathRises P x y d e u w → PathRises P x y (neg_ℤ d) (neg_ℤ e) w u
path_back P x y d e u w h = record {
  going_up = λ i l. rises_back x y d e (climb P (suc i) w) (climb P i w) (h.going_down i l);
  going_down = λ j l. rises_back x y d e (climb P j u) (climb P (suc j) u) (h.going_up j l);
}

------------------------------------------------------------------------
-- Heights

abbrev pub height : List ℕ → List ℕ → ℤ → ℤ → ℕ → ℤ
height x y d e z = d *ℤ pos (get_or x z 0) +ℤ e *ℤ pos (get_or y z 0)

pub rises_height : (x y : List ℕ) (d e : ℤ) (a b : ℕ) → Rises x y d e a b
    → pos 0 <ℤ (height x y d e b -ℤ height x y d e a)
rises_height x y d e a b h =
    <-to (solve (d ∷ e ∷ pos (get_or x a 0) ∷ pos (get_or x b 0) ∷ pos (get_or y a 0) ∷ pos (get_or y b 0) ∷ [])
    (v 0 ⊗ (v 3 ⊖ v 2) ⊕ v 1 ⊗ (v 5 ⊖ v 4))
    ((v 0 ⊗ v 3 ⊕ v 1 ⊗ v 5) ⊖ (v 0 ⊗ v 2 ⊕ v 1 ⊗ v 4)) tt) h.above_0

-- how high the point of an edge lies
pub along-height : (x y : List ℕ) (d e : ℤ) (m i a b : ℕ)
    → d *ℤ along x m i a b +ℤ e *ℤ along y m i a b
    ≡ pos m *ℤ height x y d e a +ℤ pos i *ℤ (height x y d e b -ℤ height x y d e a)
along-height x y d e m i a b =
    solve (d ∷ e ∷ pos (get_or x a 0) ∷ pos (get_or x b 0) ∷ pos (get_or y a 0) ∷ pos (get_or y b 0) ∷ pos m ∷ pos i ∷ [])
    (v 0 ⊗ (v 6 ⊗ v 2 ⊕ v 7 ⊗ (v 3 ⊖ v 2)) ⊕ v 1 ⊗ (v 6 ⊗ v 4 ⊕ v 7 ⊗ (v 5 ⊖ v 4)))
    (v 6 ⊗ (v 0 ⊗ v 2 ⊕ v 1 ⊗ v 4) ⊕ v 7 ⊗ ((v 0 ⊗ v 3 ⊕ v 1 ⊗ v 5) ⊖ (v 0 ⊗ v 2 ⊕ v 1 ⊗ v 4))) tt

-- at i = 0 it is the start
pub along-start : (c : List ℕ) (m i a b : ℕ) → i ≡ 0 → along c m i a b ≡ pos (m * get_or c a 0)
along-start c m i a b e =
    ap (λ (k : ℕ). pos m *ℤ pos (get_or c a 0) +ℤ pos k *ℤ step c a b) e
    ∙ ap (λ (z : ℤ). pos m *ℤ pos (get_or c a 0) +ℤ z) (zero-*ℤ (step c a b))
    ∙ +ℤ_idr (pos (m * get_or c a 0))

------------------------------------------------------------------------
-- Shared points, the edges taken in the other order

pub share_back : {x y : List ℕ} {a b c d m i j : ℕ} → SharePoint x y a b c d m i j → SharePoint x y c d a b m j i
share_back s = record {
  whole = s.whole;
  i_in = s.j_in;
  j_in = s.i_in;
  same_x = sym s.same_x;
  same_y = sym s.same_y;
}

pub end_back : {x y : List ℕ} {a b c d m i j : ℕ} → SharePoint x y a b c d m i j → CommonEnd x y c d a b m j
    → CommonEnd x y a b c d m i
end_back s r = record {
  node = r.node;
  end_of_first = r.end_of_second;
  end_of_second = r.end_of_first;
  at_x = s.same_x ∙ r.at_x;
  at_y = s.same_y ∙ r.at_y;
}
