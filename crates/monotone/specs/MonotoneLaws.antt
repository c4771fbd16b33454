-- What follows from the meaning of the check: it determines the answer, an edge of no length rises along nothing, and
-- no edge rises both ways.
--
--   Before a b u v == the pair (a, b) comes before (u, v)
use Rattle.std.specs.Prelude.{List, [], ◌∷◌, ◌⊎◌, ◌≡◌, ℕ, ◌<◌, ℤ, pos, neg_ℤ, ◌+ℤ◌, ◌-ℤ◌, ◌*ℤ◌, get_or}
use Rattle.std.proofs.Common.{inl, inr, sym, ap, ap₂, ◌∙◌, arith}
use Rattle.std.proofs.Math.Path.{refl}
use Rattle.std.proofs.Math.IntN.{+ℤ_invr, *ℤ-zero}
use Rattle.std.specs.Int.Signed.{<ℤ_irrefl}
use Rattle.laws.specs.Refusals.{never_both, same_refusal}
use Rattle.laws.specs.Signs.{<-to, <→≤, not_both}
use Rattle.laws.specs.Solver.{Expr, ◌⊕◌, ◌⊖◌, ◌⊗◌, solve}
use Rattle.laws.specs.Tests.{by_lt}
use Rattle.table.specs.declared.Limits.{Limits}
use Rattle.monotone.specs.declared.Verdict.{Verdict}
use Rattle.monotone.specs.declared.Verdict.TheVariants.{Monotone, Turns, Refused}
use Rattle.table.specs.Paths.{step, Rises}
use Rattle.monotone.specs.Monotone.{Says}

------------------------------------------------------------------------
-- SmallEdges

pub no_length_rises : (x y : List ℕ) (d e : ℤ) (a b : ℕ) → get_or x a 0 ≡ get_or x b 0 → get_or y a 0 ≡ get_or y b 0
    → Rises x y d e a b → ⊥
no_length_rises x y d e a b p q r = <ℤ_irrefl (<-to flat r.above_0)
  where
    none_of : (c : List ℕ) → get_or c a 0 ≡ get_or c b 0 → step c a b ≡ pos 0
    none_of c h = ap (λ (n : ℕ). pos (get_or c b 0) -ℤ pos n) h ∙ +ℤ_invr (pos (get_or c b 0))

    flat : d *ℤ step x a b +ℤ e *ℤ step y a b ≡ pos 0
    flat = ap₂ (λ (s t : ℤ). d *ℤ s +ℤ e *ℤ t) (none_of x p) (none_of y q) ∙ ap₂ ◌+ℤ◌ (*ℤ-zero d) (*ℤ-zero e)

abbrev z : ℕ → Expr
z i = Expr.v i

pub not_both_ways : (x y : List ℕ) (d e : ℤ) (a b : ℕ) → Rises x y d e a b → Rises x y d e b a → ⊥
not_both_ways x y d e a b r s =
    not_both (d *ℤ step x a b +ℤ e *ℤ step y a b) (<→≤ _ r.above_0) (<-to back s.above_0)
  where
    back : d *ℤ step x b a +ℤ e *ℤ step y b a ≡ neg_ℤ (d *ℤ step x a b +ℤ e *ℤ step y a b)
    back = solve (d ∷ e ∷ pos (get_or x a 0) ∷ pos (get_or x b 0) ∷ pos (get_or y a 0) ∷ pos (get_or y b 0) ∷ [])
        (z 0 ⊗ (z 2 ⊖ z 3) ⊕ z 1 ⊗ (z 4 ⊖ z 5)) (Expr.neg (z 0 ⊗ (z 3 ⊖ z 2) ⊕ z 1 ⊗ (z 5 ⊖ z 4))) tt

------------------------------------------------------------------------
-- One answer

abbrev pub Before : ℕ → ℕ → ℕ → ℕ → Type 0
Before a b u v = (a < u) ⊎ ((a ≡ u) × (b < v))

module _ (L : Limits) (P R x y : List ℕ) (work : ℕ) where
  -- the pairs of two answers are each not after the other
  first_pairs : (u v c d : ℕ) → (Before u v c d → ⊥) → (Before c d u v → ⊥) → Turns u v ≡ Turns c d
  first_pairs u v c d f g = ap₂ Turns same_first (same_second same_first)
    where
      same_first : u ≡ c
      same_first = by_lt u c (λ l. absurd (f (inl l))) (λ h. by_lt c u (λ l. absurd (g (inl l))) (λ i. omega arith))

      same_second : u ≡ c → v ≡ d
      same_second e =
          by_lt v d (λ l. absurd (f (inr (e, l))))
          (λ h. by_lt d v (λ l. absurd (g (inr (sym e, l)))) (λ i. omega arith))

  pub says_one : (r s : Verdict) → Says L P R x y work r → Says L P R x y work s → r ≡ s
  unfolding Says
  says_one Monotone Monotone a b = refl
  says_one Monotone (Turns u v) a b = absurd (b.1.turns (a.1.directed u v b.1.ordered b.1.inside))
  says_one Monotone (Refused k v) a b = absurd (never_both a.0 b)
  says_one (Turns u v) Monotone a b = absurd (a.1.turns (b.1.directed u v a.1.ordered a.1.inside))
  says_one (Turns u v) (Turns c d) a b =
      first_pairs u v c d
      (λ f. a.1.turns (b.1.earlier u v a.1.ordered a.1.inside f))
      (λ f. b.1.turns (a.1.earlier c d b.1.ordered b.1.inside f))
  says_one (Turns u v) (Refused k w) a b = absurd (never_both a.0 b)
  says_one (Refused k v) Monotone a b = absurd (never_both b.0 a)
  says_one (Refused k v) (Turns u w) a b = absurd (never_both b.0 a)
  says_one (Refused k v) (Refused j w) a b = same_refusal Refused a b
