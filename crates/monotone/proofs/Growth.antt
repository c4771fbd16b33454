-- A cone with one edge more, in each case that `grow` tells apart.
use mathlib.Core.Bool.{Bool, true}
use mathlib.Core.Path.{◌≡◌, refl, sym, subst, subst⁻¹, subst₂, subst₃}
use mathlib.Core.List.{List, ◌∷◌}
use Prim.Native.Nat.{ℕ, ◌+◌, ◌*◌, ◌/◌, ◌%◌, ◌≤◌, ◌<◌}
use native.Mathlib.Omega.{arith}
use Rattle.monotone.specs.declared.Move.{Move}
use Rattle.monotone.specs.declared.Move.TheVariants.{Keep, High, Low, Never}
use Rattle.monotone.specs.Plane.{Vec, Cone, cone_first, zero-none, none_more}
use Rattle.monotone.specs.Cones.{edge_at, RightMove, ConePair, Holds, empty, shut, wide, Formed, Alone, none, one}
use Rattle.monotone.specs.Cones.{Growing, Grown}

------------------------------------------------------------------------
-- Pairs

high_half : (a b : ℕ) → b < 65536 → (a * 65536 + b) / 65536 ≡ a
high_half a b h = omega arith

low_half : (a b : ℕ) → b < 65536 → (a * 65536 + b) % 65536 ≡ b
low_half a b h = omega arith

pub pair_fits : {n k : ℕ} → n ≤ 65536 → ConePair n k → k < 4294967296
pair_fits few p = omega arith

pub pair_of : {n : ℕ} (a b : ℕ) → n ≤ 65536 → 0 < a → a < n → 0 < b → b < n → ConePair n (a * 65536 + b)
pair_of a b few p q r s = record { low = omega arith; low_in = omega arith; high = omega arith; high_in = omega arith }

------------------------------------------------------------------------
-- What a cone tells of its code

not_one : {n k : ℕ} → ConePair n k → k ≡ 1 → ⊥
not_one p e = omega arith

not_two : {n k : ℕ} → ConePair n k → k ≡ 2 → ⊥
not_two p e = omega arith

module _ {n k : ℕ} where
  pub formed_one : k ≡ 1 → Formed n k
  formed_one e = record { some = λ z. omega arith; pair = λ f g. absurd (f e) }

  formed_two : k ≡ 2 → Formed n k
  formed_two e = record { some = λ z. omega arith; pair = λ f g. absurd (g e) }

  formed_pair : ConePair n k → Formed n k
  formed_pair p = record { some = λ z. omega arith; pair = λ f g. p }

module _ {n : ℕ} {side : ℕ → Bool} {edge : ℕ → Vec} {k : ℕ} {us : List Vec} where
  pub holds_some : Holds n side edge k us → k ≡ 0 → ⊥
  holds_some (empty e _) z = omega arith
  holds_some (shut e _) z = omega arith
  holds_some (wide p _ _ _) z = omega arith

  pub holds_formed : Holds n side edge k us → Formed n k
  holds_formed (empty e _) = formed_one e
  holds_formed (shut e _) = formed_two e
  holds_formed (wide p _ _ _) = formed_pair p

  -- with other edges, and another test, that agree where the sides are
  pub holds_as : {other : ℕ → Bool} {vector : ℕ → Vec}
      → ((z : ℕ) → 0 < z → z < n → side z ≡ true → (other z ≡ true) × (edge z ≡ vector z))
      → Holds n side edge k us → Holds n other vector k us
  holds_as f (empty e l) = empty e l
  holds_as f (shut e h) = shut e h
  holds_as f (wide p a b c) =
      let lo = f (k / 65536) p.low p.low_in a in
      let hi = f (k % 65536) p.high p.high_in b in
      wide p lo.0 hi.0 (subst₂ (λ (x y : Vec). Cone x y us) lo.1 hi.1 c)

------------------------------------------------------------------------
-- One edge more

module _ {n : ℕ} {W : List ℕ} {k z : ℕ} (g : Growing n W k z) where
  abbrev edge : ℕ → Vec
  edge = edge_at n W

  few : n ≤ 65536
  few = g.edges.few

  some : 0 < z
  some = g.some

  inside : z < n
  inside = g.inside

  pub grow_shut : k ≡ 2 → Grown n edge k z 2
  grow_shut e = record { holds = λ side t. more side; formed = formed_two refl; fits = omega arith }
    where
      more : (side : ℕ → Bool) (us : List Vec) → Holds n side edge k us → Holds n side edge 2 (edge z ∷ us)
      more side us (empty f _) = absurd (omega arith)
      more side us (shut f h) = shut refl (none_more (edge z) h)
      more side us (wide p _ _ _) = absurd (not_two p e)

  -- the cone of the edges of a and b
  packed : (side : ℕ → Bool) (a b : ℕ) → 0 < a → a < n → 0 < b → b < n → side a ≡ true → side b ≡ true
      → (us : List Vec) → Cone (edge a) (edge b) us → Holds n side edge (a * 65536 + b) us
  packed side a b p q r s t u us c =
      wide (pair_of a b few p q r s)
      (subst⁻¹ (λ (i : ℕ). side i ≡ true) low_is t)
      (subst⁻¹ (λ (i : ℕ). side i ≡ true) high_is u)
      (subst₂ (λ (i j : ℕ). Cone (edge i) (edge j) us) (sym low_is) (sym high_is) c)
    where
      low_is : (a * 65536 + b) / 65536 ≡ a
      low_is = high_half a b (omega arith)

      high_is : (a * 65536 + b) % 65536 ≡ b
      high_is = low_half a b (omega arith)

  pub grow_first : {r : ℕ} → k ≡ 1 → Alone z (edge z) r → Grown n edge k z r
  grow_first {r} e first = record { holds = λ side t. more side t first; formed = form first; fits = fit first }
    where
      fit : Alone z (edge z) r → r < 4294967296
      fit (none h q) = omega arith
      fit (one h q) = omega arith

      form : Alone z (edge z) r → Formed n r
      form (none h q) = formed_two q
      form (one h q) = subst⁻¹ (Formed n) q (formed_pair (pair_of z z few some inside some inside))

      more : (side : ℕ → Bool) → side z ≡ true → Alone z (edge z) r → (us : List Vec)
          → Holds n side edge k us → Holds n side edge r (edge z ∷ us)
      more side t (none h q) us s = shut q (zero-none (edge z) h.0 h.1)
      more side t (one h q) us (empty f l) =
          subst⁻¹ (λ (c : ℕ). Holds n side edge c (edge z ∷ us)) q
          (packed side z z some inside some inside t t (edge z ∷ us)
          (subst⁻¹ (λ (l : List Vec). Cone (edge z) (edge z) (edge z ∷ l)) l (cone_first (edge z) h)))
      more side t (one h q) us (shut f _) = absurd (omega arith)
      more side t (one h q) us (wide p _ _ _) = absurd (not_one p e)

  module _ (m : Move) (moved : RightMove (edge (k / 65536)) (edge (k % 65536)) (edge z) m) (pair : ConePair n k) where
    -- only a pair has a move
    by_pair : {r : ℕ} → ((side : ℕ → Bool) → side z ≡ true → side (k / 65536) ≡ true → side (k % 65536) ≡ true
        → (us : List Vec) → Cone (edge (k / 65536)) (edge (k % 65536)) us → Holds n side edge r (edge z ∷ us))
        → (side : ℕ → Bool) → side z ≡ true → (us : List Vec) → Holds n side edge k us
        → Holds n side edge r (edge z ∷ us)
    by_pair f side t us (empty e _) = absurd (not_one pair e)
    by_pair f side t us (shut e _) = absurd (not_two pair e)
    by_pair f side t us (wide p a b c) = f side t a b us c

    move : (i : Move) → m ≡ i → RightMove (edge (k / 65536)) (edge (k % 65536)) (edge z) i
    move i e = subst (RightMove (edge (k / 65536)) (edge (k % 65536)) (edge z)) e moved

    pub grow_keep : m ≡ Keep → Grown n edge k z k
    grow_keep e = record {
      holds = by_pair (λ side t a b us c. wide pair a b ((move Keep e).after us c));
      formed = formed_pair pair;
      fits = pair_fits few pair;
    }

    pub grow_high : m ≡ High → Grown n edge k z (k / 65536 * 65536 + z)
    grow_high e = record {
      holds = by_pair (λ side t a b us c.
          packed side (k / 65536) z pair.low pair.low_in some inside a t (edge z ∷ us) ((move High e).after us c));
      formed = formed_pair (pair_of (k / 65536) z few pair.low pair.low_in some inside);
      fits = omega arith;
    }

    pub grow_low : m ≡ Low → Grown n edge k z (z * 65536 + k % 65536)
    grow_low e = record {
      holds = by_pair (λ side t a b us c.
          packed side z (k % 65536) some inside pair.high pair.high_in t b
          (edge z ∷ us) ((move Low e).after us c));
      formed = formed_pair (pair_of z (k % 65536) few some inside pair.high pair.high_in);
      fits = omega arith;
    }

    pub grow_never : m ≡ Never → Grown n edge k z 2
    grow_never e = record {
      holds = by_pair (λ side t a b us c. shut refl ((move Never e).after us c));
      formed = formed_two refl;
      fits = omega arith;
    }

-- the vectors of the move, as the code has them
pub moved_to : {a a' b b' c c' : Vec} {m : Move} → a ≡ a' → b ≡ b' → c ≡ c' → RightMove a b c m → RightMove a' b' c' m
moved_to {m = m} p q r f = subst₃ (λ (x y z : Vec). RightMove x y z m) p q r f
