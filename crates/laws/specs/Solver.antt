-- A solver for polynomial identities of whole numbers, by reflection. An expression over numbered variables is brought
-- to a polynomial in Horner's form, and an identity holds where the polynomial of the difference has only zeros:
--     solve (x ∷ y ∷ []) (v 0 ⊗ v 1) (v 1 ⊗ v 0) tt : x *ℤ y ≡ y *ℤ x
use Rattle.std.specs.Prelude.{◌≡◌, refl, List, [], ◌∷◌, Bool, true, false, ℕ, zero, suc, T, ℤ, pos, negsuc, neg_ℤ, ◌+ℤ◌}
use Rattle.std.specs.Prelude.{◌-ℤ◌, ◌*ℤ◌}
use Rattle.std.proofs.Common.{sym, ◌∙◌, ap, ap₂}
use Rattle.std.proofs.Math.IntN.{+ℤ_idl, +ℤ_idr, +ℤ_assoc, +ℤ_comm, *ℤ-zero, *ℤ_comm, one, -ℤ-+ℤ_cancel, *ℤ-one}
use Rattle.std.proofs.Math.IntN.{*ℤ-negsuc}
use Rattle.laws.specs.RingLaws.{swapʳ, distʳ, distˡ, *-assoc}

------------------------------------------------------------------------
-- Expressions

infixl 6 ◌⊕◌ ◌⊖◌
infixl 7 ◌⊗◌
pub data Expr : Type 0 where
  v : ℕ → Expr
  k : ℤ → Expr
  ◌⊕◌ : Expr → Expr → Expr
  ◌⊖◌ : Expr → Expr → Expr
  ◌⊗◌ : Expr → Expr → Expr
  neg : Expr → Expr

abbrev pub headℤ : List ℤ → ℤ
headℤ [] = pos 0
headℤ (x ∷ xs) = x

abbrev pub tailℤ : List ℤ → List ℤ
tailℤ [] = []
tailℤ (x ∷ xs) = xs

abbrev pub look : ℕ → List ℤ → ℤ
look zero ρ = headℤ ρ
look (suc i) ρ = look i (tailℤ ρ)

abbrev pub ⟪◌⟫ : Expr → List ℤ → ℤ
⟪◌⟫ (v i) ρ = look i ρ
⟪◌⟫ (k c) ρ = c
⟪◌⟫ (a ⊕ b) ρ = ⟪◌⟫ a ρ +ℤ ⟪◌⟫ b ρ
⟪◌⟫ (a ⊖ b) ρ = ⟪◌⟫ a ρ -ℤ ⟪◌⟫ b ρ
⟪◌⟫ (a ⊗ b) ρ = ⟪◌⟫ a ρ *ℤ ⟪◌⟫ b ρ
⟪◌⟫ (neg a) ρ = neg_ℤ (⟪◌⟫ a ρ)

------------------------------------------------------------------------
-- Polynomials: a constant, or p + x * q, where p is over the variables after x

pub data Poly : Type 0 where
  con : ℤ → Poly
  hor : Poly → Poly → Poly

abbrev val : Poly → List ℤ → ℤ
val (con c) ρ = c
val (hor p q) ρ = val p (tailℤ ρ) +ℤ headℤ ρ *ℤ val q ρ

abbrev pub add_c : ℤ → Poly → Poly
add_c a (con b) = con (a +ℤ b)
add_c a (hor p q) = hor (add_c a p) q

abbrev pub add : Poly → Poly → Poly
add (con a) r = add_c a r
add (hor p q) (con b) = hor (add_c b p) q
add (hor p q) (hor p' q') = hor (add p p') (add q q')

abbrev pub scale : ℤ → Poly → Poly
scale a (con b) = con (a *ℤ b)
scale a (hor p q) = hor (scale a p) (scale a q)

abbrev pub mul_l : (Poly → Poly) → Poly → Poly
mul_l f (con b) = hor (f (con b)) (con (pos 0))
mul_l f (hor p q) = hor (f p) (mul_l f q)

abbrev pub mul : Poly → Poly → Poly
mul (con a) r = scale a r
mul (hor p q) r = add (mul_l (λ s. mul p s) r) (hor (con (pos 0)) (mul q r))

abbrev pub var : ℕ → Poly
var zero = hor (con (pos 0)) (con (pos 1))
var (suc i) = hor (var i) (con (pos 0))

abbrev pub norm : Expr → Poly
norm (v i) = var i
norm (k c) = con c
norm (a ⊕ b) = add (norm a) (norm b)
norm (a ⊖ b) = add (norm a) (scale (negsuc 0) (norm b))
norm (a ⊗ b) = mul (norm a) (norm b)
norm (neg a) = scale (negsuc 0) (norm a)

abbrev pub noneℤ : ℤ → Bool
noneℤ (pos zero) = true
noneℤ (pos (suc n)) = false
noneℤ (negsuc n) = false

abbrev pub both : Bool → Bool → Bool
both true b = b
both false b = false

abbrev pub none : Poly → Bool
none (con c) = noneℤ c
none (hor p q) = both (none p) (none q)

------------------------------------------------------------------------
-- Each operation is right

-- (a + b) + (c + d) is (a + c) + (b + d)
four : (a b c d : ℤ) → (a +ℤ b) +ℤ (c +ℤ d) ≡ (a +ℤ c) +ℤ (b +ℤ d)
four a b c d = sym (+ℤ_assoc (a +ℤ b) c d) ∙ ap (λ (x : ℤ). x +ℤ d) (swapʳ a b c) ∙ +ℤ_assoc (a +ℤ c) b d

-- a * (x * b) is x * (a * b)
turn : (a x b : ℤ) → a *ℤ (x *ℤ b) ≡ x *ℤ (a *ℤ b)
turn a x b = sym (*-assoc a x b) ∙ ap (λ (z : ℤ). z *ℤ b) (*ℤ_comm a x) ∙ *-assoc x a b

add_c_is : (a : ℤ) (p : Poly) (ρ : List ℤ) → val (add_c a p) ρ ≡ a +ℤ val p ρ
add_c_is a (con b) ρ = refl
add_c_is a (hor p q) ρ =
    ap (λ (z : ℤ). z +ℤ headℤ ρ *ℤ val q ρ) (add_c_is a p (tailℤ ρ)) ∙ +ℤ_assoc a (val p (tailℤ ρ)) (headℤ ρ *ℤ val q ρ)

add_is : (p r : Poly) (ρ : List ℤ) → val (add p r) ρ ≡ val p ρ +ℤ val r ρ
add_is (con a) r ρ = add_c_is a r ρ
add_is (hor p q) (con b) ρ =
    ap (λ (z : ℤ). z +ℤ headℤ ρ *ℤ val q ρ) (add_c_is b p (tailℤ ρ) ∙ +ℤ_comm b (val p (tailℤ ρ)))
    ∙ swapʳ (val p (tailℤ ρ)) b (headℤ ρ *ℤ val q ρ)
add_is (hor p q) (hor p' q') ρ =
    ap₂ (λ (y z : ℤ). y +ℤ headℤ ρ *ℤ z) (add_is p p' (tailℤ ρ)) (add_is q q' ρ)
    ∙ ap (λ (z : ℤ). (val p (tailℤ ρ) +ℤ val p' (tailℤ ρ)) +ℤ z) (distˡ (headℤ ρ) (val q ρ) (val q' ρ))
    ∙ four (val p (tailℤ ρ)) (val p' (tailℤ ρ)) (headℤ ρ *ℤ val q ρ) (headℤ ρ *ℤ val q' ρ)

scale_is : (a : ℤ) (p : Poly) (ρ : List ℤ) → val (scale a p) ρ ≡ a *ℤ val p ρ
scale_is a (con b) ρ = refl
scale_is a (hor p q) ρ =
    ap₂ (λ (y z : ℤ). y +ℤ headℤ ρ *ℤ z) (scale_is a p (tailℤ ρ)) (scale_is a q ρ)
    ∙ ap (λ (z : ℤ). a *ℤ val p (tailℤ ρ) +ℤ z) (sym (turn a (headℤ ρ) (val q ρ)))
    ∙ sym (distˡ a (val p (tailℤ ρ)) (headℤ ρ *ℤ val q ρ))

mul_l_is : (p : Poly) (f : Poly → Poly) → ((s : Poly) (σ : List ℤ) → val (f s) σ ≡ val p σ *ℤ val s σ)
    → (r : Poly) (ρ : List ℤ) → val (mul_l f r) ρ ≡ val p (tailℤ ρ) *ℤ val r ρ
mul_l_is p f h (con b) ρ =
    ap (λ (z : ℤ). val (f (con b)) (tailℤ ρ) +ℤ z) (*ℤ-zero (headℤ ρ)) ∙ +ℤ_idr (val (f (con b)) (tailℤ ρ))
    ∙ h (con b) (tailℤ ρ)
mul_l_is p f h (hor r s) ρ =
    ap₂ (λ (y z : ℤ). y +ℤ headℤ ρ *ℤ z) (h r (tailℤ ρ)) (mul_l_is p f h s ρ)
    ∙ ap (λ (z : ℤ). val p (tailℤ ρ) *ℤ val r (tailℤ ρ) +ℤ z) (sym (turn (val p (tailℤ ρ)) (headℤ ρ) (val s ρ)))
    ∙ sym (distˡ (val p (tailℤ ρ)) (val r (tailℤ ρ)) (headℤ ρ *ℤ val s ρ))

mul_is : (p r : Poly) (ρ : List ℤ) → val (mul p r) ρ ≡ val p ρ *ℤ val r ρ
mul_is (con a) r ρ = scale_is a r ρ
mul_is (hor p q) r ρ =
    add_is (mul_l (λ s. mul p s) r) (hor (con (pos 0)) (mul q r)) ρ
    ∙ ap₂ (λ (y z : ℤ). y +ℤ (pos 0 +ℤ headℤ ρ *ℤ z)) (mul_l_is p (λ s. mul p s) (λ s σ. mul_is p s σ) r ρ)
    (mul_is q r ρ)
    ∙ ap (λ (z : ℤ). val p (tailℤ ρ) *ℤ val r ρ +ℤ z)
    (+ℤ_idl (headℤ ρ *ℤ (val q ρ *ℤ val r ρ)) ∙ sym (*-assoc (headℤ ρ) (val q ρ) (val r ρ)))
    ∙ sym (distʳ (val p (tailℤ ρ)) (headℤ ρ *ℤ val q ρ) (val r ρ))

var_is : (i : ℕ) (ρ : List ℤ) → val (var i) ρ ≡ look i ρ
unfolding one
var_is zero ρ = +ℤ_idl (headℤ ρ *ℤ pos 1) ∙ *ℤ-one (headℤ ρ)
var_is (suc i) ρ =
    ap (λ (z : ℤ). val (var i) (tailℤ ρ) +ℤ z) (*ℤ-zero (headℤ ρ)) ∙ +ℤ_idr (val (var i) (tailℤ ρ)) ∙ var_is i (tailℤ ρ)

-- minus one times z is the negation
minus : (z : ℤ) → negsuc 0 *ℤ z ≡ neg_ℤ z
unfolding one
minus z = *ℤ_comm (negsuc 0) z ∙ *ℤ-negsuc z 0 ∙ ap neg_ℤ (*ℤ-one z)

norm_is : (e : Expr) (ρ : List ℤ) → val (norm e) ρ ≡ ⟪◌⟫ e ρ
norm_is (v i) ρ = var_is i ρ
norm_is (k c) ρ = refl
norm_is (a ⊕ b) ρ = add_is (norm a) (norm b) ρ ∙ ap₂ ◌+ℤ◌ (norm_is a ρ) (norm_is b ρ)
norm_is (a ⊖ b) ρ =
    add_is (norm a) (scale (negsuc 0) (norm b)) ρ
    ∙ ap₂ ◌+ℤ◌ (norm_is a ρ) (scale_is (negsuc 0) (norm b) ρ ∙ minus (val (norm b) ρ) ∙ ap neg_ℤ (norm_is b ρ))
norm_is (a ⊗ b) ρ = mul_is (norm a) (norm b) ρ ∙ ap₂ ◌*ℤ◌ (norm_is a ρ) (norm_is b ρ)
norm_is (neg a) ρ = scale_is (negsuc 0) (norm a) ρ ∙ minus (val (norm a) ρ) ∙ ap neg_ℤ (norm_is a ρ)

noneℤ_is : (z : ℤ) → T (noneℤ z) → z ≡ pos 0
noneℤ_is (pos zero) t = refl
noneℤ_is (pos (suc n)) t = absurd t
noneℤ_is (negsuc n) t = absurd t

both_is : (a b : Bool) → T (both a b) → T a × T b
both_is true b t = (tt, t)
both_is false b t = absurd t

none_is : (p : Poly) (ρ : List ℤ) → T (none p) → val p ρ ≡ pos 0
none_is (con c) ρ t = noneℤ_is c t
none_is (hor p q) ρ t =
    ap₂ (λ (y z : ℤ). y +ℤ headℤ ρ *ℤ z) (none_is p (tailℤ ρ) (both_is (none p) (none q) t).0)
    (none_is q ρ (both_is (none p) (none q) t).1)
    ∙ ap (λ (z : ℤ). pos 0 +ℤ z) (*ℤ-zero (headℤ ρ))

-- a - b is zero: a is b
pub same : (a b : ℤ) → a -ℤ b ≡ pos 0 → a ≡ b
same a b h = sym (-ℤ-+ℤ_cancel a b) ∙ ap (λ (z : ℤ). z +ℤ b) h ∙ +ℤ_idl b

pub solve : (ρ : List ℤ) (a b : Expr) → T (none (norm (a ⊖ b))) → ⟪◌⟫ a ρ ≡ ⟪◌⟫ b ρ
solve ρ a b t = same (⟪◌⟫ a ρ) (⟪◌⟫ b ρ) (sym (norm_is (a ⊖ b) ρ) ∙ none_is (norm (a ⊖ b)) ρ t)
