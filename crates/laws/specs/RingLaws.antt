-- The ring laws of whole numbers that the toolchain's library does not have: a product goes over a sum on either side,
-- and is associative.
use Rattle.std.specs.Prelude.{◌≡◌, zero, suc, ℤ, pos, negsuc, neg_ℤ, ◌+ℤ◌, ◌-ℤ◌, ◌*ℤ◌}
use Rattle.std.proofs.Common.{sym, ◌∙◌, ap}
use Rattle.std.proofs.Math.IntN.{suc_ℤ, pred_ℤ, +ℤ_idl, +ℤ_assoc, +ℤ_comm, suc_ℤ-+ℤ, pred_ℤ-+ℤ, suc_ℤ-*ℤ, pred_ℤ-*ℤ}
use Rattle.std.proofs.Math.IntN.{zero-*ℤ, *ℤ_comm, *ℤ-negsuc, neg_ℤ-neg_ℤ}

-- induction by successor and predecessor
pub ind : (P : ℤ → Type 0) → P (pos zero) → ((k : ℤ) → P k → P (suc_ℤ k)) → ((k : ℤ) → P k → P (pred_ℤ k)) → (k : ℤ) → P k
ind P z s p (pos zero) = z
ind P z s p (pos (suc n)) = s (pos n) (ind P z s p (pos n))
ind P z s p (negsuc zero) = p (pos zero) z
ind P z s p (negsuc (suc n)) = p (negsuc n) (ind P z s p (negsuc n))

-- (a + b) + c is (a + c) + b
pub swapʳ : (a b c : ℤ) → (a +ℤ b) +ℤ c ≡ (a +ℤ c) +ℤ b
swapʳ a b c = +ℤ_assoc a b c ∙ ap (λ (x : ℤ). a +ℤ x) (+ℤ_comm b c) ∙ sym (+ℤ_assoc a c b)

pub distʳ : (m k c : ℤ) → (m +ℤ k) *ℤ c ≡ m *ℤ c +ℤ k *ℤ c
distʳ m k c =
    ind (λ (m : ℤ). (m +ℤ k) *ℤ c ≡ m *ℤ c +ℤ k *ℤ c)
    (ap (λ (x : ℤ). x *ℤ c) (+ℤ_idl k) ∙ sym (ap (λ (x : ℤ). x +ℤ k *ℤ c) (zero-*ℤ c) ∙ +ℤ_idl (k *ℤ c)))
    (λ m h. ap (λ (x : ℤ). x *ℤ c) (suc_ℤ-+ℤ m k) ∙ suc_ℤ-*ℤ (m +ℤ k) c ∙ ap (λ (x : ℤ). x +ℤ c) h
    ∙ swapʳ (m *ℤ c) (k *ℤ c) c ∙ ap (λ (x : ℤ). x +ℤ k *ℤ c) (sym (suc_ℤ-*ℤ m c)))
    (λ m h. ap (λ (x : ℤ). x *ℤ c) (pred_ℤ-+ℤ m k) ∙ pred_ℤ-*ℤ (m +ℤ k) c ∙ ap (λ (x : ℤ). x -ℤ c) h
    ∙ swapʳ (m *ℤ c) (k *ℤ c) (neg_ℤ c) ∙ ap (λ (x : ℤ). x +ℤ k *ℤ c) (sym (pred_ℤ-*ℤ m c)))
    m

pub distˡ : (c m k : ℤ) → c *ℤ (m +ℤ k) ≡ c *ℤ m +ℤ c *ℤ k
distˡ c m k =
    *ℤ_comm c (m +ℤ k) ∙ distʳ m k c ∙ ap (λ (x : ℤ). x +ℤ k *ℤ c) (*ℤ_comm m c)
    ∙ ap (λ (x : ℤ). c *ℤ m +ℤ x) (*ℤ_comm k c)

-- a negation moves out of the first factor
pub neg-* : (k c : ℤ) → neg_ℤ k *ℤ c ≡ neg_ℤ (k *ℤ c)
neg-* (pos zero) c = zero-*ℤ c ∙ sym (ap neg_ℤ (zero-*ℤ c))
neg-* (pos (suc n)) c = *ℤ_comm (negsuc n) c ∙ *ℤ-negsuc c n ∙ ap neg_ℤ (*ℤ_comm c (pos (suc n)))
neg-* (negsuc n) c =
    sym (neg_ℤ-neg_ℤ (pos (suc n) *ℤ c))
    ∙ ap neg_ℤ (ap neg_ℤ (*ℤ_comm (pos (suc n)) c) ∙ sym (*ℤ-negsuc c n) ∙ *ℤ_comm c (negsuc n))

pub *-assoc : (m k c : ℤ) → (m *ℤ k) *ℤ c ≡ m *ℤ (k *ℤ c)
*-assoc m k c =
    ind (λ (m : ℤ). (m *ℤ k) *ℤ c ≡ m *ℤ (k *ℤ c))
    (ap (λ (x : ℤ). x *ℤ c) (zero-*ℤ k) ∙ zero-*ℤ c ∙ sym (zero-*ℤ (k *ℤ c)))
    (λ m h. ap (λ (x : ℤ). x *ℤ c) (suc_ℤ-*ℤ m k) ∙ distʳ (m *ℤ k) k c ∙ ap (λ (x : ℤ). x +ℤ k *ℤ c) h
    ∙ sym (suc_ℤ-*ℤ m (k *ℤ c)))
    (λ m h. ap (λ (x : ℤ). x *ℤ c) (pred_ℤ-*ℤ m k) ∙ distʳ (m *ℤ k) (neg_ℤ k) c ∙ ap (λ (x : ℤ). x +ℤ neg_ℤ k *ℤ c) h
    ∙ ap (λ (x : ℤ). m *ℤ (k *ℤ c) +ℤ x) (neg-* k c) ∙ sym (pred_ℤ-*ℤ m (k *ℤ c)))
    m
