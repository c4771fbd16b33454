-- No two grounds have one number.
use Rattle.std.specs.Prelude.{List, [], ◌∷◌, ◌≡◌, refl, ℕ, zero, suc, ◌*◌, ◌≤◌, ◌<◌, ◌⊎◌}
use Rattle.std.proofs.Common.{⊎_elim, inl, inr, sym, ap, subst, ◌∙◌, arith}
use Rattle.std.proofs.Math.Bridge.{le_prop}
use Rattle.faults.specs.declared.Fault.{Fault}
use Rattle.faults.specs.declared.Fault.TheVariants.{NoLots, TooManyLots, WrongLength, WrongRoot, NoSuchParent, WrongRank}
use Rattle.faults.specs.declared.Fault.TheVariants.{Loop, NoSheet, NoSuchLot, NoEdge, WouldPassMaxPlace, CountTooLarge}
use Rattle.faults.specs.declared.Fault.TheVariants.{SameLots, TooManyToCheck, PassesMaxPlace, FileTooShort}
use Rattle.faults.specs.declared.Fault.TheVariants.{WrongFileLength, ExponentTooLarge, ListsDiffer, TooManyForSmall}
use Rattle.faults.specs.declared.Fault.TheVariants.{WouldPassSmallPlace, Held, Other}
use Rattle.faults.specs.declared.unlisted.Unlisted.{Unlisted}
use Rattle.faults.specs.Numbers.{number}

-- the grounds in the order of their numbers, from 0 on; the last one beyond
nth : List Fault → Fault → ℕ → Fault
nth [] last k = last
nth (f ∷ fs) last zero = f
nth (f ∷ fs) last (suc k) = nth fs last k

fault_of : ℕ → Fault
fault_of = nth (NoLots ∷ NoLots ∷ TooManyLots ∷ WrongLength ∷ WrongRoot ∷ NoSuchParent ∷ WrongRank ∷ Loop ∷ NoSheet
    ∷ NoSuchLot ∷ NoEdge ∷ WouldPassMaxPlace ∷ CountTooLarge ∷ SameLots ∷ TooManyToCheck ∷ PassesMaxPlace
    ∷ FileTooShort ∷ WrongFileLength ∷ ExponentTooLarge ∷ ListsDiffer ∷ TooManyForSmall ∷ WouldPassSmallPlace ∷ []) Held

-- a ground of the documents is found by its number, and no other has that number
record Listed (f : Fault) : Type 0 where
  found : fault_of (number f) ≡ f
  low : number f * number f < 23 * number f

told : (f : Fault) → Listed f ⊎ ((o : Unlisted) × (f ≡ Other o))
unfolding nth fault_of
told NoLots = inl (record { found = refl; low = omega arith })
told TooManyLots = inl (record { found = refl; low = omega arith })
told WrongLength = inl (record { found = refl; low = omega arith })
told WrongRoot = inl (record { found = refl; low = omega arith })
told NoSuchParent = inl (record { found = refl; low = omega arith })
told WrongRank = inl (record { found = refl; low = omega arith })
told Loop = inl (record { found = refl; low = omega arith })
told NoSheet = inl (record { found = refl; low = omega arith })
told NoSuchLot = inl (record { found = refl; low = omega arith })
told NoEdge = inl (record { found = refl; low = omega arith })
told WouldPassMaxPlace = inl (record { found = refl; low = omega arith })
told CountTooLarge = inl (record { found = refl; low = omega arith })
told SameLots = inl (record { found = refl; low = omega arith })
told TooManyToCheck = inl (record { found = refl; low = omega arith })
told PassesMaxPlace = inl (record { found = refl; low = omega arith })
told FileTooShort = inl (record { found = refl; low = omega arith })
told WrongFileLength = inl (record { found = refl; low = omega arith })
told ExponentTooLarge = inl (record { found = refl; low = omega arith })
told ListsDiffer = inl (record { found = refl; low = omega arith })
told TooManyForSmall = inl (record { found = refl; low = omega arith })
told WouldPassSmallPlace = inl (record { found = refl; low = omega arith })
told Held = inl (record { found = refl; low = omega arith })
told (Other o) = inr (o, refl)

abbrev unlisted_at : (n : ℕ) → 23 * n ≤ n * n → Unlisted
unlisted_at n p = record { number = n; unlisted = p }

one_unlisted : (a b : Unlisted) → a.number ≡ b.number → a ≡ b
one_unlisted a b e =
    subst (λ n. (p : 23 * n ≤ n * n) → a ≡ unlisted_at n p) e
    (λ p. ap (unlisted_at a.number) (le_prop a.unlisted p)) b.unlisted

apart : (f : Fault) (o : Unlisted) → Listed f → ¬ (number f ≡ o.number)
apart f o l e = absurd (omega (arith, l.low, subst (λ k. 23 * k ≤ k * k) (sym e) o.unlisted))

pub one_number : (f g : Fault) → number f ≡ number g → f ≡ g
one_number f g e =
    ⊎_elim
    (λ a. ⊎_elim
    (λ b. sym a.found ∙ ap fault_of e ∙ b.found)
    (λ b. absurd (apart f b.0 a (e ∙ ap number b.1)))
    (told g))
    (λ a. ⊎_elim
    (λ b. absurd (apart g a.0 b (sym e ∙ ap number a.1)))
    (λ b. a.1 ∙ ap Other (one_unlisted a.0 b.0 (sym (ap number a.1) ∙ e ∙ ap number b.1)) ∙ sym b.1)
    (told g))
    (told f)
