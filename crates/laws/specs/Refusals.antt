-- Laws of refusals in order.
use Rattle.std.specs.Prelude.{Bool, true, false, ◌≡◌, refl, ℕ, ◌≤◌, ◌<◌, ltb}
use Rattle.std.proofs.Math.Option.{Option, none, some}
use Rattle.std.proofs.Common.{sym, ap, ◌∙◌, arith, lt-ltb, le-ltb, ltb-false}
use Rattle.laws.specs.Search.{least, Refusal, refuse, refuse_least, ◌or_else◌, Outcome, settle}
use Rattle.laws.specs.SearchLaws.{least-none, least_is}
use Rattle.laws.specs.Tests.{differ}

abbrev pub refusal : ℕ → ℕ → Option Refusal
refusal k v = some (record { number = k; node = v })

is_none : Option Refusal → Bool
is_none none = true
is_none (some f) = false

pub some_not_none : {f : Refusal} → some f ≡ none → ⊥
unfolding is_none
some_not_none e = differ (ap is_none e) refl

-- a call is refused or not, and with one refusal
pub never_both : {o : Option Refusal} {f : Refusal} → o ≡ none → o ≡ some f → ⊥
never_both p q = some_not_none (sym q ∙ p)

pub same_refusal : {A : Type 0} (refused : ℕ → ℕ → A) {o : Option Refusal} {f g : Refusal} → o ≡ some f → o ≡ some g
    → refused f.number f.node ≡ refused g.number g.node
same_refusal refused {f = f} {g} p q = let e : f ≡ g = cc in ap (λ (t : Refusal). refused t.number t.node) e

------------------------------------------------------------------------
-- One after the other

pub or_else_first : (a b : Option Refusal) {f : Refusal} → a ≡ some f → a or_else b ≡ some f
or_else_first none b e = absurd (some_not_none (sym e))
or_else_first (some g) b e = e

pub or_else_second : (a b : Option Refusal) → a ≡ none → a or_else b ≡ b
or_else_second none b e = refl
or_else_second (some g) b e = absurd (some_not_none e)

pub or_else_none : (a b : Option Refusal) → a or_else b ≡ none → (a ≡ none) × (b ≡ none)
or_else_none none b e = (refl, e)
or_else_none (some g) b e = absurd (some_not_none e)

pub or_else_some : {A : Type 0} (a b : Option Refusal) {f : Refusal} → a or_else b ≡ some f → (a ≡ some f → A)
    → (b ≡ some f → A) → A
or_else_some none b e first second = second e
or_else_some (some g) b e first second = first e

------------------------------------------------------------------------
-- A test

pub refuse_yes : (b : Bool) (k v : ℕ) → b ≡ true → refuse b k v ≡ refusal k v
refuse_yes true k v e = refl
refuse_yes false k v e = absurd (differ e refl)

pub refuse_no : (b : Bool) (k v : ℕ) → b ≡ false → refuse b k v ≡ none
refuse_no true k v e = absurd (differ refl e)
refuse_no false k v e = refl

pub refuse-none : (b : Bool) (k v : ℕ) → refuse b k v ≡ none → b ≡ false
refuse-none true k v e = absurd (some_not_none e)
refuse-none false k v e = refl

-- the number of what is given, here and where another follows
pub refuse_number : (b : Bool) (k v : ℕ) {f : Refusal} → refuse b k v ≡ some f → f.number ≡ k
refuse_number true k v e = cc
refuse_number false k v e = absurd (some_not_none (sym e))

pub refuse_some : {A : Type 0} (b : Bool) (k v : ℕ) (g : Option Refusal) {f : Refusal} → refuse b k v or_else g ≡ some f
    → (f.number ≡ k → A) → (g ≡ some f → A) → A
refuse_some b k v g e first second = or_else_some (refuse b k v) g e (λ q. first (refuse_number b k v q)) second

------------------------------------------------------------------------
-- The least node that fails

pub refuse_least_yes : (k n : ℕ) (test : ℕ → Bool) (v : ℕ) → v ≡ least test n → v < n
    → refuse_least k n test ≡ refusal k v
refuse_least_yes k n test v e l =
    refuse_yes _ k (least test n) (lt-ltb (least test n) n (omega arith)) ∙ ap (refusal k) (sym e)

pub refuse_least_no : (k n : ℕ) (test : ℕ → Bool) (v : ℕ) → v ≡ least test n → n ≤ v → refuse_least k n test ≡ none
refuse_least_no k n test v e l = refuse_no _ k (least test n) (le-ltb (least test n) n (omega arith))

pub refuse_least_all : (k n : ℕ) (test : ℕ → Bool) → ((v : ℕ) → v < n → test v ≡ false) → refuse_least k n test ≡ none
refuse_least_all k n test pass =
    refuse_least_no k n test n (least_is test n n (omega arith) pass (λ l. absurd (omega arith))) (omega arith)

pub refuse_least-none : (k n : ℕ) (test : ℕ → Bool) → refuse_least k n test ≡ none → (v : ℕ) → v < n → test v ≡ false
refuse_least-none k n test e = least-none test n (ltb-false (least test n) n (refuse-none _ k (least test n) e))

pub refuse_least_some : {A : Type 0} (k n : ℕ) (test : ℕ → Bool) (g : Option Refusal) {f : Refusal}
    → refuse_least k n test or_else g ≡ some f → (f.number ≡ k → A) → (g ≡ some f → A) → A
refuse_least_some k n test g = refuse_some (ltb (least test n) n) k (least test n) g

------------------------------------------------------------------------
-- A refusal, or the answer with what is left then

module _ {A S : Type 0} (refused : ℕ → ℕ → A) (old : S) (a : A) (new : S) where
  pub settle-none : (f : Option Refusal) → f ≡ none → settle refused f old a new ≡ record { answer = a; left = new }
  settle-none f e = ap (λ o. settle refused o old a new) e

  pub settle_some : (f : Option Refusal) {k v : ℕ} → f ≡ refusal k v
      → settle refused f old a new ≡ record { answer = refused k v; left = old }
  settle_some f e = ap (λ o. settle refused o old a new) e

  -- where the answer is none of a refusal's, nothing was refused
  pub settle-accepted : (f : Option Refusal) {b : A} {s : S} → ((k v : ℕ) → refused k v ≡ b → ⊥)
      → settle refused f old a new ≡ record { answer = b; left = s } → (f ≡ none) × (a ≡ b) × (new ≡ s)
  settle-accepted none other e = (refl, ap (λ (o : Outcome A S). o.answer) e, ap (λ (o : Outcome A S). o.left) e)
  settle-accepted (some r) other e = absurd (other r.number r.node (ap (λ (o : Outcome A S). o.answer) e))
