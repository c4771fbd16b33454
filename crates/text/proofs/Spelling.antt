-- Writing a number from its first digit on: what stands is the number without its last digits, d says how many.
use mathlib.Core.List.{List, [], ◌∷◌, ◌++◌, append-nil, append_assoc}
use mathlib.Core.Path.{◌≡◌, refl, sym, ap, ◌∙◌}
use Prim.Native.Nat.{ℕ, zero, suc, ◌+◌, ◌*◌, ◌/◌, ◌%◌, ◌^◌, ◌≤◌, ◌<◌}
use native.Mathlib.Nat.{pow-suc, one-le-pow, div-one, div-le_self, div-div-eq-div-mul, le-div_iff_mul-le}
use native.Mathlib.Nat.{div-lt_iff_lt-mul}
use native.Mathlib.Omega.{arith}
use lib.ListN.{length, length-append}
use Rattle.laws.specs.Tests.{by_lt}
use Rattle.text.specs.Text.{decimal, Appended}
use Rattle.text.proofs.TextLaws.{decimal-one, decimal_last, length-decimal, appended_none, appended_on}
use Rattle.text.proofs.TextLaws.{appended_is}
use Rattle.text.specs.Parts.{Power, Unit}

------------------------------------------------------------------------
-- Powers of ten

pub power_positive : {d : ℕ} → Power d → 0 < d
power_positive p = omega (arith, p.is, one-le-pow p.places 10 (omega arith))

pub power_one : Power 1
power_one = record { places = 0; is = refl }

pub power_next : {d : ℕ} → Power d → Power (10 * d)
power_next {d} p = record { places = suc p.places; is = omega arith }

-- a power above 1 is ten times the one before it
pub power_before : {d : ℕ} → Power d → 1 < d → (d / 10 * 10 ≡ d) × Power (d / 10)
power_before {d} p h = go p.places p.is
  where
    go : (k : ℕ) → d ≡ 10 ^ k → (d / 10 * 10 ≡ d) × Power (d / 10)
    go zero e = absurd (omega arith)
    go (suc k) e =
        let t : d ≡ 10 ^ k * 10 = e ∙ pow-suc 10 k in
        (omega arith, record { places = k; is = omega arith })

------------------------------------------------------------------------
-- The largest power

pub record Climbing (n d : ℕ) : Type 0 where
  pub power : Power d
  pub within : 1 < d → d ≤ n

pub climbing_start : (n : ℕ) → Climbing n 1
climbing_start n = record { power = power_one; within = λ l. absurd (omega arith) }

pub climbing_step : {n d : ℕ} → Climbing n d → 10 * d ≤ n → Climbing n (10 * d)
climbing_step c h = record { power = power_next c.power; within = λ l. h }

pub climbing_low : {n d : ℕ} → Climbing n d → d ≤ n + 1
climbing_low {n} {d} c = by_lt 1 d (λ l. omega (arith, c.within l)) (λ l. omega arith)

pub climbing_end : {n d : ℕ} → Climbing n d → n < 10 * d → Unit n d
climbing_end {n} {d} c h = record {
  power = c.power;
  within = c.within;
  one = (div-lt_iff_lt-mul {k = d} {x = n} {y = 10} (power_positive c.power)).1 h;
}

------------------------------------------------------------------------
-- Digit after digit

pub first_digit : {A B : List ℕ} {at e n d b : ℕ} → Unit n d → b ≡ 48 + n / d % 10 → Appended A B at e (b ∷ [])
    → Appended A B at e (decimal (n / d))
first_digit {n = n} {d} u eb a = appended_is a (ap (λ (x : ℕ). x ∷ []) eb ∙ sym (decimal-one (n / d) u.one))

-- `rest` is what stands after the first digit, which is that of the power d₀
pub record Spelling (A B : List ℕ) (e₀ e n d₀ d : ℕ) : Type 0 where
  pub power : Power d
  pub within : 1 < d → d ≤ n
  pub rest : List ℕ
  pub text : Appended A B e₀ e rest
  pub is : decimal (n / d₀) ++ rest ≡ decimal (n / d)

pub spelling_start : {n d : ℕ} (A : List ℕ) (e : ℕ) → Unit n d → Spelling A A e e n d d
spelling_start {n} {d} A e u = record {
  power = u.power;
  within = u.within;
  rest = [];
  text = appended_none A e;
  is = append-nil (decimal (n / d));
}

module _ {A B : List ℕ} {e₀ e n d₀ d : ℕ} (s : Spelling A B e₀ e n d₀ d) (small : n < 10 ^ 10) (more : 1 < d) where
  tenfold : d / 10 * 10 ≡ d
  tenfold = (power_before s.power more).0

  positive : 0 < d / 10
  positive = power_positive (power_before s.power more).1

  next_is : decimal (n / (d / 10)) ≡ decimal (n / d) ++ ((48 + n / (d / 10) % 10) ∷ [])
  next_is =
      decimal_last (n / (d / 10))
      ((le-div_iff_mul-le {k = d / 10} {x = 10} {y = n} positive).1 (omega (arith, tenfold, s.within more)))
      (omega (arith, div-le_self n (d / 10)))
      ∙ ap (λ (q : ℕ). decimal q ++ ((48 + n / (d / 10) % 10) ∷ []))
      (div-div-eq-div-mul n (d / 10) 10 ∙ ap (λ (q : ℕ). n / q) tenfold)

  -- there is room for the next digit
  pub spelling_room : {Z : List ℕ} {at : ℕ} → Appended Z A at e₀ (decimal (n / d₀)) → e < at + 10
  spelling_room first =
      omega (
        arith,
        first.ends,
        s.text.ends,
        length-decimal (n / (d / 10)),
        ap length next_is,
        ap length s.is,
        length-append (decimal (n / d₀)) s.rest,
        length-append (decimal (n / d)) ((48 + n / (d / 10) % 10) ∷ []),
      )

  pub spelling_step : {C : List ℕ} {f b : ℕ} → b ≡ 48 + n / (d / 10) % 10 → Appended B C e f (b ∷ [])
      → Spelling A C e₀ f n d₀ (d / 10)
  spelling_step {b = b} eb a = record {
    power = (power_before s.power more).1;
    within = λ l. omega (arith, tenfold, s.within more);
    rest = s.rest ++ (b ∷ []);
    text = appended_on s.text a;
    is = sym (append_assoc (decimal (n / d₀)) s.rest (b ∷ []))
        ∙ (λ i. s.is i ++ (eb i ∷ []))
        ∙ sym next_is;
  }

pub spelling_end : {Z A B : List ℕ} {at e₀ e n d₀ d : ℕ} → Appended Z A at e₀ (decimal (n / d₀))
    → Spelling A B e₀ e n d₀ d → d ≤ 1 → Appended Z B at e (decimal n)
spelling_end {n = n} {d = d} first s h =
    appended_is (appended_on first s.text)
    (s.is ∙ ap (λ (q : ℕ). decimal (n / q)) (unit d h (power_positive s.power)) ∙ ap decimal (div-one n))
  where
    unit : (d : ℕ) → d ≤ 1 → 0 < d → d ≡ 1
    unit d h p = omega arith
