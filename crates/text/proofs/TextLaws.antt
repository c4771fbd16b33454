-- Laws of numbers in base ten and of texts put one after the other.
--
--   decimal_last, decimal-one    == the last digit and the rest; a number of one digit
--   length-decimal, length-field == at most ten digits; the byte after them
--   value_of a l                  == the number that the digits l make, after a
--   decimal_value                == the digits of n make n
--   decimal_plain                == no leading zero
--   appended_on                  == one text after another
use Rattle.std.specs.Prelude.{Bool, cond, List, [], ◌∷◌, ◌++◌, ◌≡◌, refl, ℕ, zero, suc, ◌+◌, ◌-◌, ◌*◌, ◌/◌, ◌%◌, ◌^◌}
use Rattle.std.specs.Prelude.{◌≤◌, ◌<◌, length, get_or, take}
use Rattle.std.proofs.Common.{append-nil, append_assoc, sym, ap, subst, ◌∙◌, arith, length-append}
use Rattle.std.proofs.Common.{lt-ltb, le-ltb}
use Rattle.std.proofs.Math.ListN.{get_or-append}
use Rattle.laws.specs.Tests.{by_lt}
use Rattle.text.specs.Text.{digits, decimal, field, Places, lot_line, lot_lines, Appended}

------------------------------------------------------------------------
-- Digits

-- a number of one digit
pub digits-one : (f n : ℕ) → n < 10 → digits (suc f) n ≡ (48 + n % 10) ∷ []
unfolding digits
digits-one f n h = ap (λ (b : Bool). cond b [] (digits f (n / 10)) ++ ((48 + n % 10) ∷ [])) (lt-ltb n 10 h)

-- a number of more
pub digits_more : (f n : ℕ) → 10 ≤ n → digits (suc f) n ≡ digits f (n / 10) ++ ((48 + n % 10) ∷ [])
unfolding digits
digits_more f n h = ap (λ (b : Bool). cond b [] (digits f (n / 10)) ++ ((48 + n % 10) ∷ [])) (le-ltb n 10 h)

tenth_below : (f n : ℕ) → n < 10 ^ suc (suc f) → n / 10 < 10 ^ suc f
tenth_below f n h = omega arith

-- more fuel than digits adds none
pub digits_enough : (f n : ℕ) → n < 10 ^ suc f → digits (suc (suc f)) n ≡ digits (suc f) n
digits_enough zero n h = digits-one 1 n h ∙ sym (digits-one 0 n h)
digits_enough (suc f) n h =
    by_lt n 10
    (λ l. digits-one (suc (suc f)) n l ∙ sym (digits-one (suc f) n l))
    (λ l.
    digits_more (suc (suc f)) n l
    ∙ ap (λ (d : List ℕ). d ++ ((48 + n % 10) ∷ [])) (digits_enough f (n / 10) (tenth_below f n h))
    ∙ sym (digits_more (suc f) n l))

pub length_digits : (f n : ℕ) → length (digits f n) ≤ f
unfolding digits
length_digits zero n = omega arith
length_digits (suc f) n =
    by_lt n 10
    (λ l. omega (arith, ap length (digits-one f n l)))
    (λ l.
    omega (
      arith,
      ap length (digits_more f n l),
      length-append (digits f (n / 10)) ((48 + n % 10) ∷ []),
      length_digits f (n / 10),
    ))

pub digits_some : (f n : ℕ) → 0 < length (digits (suc f) n)
digits_some f n =
    by_lt n 10
    (λ l. omega (arith, ap length (digits-one f n l)))
    (λ l. omega (arith, ap length (digits_more f n l), length-append (digits f (n / 10)) ((48 + n % 10) ∷ [])))

------------------------------------------------------------------------
-- Numbers in base ten

pub decimal-one : (n : ℕ) → n < 10 → decimal n ≡ (48 + n % 10) ∷ []
unfolding decimal
decimal-one n h = digits-one 9 n h

pub decimal_last : (n : ℕ) → 10 ≤ n → n < 10 ^ 10 → decimal n ≡ decimal (n / 10) ++ ((48 + n % 10) ∷ [])
unfolding decimal
decimal_last n h b =
    digits_more 9 n h
    ∙ ap (λ (d : List ℕ). d ++ ((48 + n % 10) ∷ [])) (sym (digits_enough 8 (n / 10) (omega arith)))

pub length-decimal : (n : ℕ) → length (decimal n) ≤ 10
unfolding decimal
length-decimal n = length_digits 10 n

pub length-field : (n e : ℕ) → length (field n e) ≤ 11
unfolding field
length-field n e = omega (arith, length-append (decimal n) (e ∷ []), length-decimal n)

unfoldable pub value_of : ℕ → List ℕ → ℕ
value_of a [] = a
value_of a (b ∷ l) = value_of (10 * a + (b - 48)) l

value_last : (a : ℕ) (l : List ℕ) (b : ℕ) → value_of a (l ++ (b ∷ [])) ≡ 10 * value_of a l + (b - 48)
unfolding value_of
value_last a [] b = refl
value_last a (c ∷ l) b = value_last (10 * a + (c - 48)) l b

digits_value : (f n : ℕ) → n < 10 ^ suc f → value_of 0 (digits (suc f) n) ≡ n
unfolding value_of
digits_value zero n h = ap (value_of 0) (digits-one 0 n h) ∙ omega arith
digits_value (suc f) n h =
    by_lt n 10
    (λ l. ap (value_of 0) (digits-one (suc f) n l) ∙ omega arith)
    (λ l.
    ap (value_of 0) (digits_more (suc f) n l)
    ∙ value_last 0 (digits (suc f) (n / 10)) (48 + n % 10)
    ∙ ap (λ (q : ℕ). 10 * q + (48 + n % 10 - 48)) (digits_value f (n / 10) (tenth_below f n h))
    ∙ whole n)
  where
    whole : (n : ℕ) → 10 * (n / 10) + (48 + n % 10 - 48) ≡ n
    whole n = omega arith

pub decimal_value : (n : ℕ) → n < 10 ^ 10 → value_of 0 (decimal n) ≡ n
unfolding decimal
decimal_value n h = digits_value 9 n h

digits_plain : (f n : ℕ) → 0 < n → n < 10 ^ suc f → 49 ≤ get_or (digits (suc f) n) 0 0
digits_plain zero n a h = omega (arith, ap (λ (l : List ℕ). get_or l 0 0) (digits-one 0 n h))
digits_plain (suc f) n a h =
    by_lt n 10
    (λ l. omega (arith, ap (λ (d : List ℕ). get_or d 0 0) (digits-one (suc f) n l)))
    (λ l.
    omega (
      arith,
      ap (λ (d : List ℕ). get_or d 0 0) (digits_more (suc f) n l),
      get_or-append (digits (suc f) (n / 10)) ((48 + n % 10) ∷ []) 0 0 (digits_some f (n / 10)),
      digits_plain f (n / 10) (omega arith) (tenth_below f n h),
    ))

-- the first digit of a number other than 0 is not 0
pub decimal_plain : (n : ℕ) → 0 < n → n < 10 ^ 10 → 49 ≤ get_or (decimal n) 0 0
unfolding decimal
decimal_plain n a h = digits_plain 9 n a h

------------------------------------------------------------------------
-- One text after another

pub appended_none : (A : List ℕ) (a : ℕ) → Appended A A a a []
appended_none A a = record { ends = omega arith; text = sym (append-nil (take a A)); long = refl }

pub appended_on : {A B C : List ℕ} {a b c : ℕ} {S T : List ℕ} → Appended A B a b S → Appended B C b c T
    → Appended A C a c (S ++ T)
appended_on {A} {B} {C} {a} {b} {c} {S} {T} p q = record {
  ends = omega (arith, p.ends, q.ends, length-append S T);
  text = q.text ∙ ap (λ (l : List ℕ). l ++ T) p.text ∙ append_assoc (take a A) S T;
  long = q.long ∙ p.long;
}

pub appended_is : {A B : List ℕ} {a e : ℕ} {S T : List ℕ} → Appended A B a e S → S ≡ T → Appended A B a e T
appended_is {A} {B} {a} {e} p q = subst (λ (l : List ℕ). Appended A B a e l) q p

pub length-lot_line : (S : Places) (v : ℕ) → length (lot_line S v) ≤ 55
unfolding lot_line
length-lot_line S v =
    omega (
      arith,
      length-append (field v 32) (field (get_or S.steep_x v 0) 32 ++ (field (get_or S.steep_y v 0) 32
          ++ (field (get_or S.balanced_x v 0) 32 ++ field (get_or S.balanced_y v 0) 10))),
      length-append (field (get_or S.steep_x v 0) 32) (field (get_or S.steep_y v 0) 32
          ++ (field (get_or S.balanced_x v 0) 32 ++ field (get_or S.balanced_y v 0) 10)),
      length-append (field (get_or S.steep_y v 0) 32)
          (field (get_or S.balanced_x v 0) 32 ++ field (get_or S.balanced_y v 0) 10),
      length-append (field (get_or S.balanced_x v 0) 32) (field (get_or S.balanced_y v 0) 10),
      length-field v 32,
      length-field (get_or S.steep_x v 0) 32,
      length-field (get_or S.steep_y v 0) 32,
      length-field (get_or S.balanced_x v 0) 32,
      length-field (get_or S.balanced_y v 0) 10,
    )

pub length-lot_lines : (S : Places) (n : ℕ) → length (lot_lines S n) ≤ 55 * n
unfolding lot_lines
length-lot_lines S zero = omega arith
length-lot_lines S (suc v) =
    omega (arith, length-append (lot_lines S v) (lot_line S v), length-lot_line S v, length-lot_lines S v)
