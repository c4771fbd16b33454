-- Writing numbers as bytes, and the whole file.
use mathlib.Core.Bool.{true, not}
use mathlib.Core.List.{List, ◌∷◌, ◌++◌}
use mathlib.Core.Option.{Option, none}
use mathlib.Core.Path.{◌≡◌, sym, ap, ◌∙◌}
use Prim.Native.Nat.{ℕ, zero, suc, ◌+◌, ◌-◌, ◌*◌, ◌/◌, ◌%◌, ◌≤◌, ◌<◌}
use native.Mathlib.Omega.{arith}
use lib.ListN.{length, get_or, length-append, get_or-append}
use borrow.Rule.Slice.PartMut.{put_mid}
use Rattle.std.proofs.Common.{rules}
use Rattle.std.proofs.lemmas.List.{places}
use lib.Seq.{ext_get_or, get_or-append-add}
use borrow.Author.Tests.{eq-eqb, ne_eqb}
use Rattle.laws.specs.Refusals.{or_else_first, or_else_second, refuse_yes, refuse_no}
use Rattle.laws.specs.Regions.{Only}
use Rattle.laws.specs.Search.{Refusal}
use Rattle.laws.specs.Tests.{by_lt}
use Rattle.table.specs.Acceptance.{validity-accepted, validity_refused, Accepting, accepting}
use Rattle.table.specs.declared.Limits.{Limits}
use Rattle.table.specs.Validity.{Validity}
use Rattle.table.specs.Validity.{Accepted, Refused}
use Rattle.table.specs.Table.{table_fault}
use Rattle.table.specs.Parts.{Validated}
use Rattle.treefile.specs.Parts.{WordPut, Encoded}
use Rattle.treefile.specs.Saved.{Bytes, Unsaved}
use Rattle.treefile.proofs.FileLaws.{length_all_bytes, byte_at}
use Rattle.treefile.specs.TreeFile.{bytes_of, all_bytes, file_of, saved, write_tree, Wrote}

-- the bytes of w, copied over those from i on
pub word_put : {C : List ℕ} (B : List ℕ) (i w : ℕ) → i + 3 < length B → C ≡ bytes_of w
    → WordPut B (put_mid i (i + 4 - i) B C) i w
unfolding bytes_of
word_put {C} B i w h e = record {
  at = λ k m. at_them k (omega arith) ∙ ap (λ (l : List ℕ). get_or l k 0) e;
  kept = record {
    long = search (rules, places);
    below = λ k l. grind (arith, places);
    above = λ k l. grind (arith, places);
  };
}
  where
    four : length C ≡ 4
    four = ap length e

    at_them : (k : ℕ) → k < 4 → get_or (put_mid i (i + 4 - i) B C) (i + k) 0 ≡ get_or C k 0
    at_them k m = grind (arith, places)

------------------------------------------------------------------------
-- The numbers of a list, one after the other

pub record Encoding (l B C : List ℕ) (a v : ℕ) : Type 0 where
  pub upto : v ≤ length l
  pub done : (u k : ℕ) → u < v → k < 4 → get_or C (a + 4 * u + k) 0 ≡ get_or (bytes_of (get_or l u 0)) k 0
  pub kept : Only a (a + 4 * length l) B C

------------------------------------------------------------------------
-- The whole file: n, the parents, the ranks

pub file_written : {P R B B₁ B₂ B₃ : List ℕ} → length R ≡ length P → length B ≡ 4 + 8 * length P
    → WordPut B B₁ 0 (length P)
    → Encoded P B₁ B₂ 4 → Encoded R B₂ B₃ (4 + 4 * length P) → B₃ ≡ file_of P R
unfolding file_of
file_written {P} {R} {B} {B₁} {B₂} {B₃} ranks long f p r =
    ext_get_or 0 B₃ (all_bytes numbers)
    (r.kept.long ∙ p.kept.long ∙ f.kept.long ∙ long ∙ omega (arith, length_all_bytes numbers, numbers_long))
    (λ i l.
    let e : i ≡ 4 * (i / 4) + i % 4 = omega arith in
    let b : i / 4 < 1 + 2 * length P = omega arith in
    ap (λ (x : ℕ). get_or B₃ x 0) e
    ∙ here (i / 4) (i % 4) b (omega arith)
    ∙ sym (byte_at numbers (i / 4) (i % 4) (omega (arith, numbers_long)) (omega arith))
    ∙ ap (λ (x : ℕ). get_or (all_bytes numbers) x 0) (sym e))
  where
    numbers : List ℕ
    numbers = length P ∷ (P ++ R)

    numbers_long : length numbers ≡ 1 + 2 * length P
    numbers_long = omega (arith, length-append P R)

    here : (v k : ℕ) → v < 1 + 2 * length P → k < 4 → get_or B₃ (4 * v + k) 0 ≡ get_or (bytes_of (get_or numbers v 0)) k 0
    here zero k b m =
        r.kept.below (4 * 0 + k) (omega arith) ∙ p.kept.below (4 * 0 + k) (omega arith) ∙ f.at k m
    here (suc v) k b m =
        by_lt v (length P)
        (λ c.
        r.kept.below (4 * suc v + k) (omega arith)
        ∙ ap (λ (x : ℕ). get_or B₂ x 0) (next v k)
        ∙ p.at v k c m
        ∙ ap (λ (x : ℕ). get_or (bytes_of x) k 0) (sym (get_or-append P R 0 v c)))
        (λ c.
        ap (λ (x : ℕ). get_or B₃ x 0) (further v k c)
        ∙ r.at (v - length P) k (omega arith) m
        ∙ ap (λ (x : ℕ). get_or (bytes_of x) k 0)
        (sym (ap (λ (x : ℕ). get_or (P ++ R) x 0) (split v c) ∙ get_or-append-add P R (v - length P) 0)))
      where
        next : (v k : ℕ) → 4 * suc v + k ≡ 4 + 4 * v + k
        next v k = omega arith

        further : (v k : ℕ) → length P ≤ v → 4 * suc v + k ≡ 4 + 4 * length P + 4 * (v - length P) + k
        further v k c = omega arith

        split : (v : ℕ) → length P ≤ v → v ≡ length P + (v - length P)
        split v c = omega arith

------------------------------------------------------------------------
-- What the writer answers

module _ {L : Limits} {P R W X : List ℕ} {v : Validity} (c : Validated L P R true W X v) where
  pub wrote_refused : (B : List ℕ) {k u : ℕ} → v ≡ Refused k u → Wrote L P R B W B X (Unsaved k u)
  unfolding write_tree saved
  wrote_refused B {k} {u} e = record {
    says = sym (ap (λ (f : Option Refusal). saved f P R B)
        (or_else_first _ _ (validity_refused _ k u (sym c.answer ∙ e))));
    spared = c.spared;
    long = c.kept.long;
  }

  module _ (e : v ≡ Accepted) where
    pub accepted : Accepting L P R true (length W)
    accepted = accepting L P R true (length W) (validity-accepted _ (sym c.answer ∙ e))

    no_fault : table_fault L P R true (length W) ≡ none
    no_fault = validity-accepted _ (sym c.answer ∙ e)

    pub wrote_17 : (B : List ℕ) → (length B ≡ 4 + 8 * length P → ⊥) → Wrote L P R B W B X (Unsaved 17 0)
    unfolding write_tree saved
    wrote_17 B ne = record {
      says = sym (ap (λ (f : Option Refusal). saved f P R B) (or_else_second _ _ no_fault
          ∙ refuse_yes _ 17 0 (ap not (ne_eqb (length B) (4 + 8 * length P) ne))));
      spared = c.spared;
      long = c.kept.long;
    }

    pub wrote_file : (B C : List ℕ) → length B ≡ 4 + 8 * length P → C ≡ file_of P R
        → Wrote L P R B W C X (Bytes (4 + 8 * length P))
    unfolding write_tree saved
    wrote_file B C long is = record {
      says =
          (λ i. record { answer = Bytes (4 + 8 * length P); bytes = is i })
          ∙ sym (ap (λ (f : Option Refusal). saved f P R B) (or_else_second _ _ no_fault
          ∙ refuse_no _ 17 0 (ap not (eq-eqb (length B) (4 + 8 * length P) long))));
      spared = c.spared;
      long = c.kept.long;
    }
