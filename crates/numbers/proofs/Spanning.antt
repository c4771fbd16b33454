-- What the call's tests and copies say of its outcome.
use mathlib.Core.Bool.{Bool}
use mathlib.Core.List.{List}
use mathlib.Core.Path.{◌≡◌, sym, ap, ap₂, subst, ◌∙◌}
use Prim.Native.Nat.{ℕ, ◌*◌, ◌^◌, ◌<◌}
use native.Mathlib.Omega.{arith}
use lib.ListN.{length, get_or}
use Rattle.laws.specs.Refusals.{settle-none, settle_some}
use Rattle.laws.specs.SearchLaws.{tabulate_is}
use Rattle.table.specs.Acceptance.{Shape, accepting, two_long}
use Rattle.table.specs.Counted.{Nodes, Refused}
use Rattle.table.specs.declared.Limits.{Limits}
use Rattle.table.specs.Validity.{Validity}
use Rattle.table.specs.Validity.{Accepted, Refused as Invalid}
use Rattle.table.specs.Numbering.{Numbered}
use Rattle.table.specs.Parts.{Copied, Prepared, fault, no_fault}
use Rattle.table.specs.Table.{large, first_number, post_number}
use Rattle.numbers.specs.PostNumbers.{Spans, spans, both_long, spans_of, post_numbers, Spanned}

-- the lists of an accepted call
pub record Room (P : List ℕ) (s : Spans) (X : List ℕ) : Type 0 where
  pub few : length P < 2 ^ 32
  pub first : length s.first ≡ length P
  pub last : length s.last ≡ length P
  pub work : length X ≡ 4 * length P

-- after the tests, which leave X in the work list W
module _ (P R : List ℕ) (s : Spans) {L : Limits} (is_large : L ≡ large) {long : Bool} (is_long : long ≡ both_long P s)
    {W X : List ℕ} {r : Validity} (given : Prepared L P R long W X r) where
  prepared : Prepared large P R (both_long P s) W X r
  prepared =
      subst (λ (b : Bool). Prepared large P R b W X r) is_long
      (subst (λ (l : Limits). Prepared l P R long W X r) is_large given)

  pub refused : {k z : ℕ} → r ≡ Invalid k z → Spanned large P R s W s X (Refused k z)
  unfolding post_numbers
  refused e = record {
    says = sym (settle_some Refused s (Nodes (length P)) (spans_of P R) _ (fault prepared e));
    spared = prepared.spared;
    long = prepared.long;
  }

  module _ (ok : r ≡ Accepted) where
    shape : Shape large P R (both_long P s) (length W)
    shape = (accepting large P R _ (length W) (no_fault prepared ok)).shape

    lengths : (length s.first ≡ length P) × (length s.last ≡ length P)
    lengths = two_long (length P) s.first s.last shape.others

    pub room : Room P s X
    room = record {
      few = omega (arith, shape.few);
      first = lengths.0;
      last = lengths.1;
      work = prepared.long ∙ shape.work_long;
    }

    -- first and last numbers as `number` left them in the work list
    pub copied : {F G : List ℕ} → Copied F X (2 * length P) × (length F ≡ length s.first)
        → Copied G X 0 × (length G ≡ length s.last)
        → Spanned large P R s W (spans F G) X (Nodes (length P))
    unfolding post_numbers spans_of
    copied {F} {G} f g = record {
      says = ap₂ (λ (x y : List ℕ). record { answer = Nodes (length P); left = spans x y })
          (tabulate_is F (length P) (first_number P R) (f.1 ∙ lengths.0)
          (λ v l. sym (f.0.same v (omega (arith, f.1, lengths.0))) ∙ numbers.first v l))
          (tabulate_is G (length P) (post_number P R) (g.1 ∙ lengths.1)
          (λ v l. sym (g.0.same v (omega (arith, g.1, lengths.1))) ∙ ap (λ (i : ℕ). get_or X i 0) (omega arith)
          ∙ numbers.last v l))
          ∙ sym (settle-none Refused s (Nodes (length P)) (spans_of P R) _ (no_fault prepared ok));
      spared = prepared.spared;
      long = prepared.long;
    }
      where
        numbers : Numbered P R X
        numbers = (prepared.left ok).numbers
