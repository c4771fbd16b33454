-- One lengthen after another: what the call says of all of them is what it says of those that are left, on the sheet at
-- hand.
use mathlib.Core.List.{List, [], ◌∷◌}
use mathlib.Core.Path.{◌≡◌, sym, ap, ap₂, ◌∙◌}
use Prim.Native.Nat.{ℕ, ◌+◌}
use native.Mathlib.Omega.{arith}
use lib.ListN.{length}
use Rattle.table.specs.declared.Limits.{Limits}
use Rattle.table.specs.Validity.{Validity}
use Rattle.table.specs.Validity.{Accepted, Refused}
use Rattle.slopes.specs.declared.Rule.{Rule}
use Rattle.drawing.specs.Framed.{Framed}
use Rattle.drawing.specs.Drawing.{Sheet, frame}
use Rattle.stretching.specs.Parts.{Opened, framing}
use Rattle.stretching.proofs.Openings.{opened_after}
use Rattle.stretching.specs.Stretching.{lengthen}
use Rattle.arranging.specs.Arranged.{Arranged}
use Rattle.arranging.specs.Arranged as answer
use Rattle.arranging.specs.Arranging.{at_place, in_turn}
use Rattle.arranging.proofs.EachLaws.{turn_goes_on, turn_stops}

-- s is the sheet at the start, t what the first i lengthens leave, and ls and cs are the lots and counts that are left
pub record Turning (L : Limits) (P R : List ℕ) (rule : Rule) (W : List ℕ) (s : Sheet) (lots counts : List ℕ)
    (t : Sheet) (i : ℕ) (ls cs : List ℕ) : Type 0 where
  pub opened : Opened L P R rule t W
  pub same : length cs ≡ length ls
  pub rest : in_turn L P R rule (length W) s 1 lots counts ≡ in_turn L P R rule (length W) t (i + 1) ls cs

module _ {L : Limits} {P R : List ℕ} {rule : Rule} {W : List ℕ} {s : Sheet} {lots counts : List ℕ} {t : Sheet} {i : ℕ}
    {ls cs : List ℕ} (r : Turning L P R rule W s lots counts t i ls cs) where
  module _ {v c : ℕ} {ls' cs' : List ℕ} (lot : ls ≡ v ∷ ls') (count : cs ≡ c ∷ cs') {p : ℕ} (place : p ≡ i + 1) where
    here : in_turn L P R rule (length W) s 1 lots counts
        ≡ in_turn L P R rule (length W) t p (v ∷ ls') (c ∷ cs')
    here =
        r.rest
        ∙ ap₂ (in_turn L P R rule (length W) t (i + 1)) lot count
        ∙ ap (λ k. in_turn L P R rule (length W) t k (v ∷ ls') (c ∷ cs')) (sym place)

    pub turning_step : {a : Validity} {u : Sheet} → framing a u ≡ lengthen L P R rule t (length W) v c → a ≡ Accepted
        → Turning L P R rule W s lots counts u p ls' cs'
    unfolding framing frame
    turning_step {a} {u} did ok = record {
      opened = opened_after r.opened v c a u did;
      same = omega (arith, r.same, ap length lot, ap length count);
      rest = here
          ∙ turn_goes_on L P R rule (length W) t p v c ls' cs' (sym did ∙ ap (λ b. framing b u) ok);
    }

    pub turning_refused : {a : Validity} {u : Sheet} {k z : ℕ} → framing a u ≡ lengthen L P R rule t (length W) v c
        → a ≡ Refused k z
        → record { answer = answer.Refused k z p; left = u } ≡ in_turn L P R rule (length W) s 1 lots counts
    unfolding framing
    turning_refused {a} {u} did e =
        sym (here ∙ turn_stops L P R rule (length W) t p v c ls' cs' (sym did ∙ ap (λ b. framing b u) e))

  pub turning_end : {q : Framed} {a : Arranged} → ls ≡ [] → q ≡ frame t.drawing → a ≡ at_place q 0
      → record { answer = a; left = t } ≡ in_turn L P R rule (length W) s 1 lots counts
  unfolding in_turn
  turning_end {q} {a} none fr is =
      ap (λ (b : Arranged). record { answer = b; left = t }) (is ∙ ap (λ (f : Framed). at_place f 0) fr)
      ∙ sym (r.rest ∙ ap (λ l. in_turn L P R rule (length W) t (i + 1) l cs) none)
