-- What is written into a reply fits: the length of a file, since an accepted table is not so large, and a place, since
-- it is one in the lists.
use mathlib.Core.Bool.{true}
use mathlib.Core.List.{List}
use mathlib.Core.Option.{Option, none, some}
use mathlib.Core.Path.{◌≡◌, refl, sym, ap, subst⁻¹, ◌∙◌}
use Prim.Native.Nat.{ℕ, ◌^◌, ◌≤◌, ◌<◌}
use native.Mathlib.Omega.{arith}
use lib.ListN.{length}
use Rattle.laws.specs.Refusals.{or_else_none}
use Rattle.laws.specs.Search.{Refusal, ◌or_else◌, Outcome}
use Rattle.table.specs.Acceptance.{shaped}
use Rattle.table.specs.Table.{large, table_fault, Called}
use Rattle.treefile.specs.Saved.{Saved}
use Rattle.treefile.specs.TreeFile.{Written, saved, write_tree, Wrote}
use Rattle.slopes.specs.declared.Rule.{Rule}
use Rattle.drawing.specs.Drawing.{Sheet, lent, sheet_of}
use Rattle.arranging.specs.Arranging.{lists_fault, lengthen_each}
use Rattle.arranging.specs.Arranged.{Arranged}
use Rattle.arranging.specs.Arranged.{Frame, Refused}
use Rattle.arranging.proofs.EachLaws.{each_place}
use Rattle.replies.specs.Replies.{Short, Near}

few : (P R : List ℕ) (work : ℕ) (b : Option Refusal) → table_fault large P R true work or_else b ≡ none
    → length P ≤ large.nodes
unfolding table_fault
few P R work b e = (shaped large P R true work (or_else_none _ _ (or_else_none _ _ e).0).0).few

short : (f : Option Refusal) (P R B : List ℕ) → (f ≡ none → length P ≤ large.nodes) → Short (saved f P R B).answer
unfolding saved Short
short none P R B h = omega (arith, h refl)
short (some f) P R B h = tt {0}

pub written_short : (P R B W : List ℕ) {C X : List ℕ} {r : Saved} → Wrote large P R B W C X r → Short r
unfolding write_tree
written_short P R B W w =
    subst⁻¹ Short (ap (λ (o : Written). o.answer) w.says) (short _ P R B (few P R (length W) _))

near : (r : Arranged) {m : ℕ} → ((k z p : ℕ) → r ≡ Refused k z p → p ≤ m) → m < 2 ^ 63 → Near r
unfolding Near
near (Frame w h) within low = tt {0}
near (Refused k z p) within low = omega (arith, within k z p refl)

pub arranged_near : (P R : List ℕ) (rule : Rule) (s : Sheet) (W lots counts : List ℕ) {t : Sheet} {X : List ℕ}
    {r : Arranged}
    → Called (lists_fault large P R s (length W) lots counts) W X
    (record { answer = r; left = t } ≡ lengthen_each large P R rule s (length W) lots counts)
    → length lots < 2 ^ 63 → Near r
arranged_near P R rule s W lots counts {r = r} call =
    near r (λ k z p e. each_place large P R rule s (length W) lots counts
    (ap (λ (o : Outcome Arranged Sheet). o.answer) (sym call.says) ∙ e))

------------------------------------------------------------------------
-- The lists of a drawing are left as the drawing that was lent them holds them

pub left_by : (T X Y : List ℕ) {A : Type 0} {T' X' Y' H W V : List ℕ} {f : Option Refusal} {a : A} {o : Outcome A Sheet}
    → T' ≡ T → X' ≡ X → Y' ≡ Y
    → Called f W V (record { answer = a; left = sheet_of (lent T X Y) H } ≡ o)
    → Called f W V (record { answer = a; left = sheet_of (lent T' X' Y') H } ≡ o)
left_by T X Y {H = H} {a = a} t x y call = record {
  says = (λ i. record { answer = a; left = sheet_of (lent (t i) (x i) (y i)) H }) ∙ call.says;
  spared = call.spared;
  long = call.long;
}
