-- Columns at limits within others. The small cabinet has no call for them: the large one's answer, and whether the
-- small cabinet's lengthen accepts its count, say what the answer is there.
--
--   narrowed S .. r == the answer r where lengthen at the limits S accepts its count, and else None
--   narrow_says     == so the answer at S follows from that at wider limits, of a sheet within S
--   small_says      == and on the small cabinet from that of the large one
use Rattle.std.specs.Prelude.{Bool, cond, List, ◌≡◌, ℕ, ◌≤◌, length, get_or}
use Rattle.std.proofs.Math.Bool.{true, false}
use Rattle.std.proofs.Math.Logic.{⊎_elim}
use Rattle.std.proofs.Math.Path.{refl}
use Rattle.std.proofs.Common.{sym, ap, subst, ◌∙◌}
use Rattle.laws.specs.Search.{Outcome}
use Rattle.laws.specs.Tests.{differ}
use Rattle.table.specs.declared.Limits.{Limits}
use Rattle.table.specs.Table.{large, small}
use Rattle.slopes.specs.declared.Rule.{Rule}
use Rattle.drawing.specs.Framed.{Framed}
use Rattle.drawing.specs.Drawing.{Sheet, accepted}
use Rattle.stretching.specs.Stretching.{lengthen}
use Rattle.small.specs.Small.{Narrower, Near}
use Rattle.small.proofs.SmallLaws.{lot_same, lengthen_same_or_far, small-within}
use Rattle.aligning.specs.Aligning.{Brings, Says}
use Rattle.aligning.specs.AlignLaws.{unrefused, one_bringing}
use Rattle.aligning.specs.Aligned.{Aligned}
use Rattle.aligning.specs.Aligned.{Count, None, Refused}

module _ (S : Limits) (P R : List ℕ) (rule : Rule) (s : Sheet) (work v : ℕ) where
  abbrev takes : ℕ → Bool
  takes c = accepted (lengthen S P R rule s work v c).answer

  unfoldable pub narrowed : Aligned → Aligned
  narrowed (Count c) = cond (takes c) (Count c) None
  narrowed None = None
  narrowed (Refused k z) = Refused k z

module _ {S L : Limits} (within : Narrower S L) (P R : List ℕ) (rule : Rule) (s : Sheet) (work : ℕ)
    (few : length P ≤ S.nodes) (near : Near S.place (length P) s) (v column : ℕ) where
  -- where lengthen at S accepts, it is lengthen at L
  accepted_same : (c : ℕ) → takes S P R rule s work v c ≡ true
      → lengthen S P R rule s work v c ≡ lengthen L P R rule s work v c
  unfolding accepted
  accepted_same c t =
      ⊎_elim (λ same. same) (λ far. absurd (differ t (ap (λ (o : Outcome Framed Sheet). accepted o.answer) far)))
      (lengthen_same_or_far within P R rule s work few near v c)

  abbrev Lands : Outcome Framed Sheet → Type 0
  Lands o = (accepted o.answer ≡ true) × (get_or o.left.drawing.x v 0 ≡ column)

  brings_wider : {c : ℕ} → Brings S P R rule s work v column c → Brings L P R rule s work v column c
  brings_wider {c} b =
      let there = subst Lands (accepted_same c b.accepted) (b.accepted, b.there) in
      record { accepted = there.0; there = there.1 }

  brings_narrower : {c : ℕ} → takes S P R rule s work v c ≡ true → Brings L P R rule s work v column c
      → Brings S P R rule s work v column c
  brings_narrower {c} t b =
      let there = subst Lands (sym (accepted_same c t)) (b.accepted, b.there) in
      record { accepted = there.0; there = there.1 }

  pub narrow_says : (r : Aligned) → Says L P R rule s work v column r
      → Says S P R rule s work v column (narrowed S P R rule s work v r)
  unfolding Says narrowed
  narrow_says (Count c) a = go (takes S P R rule s work v c) refl
    where
      go : (b : Bool) → takes S P R rule s work v c ≡ b → Says S P R rule s work v column (cond b (Count c) None)
      go true t = brings_narrower t a
      go false f = (
        lot_same within P R rule s work few near v ∙ unrefused L P R rule s work v column a,
        λ d b. differ (subst (λ n. takes S P R rule s work v n ≡ true)
            (one_bringing L P R rule s work v column (brings_wider b) a) b.accepted) f,
      )
  narrow_says None a = (lot_same within P R rule s work few near v ∙ a.0, λ d b. a.1 d (brings_wider b))
  narrow_says (Refused k z) a = lot_same within P R rule s work few near v ∙ a

pub small_says : (P R : List ℕ) (rule : Rule) (s : Sheet) (work : ℕ) → length P ≤ small.nodes
    → Near small.place (length P) s → (v column : ℕ) (r : Aligned) → Says large P R rule s work v column r
    → Says small P R rule s work v column (narrowed small P R rule s work v r)
small_says = narrow_says small-within
