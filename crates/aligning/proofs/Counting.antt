-- The answer from what is read: each test that fails is an obstacle, and a gap that passes them all is filled.
use mathlib.Core.Bool.{Bool, true, false}
use mathlib.Core.List.{List}
use mathlib.Core.Path.{◌≡◌, sym, ap, subst, subst⁻¹, ◌∙◌}
use Prim.Native.Nat.{ℕ, ◌+◌, ◌-◌, ◌*◌, ◌/◌, ◌≤◌, ◌<◌}
use native.Mathlib.Omega.{arith}
use lib.ListN.{length, get_or}
use borrow.Author.Tests.{eq-eqb, ne_eqb}
use Rattle.table.specs.declared.Limits.{Limits}
use Rattle.table.specs.Validity.{Validity}
use Rattle.table.specs.Validity.{Accepted, Refused}
use Rattle.table.specs.Numbering.{NumberedTree}
use Rattle.table.specs.Parts.{fault, no_fault}
use Rattle.slopes.specs.declared.Rule.{Rule}
use Rattle.slopes.specs.declared.Slope.{Slope}
use Rattle.slopes.specs.Slopes.{edge}
use Rattle.drawing.specs.Drawing.{Sheet}
use Rattle.stretching.specs.Calls.{Examined}
use Rattle.stretching.proofs.CallLaws.{examined, examined_again}
use Rattle.stretching.specs.Parts.{Examining}
use Rattle.stretching.specs.Stretching.{beyond}
use Rattle.stretching.specs.Stretches.{longer}
use Rattle.aligning.specs.Aligning.{Says, Aligns}
use Rattle.aligning.specs.AlignLaws.{Obstacle, obstacle_none, left_over, fills_brings, wide}
use Rattle.aligning.specs.Aligned.{Aligned}
use Rattle.aligning.specs.Aligned as aligned

module _ {L : Limits} {P R : List ℕ} {rule : Rule} {s : Sheet} {work v : ℕ} (e : Examined L P R rule s work v)
    (column : ℕ) where
  abbrev Answers-none : Type 0
  Answers-none = Says L P R rule s work v column aligned.None

  blocked : Obstacle L P R rule s work v column → Answers-none
  blocked = obstacle_none L P R rule s work v column (examined_again e e.inspected.sound)

  module _ {k : ℕ} (read : k ≡ get_or s.held v 0) where
    pub held : k ≡ 1 → Answers-none
    held is = blocked (Obstacle.Held (eq-eqb _ 1 (sym read ∙ is)))

    module _ {place : ℕ} (at : place ≡ get_or s.drawing.x v 0) where
      pub to_the_left : column < place → Answers-none
      to_the_left l = blocked (Obstacle.Left (omega arith))

      module _ (l : place ≤ column) {slope : Slope} (is : slope ≡ edge P R rule v) where
        abbrev Even : ℕ → ℕ → Type 0
        Even p a = (column - p) / a * a ≡ column - p

        pub goes_across : 1 ≤ slope.across
        goes_across = subst⁻¹ (λ (t : Slope). 1 ≤ t.across) is (wide L P R rule s work v column e)

        pub no_multiple : ¬ Even place slope.across → Answers-none
        no_multiple uneven =
            blocked (left_over L P R rule s work v column e
            (λ even. uneven (subst⁻¹ (λ p. Even p slope.across) at
            (subst⁻¹ (λ (t : Slope). Even (get_or s.drawing.x v 0) t.across) is even))))

        module _ (c : ℕ) (even : c * slope.across ≡ column - place) {q : Bool}
            (far : q ≡ beyond L.place (length P) (longer P R rule s.drawing v c)) where
          filled : get_or s.drawing.x v 0 + c * (edge P R rule v).across ≡ column
          filled = omega (arith, ap (λ (t : Slope). c * t.across) is)

          pub passes_limit : q ≡ true → Answers-none
          passes_limit t = blocked (Obstacle.Far c filled (sym far ∙ t))

          pub counted : (k ≡ 1 → ⊥) → q ≡ false → Says L P R rule s work v column (aligned.Count c)
          unfolding Says
          counted free near =
              fills_brings L P R rule s work v column e
              (record { free = ne_eqb _ 1 (λ one. free (read ∙ one)); gap = filled; near = sym far ∙ near })

------------------------------------------------------------------------
-- Once the lot is tested

module _ {L : Limits} {P R : List ℕ} (rule : Rule) {s : Sheet} {W X : List ℕ} {r : Validity} (v : ℕ)
    (k : Examining L P R rule s W v X r) where
  pub ready : r ≡ Accepted → Examined L P R rule s (length X) v × NumberedTree P R X
  ready ok = (
    subst⁻¹ (λ n. Examined L P R rule s n v) k.long (examined L P R rule s (length W) v (no_fault k ok)),
    (k.left ok).sized.numbered,
  )

  module _ (column : ℕ) where
    pub refused : {a z : ℕ} → r ≡ Refused a z → Aligns L P R rule s W X v column (aligned.Refused a z)
    unfolding Says
    refused e = record { says = fault k e; spared = k.spared; long = k.long }

    pub answered : (q : Aligned) → Says L P R rule s (length X) v column q → Aligns L P R rule s W X v column q
    answered q a = record {
      says = subst (λ n. Says L P R rule s n v column q) k.long a;
      spared = k.spared;
      long = k.long;
    }
