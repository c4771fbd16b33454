-- What each test of the call says of its outcome, and that the height is a number of 32 bits.
use mathlib.Core.Bool.{Bool, true, false, not}
use mathlib.Core.List.{List, [], ◌∷◌}
use mathlib.Core.Path.{◌≡◌, sym, ap, ap₂, ◌∙◌}
use Prim.Native.Nat.{ℕ, ◌-◌, ◌*◌, ◌^◌, ◌≤◌, ◌<◌}
use native.Mathlib.Omega.{arith}
use lib.ListN.{length}
use borrow.Author.Tests.{not-false, eq-eqb, ne_eqb, lt-ltb, le-ltb}
use Rattle.faults.specs.Numbers.{number}
use Rattle.laws.specs.Refusals.{refusal, or_else_first, or_else_second, refuse_yes, refuse_no, settle_some}
use Rattle.laws.specs.Search.{Outcome}
use Rattle.table.specs.Acceptance.{two_long}
use Rattle.table.specs.declared.Limits.{Limits}
use Rattle.table.specs.Table.{all_long, large}
use Rattle.slopes.specs.declared.Rule.TheVariants.{Steep}
use Rattle.drawing.specs.Framed.{Framed}
use Rattle.drawing.specs.Framed.{Frame, Refused}
use Rattle.drawing.specs.FreshLaws.{large_roomy}
use Rattle.tallest.proofs.ChainLaws.{tallest_height}
use Rattle.tallest.specs.Tallest.{Table, table_of, chain_of, steep_frame, lent_fault, tallest}
use Rattle.tallest.proofs.TallestLaws.{tallest_answers}

-- the limits L that the code has are the large ones
module _ (n : ℕ) (s : Table) {L : Limits} (is : L ≡ large) where
  at-large : {o : Outcome Framed Table} → o ≡ tallest L n s → o ≡ tallest large n s
  at-large e = e ∙ ap (λ l. tallest l n s) is

  refused : {k : ℕ} → lent_fault L n s ≡ refusal k 0 → record { answer = Refused k 0; left = s } ≡ tallest large n s
  unfolding tallest
  refused e = at-large (sym (settle_some Refused s (steep_frame (chain_of n)) (chain_of n) (lent_fault L n s) e))

  pub no_nodes : n ≡ 0 → record { answer = Refused 1 0; left = s } ≡ tallest large n s
  unfolding lent_fault
  no_nodes e = refused (or_else_first _ _ (refuse_yes _ 1 0 (eq-eqb n 0 e)))

  pub too_many : (n ≡ 0 → ⊥) → L.nodes < n → record { answer = Refused (number L.many) 0; left = s } ≡ tallest large n s
  unfolding lent_fault
  too_many some h =
      refused (or_else_second _ _ (refuse_no _ 1 0 (ne_eqb n 0 some))
      ∙ or_else_first _ _ (refuse_yes _ (number L.many) 0 (lt-ltb L.nodes n h)))

-- n is within the limits, and `long` tells whether the lists are n long
pub record Within (L : Limits) (n : ℕ) (s : Table) (long : Bool) : Type 0 where
  pub is_large : L ≡ large
  pub some : n ≡ 0 → ⊥
  pub few : n ≤ L.nodes
  pub told : long ≡ all_long n (s.parents ∷ s.ranks ∷ [])

pub within : {L : Limits} {n : ℕ} {s : Table} {long : Bool} → L ≡ large → (n ≡ 0 → ⊥) → n ≤ L.nodes
    → long ≡ all_long n (s.parents ∷ s.ranks ∷ []) → Within L n s long
within l z f t = record { is_large = l; some = z; few = f; told = t }

module _ {L : Limits} {n : ℕ} {s : Table} {long : Bool} (c : Within L n s long) where
  pub not_long : not long ≡ true → record { answer = Refused 3 0; left = s } ≡ tallest large n s
  unfolding lent_fault
  not_long e =
      refused n s c.is_large (or_else_second _ _ (refuse_no _ 1 0 (ne_eqb n 0 c.some))
      ∙ or_else_second _ _ (refuse_no _ (number L.many) 0 (le-ltb L.nodes n c.few))
      ∙ refuse_yes _ 3 0 (ap not (sym c.told) ∙ e))

  above : 0 < n
  above = let some = c.some in omega arith

  most : n ≤ large.nodes
  most = omega (arith, c.few, ap (λ (l : Limits). l.nodes) c.is_large)

  pub height_fits : (n * (n - 1) < 2 ^ 32) × (tallest_height n < 2 ^ 32)
  height_fits = let bound = large_roomy.up Steep n most in (omega arith, omega arith)

  module _ (e : not long ≡ false) where
    both : all_long n (s.parents ∷ s.ranks ∷ []) ≡ true
    both = sym c.told ∙ not-false long e

    lengths : (length s.parents ≡ n) × (length s.ranks ≡ n)
    lengths = two_long n s.parents s.ranks both

    pub parents_fit : (0 < length s.parents) × (length s.parents < 2 ^ 32)
    parents_fit = (omega (arith, above, lengths.0), omega (arith, most, lengths.0))

    pub filled : {P R : List ℕ} → P ≡ (chain_of (length s.parents)).parents → R ≡ (chain_of (length s.ranks)).ranks
        → record { answer = Frame n (tallest_height n); left = table_of P R } ≡ tallest large n s
    filled p r =
        ap₂ (λ (x y : List ℕ). record { answer = Frame n (tallest_height n); left = table_of x y })
        (p ∙ ap (λ k. (chain_of k).parents) lengths.0) (r ∙ ap (λ k. (chain_of k).ranks) lengths.1)
        ∙ at-large n s c.is_large (sym (tallest_answers L n s above c.few both))
