-- The test of a subtree by post numbers: k is z's number, first and last are those of a's subtree, as the work list has
-- them.
use mathlib.Core.List.{List}
use mathlib.Core.Path.{◌≡◌, ◌∙◌}
use Prim.Native.Nat.{ℕ, ◌+◌, ◌*◌, ◌≤◌, ◌<◌}
use native.Mathlib.Omega.{arith}
use lib.Dec.{leb}
use lib.ListN.{length, get_or}
use borrow.Author.Tests.{leb-true, le-leb}
use Rattle.laws.specs.Tests.{same_test}
use Rattle.table.specs.Numbering.{NumberedTree}
use Rattle.table.specs.Table.{under, post_number, first_number}
use Rattle.table.proofs.NumberingLaws.{in_subtree}
use Rattle.direction.specs.Parts.{TwoNodes}

module _ {P R W : List ℕ} (numbered : NumberedTree P R W) {a z : ℕ} (pair : TwoNodes P a z) {k first last : ℕ}
    (at_k : k ≡ get_or W z 0) (at_first : first ≡ get_or W (2 * length P + a) 0) (at_last : last ≡ get_or W a 0) where
  k_is : k ≡ post_number P R z
  k_is = at_k ∙ numbered.numbers.last z pair.second

  first_is : first ≡ first_number P R a
  first_is = at_first ∙ numbered.numbers.first a pair.first

  last_is : last ≡ post_number P R a
  last_is = at_last ∙ numbered.numbers.last a pair.first

  pub under-by_last : first ≤ k → leb k last ≡ under P a z
  under-by_last h =
      let exact = in_subtree numbered.tree a z pair.first pair.second in
      same_test (leb k last) (under P a z)
      (λ t. exact.1 (omega (arith, k_is, first_is), omega (arith, k_is, last_is, leb-true k last t)))
      (λ t. le-leb k last (omega (arith, k_is, last_is, (exact.0 t).1)))

  pub under-by_first : k < first → leb first k ≡ under P a z
  under-by_first h =
      let exact = in_subtree numbered.tree a z pair.first pair.second in
      same_test (leb first k) (under P a z)
      (λ t. absurd (omega (arith, leb-true first k t)))
      (λ t. le-leb first k (omega (arith, k_is, first_is, (exact.0 t).0)))
