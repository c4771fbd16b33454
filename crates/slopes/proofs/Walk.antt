-- The walk from the root to a position: the turns that are left lead from where it stands to the position's fraction.
--
--   Walk k t j low high bit == the turns of the bits above `bit` towards position j of k levels, which ends in t zeros,
--                              lead between the neighbours low and high
use mathlib.Core.Path.{◌≡◌, sym, ap, ◌∙◌}
use Prim.Native.Nat.{ℕ, suc, ◌+◌, ◌-◌, ◌*◌, ◌/◌, ◌^◌, ◌≤◌, ◌<◌}
use native.Mathlib.Nat.{pow-suc}
use native.Mathlib.Omega.{arith}
use lib.Bits.{bit_and, and_mask}
use lib.Pow.{pow_mono}
use Rattle.slopes.specs.declared.Slope.{Slope}
use Rattle.slopes.proofs.Descent.{descent, Ends, ends_below, descent_is, descent_right, descent_left}
use Rattle.slopes.proofs.LevelLaws.{Part, across_part, up_part}
use Rattle.slopes.specs.Slopes.{across_of, up_of, ◌⊕◌, flat, upright, fraction_at}

pub record Walk (k t j : ℕ) (low high : Slope) (bit : ℕ) : Type 0 where
  pub within : t ≤ bit
  pub inside : bit < k
  pub leads : fraction_at k j ≡ descent (bit - t) t j low high
  pub small : (f : Slope → ℕ) → Part f → f low + f high ≤ 2 ^ (k - 1 - bit)

pub walk_start : (k t j : ℕ) → j < 2 ^ k → Ends j t → Walk k t j flat upright (k - 1)
walk_start k t j h e =
    let within = ends_below j t k e h in
    record {
      within = omega arith;
      inside = omega arith;
      leads = descent_is k t j flat upright h e;
      small = λ f part. let none : k - 1 - (k - 1) ≡ 0 = omega arith in rw none (omega arith);
    }

module _ {k t j : ℕ} {low high : Slope} {bit : ℕ} (w : Walk k t j low high bit) where
  pub walk_fits : k ≤ 32 → (low.across + high.across < 2 ^ 32) × (low.up + high.up < 2 ^ 32)
  walk_fits b =
      let early : k - 1 - bit ≤ 31 = omega arith in
      let below : 2 ^ (k - 1 - bit) ≤ 2 ^ 31 = pow_mono early in
      (omega (arith, w.small across_of across_part), omega (arith, w.small up_of up_part))

  -- a turn to neighbours that lead on, whose parts are at most twice as large
  turned : (low' high' : Slope) → t < bit
      → descent (bit - t) t j low high ≡ descent (bit - 1 - t) t j low' high'
      → ((f : Slope → ℕ) → Part f → f low' + f high' ≤ 2 * (f low + f high)) → Walk k t j low' high' (bit - 1)
  turned low' high' more on grown =
      let next : k - 1 - (bit - 1) ≡ suc (k - 1 - bit) = omega arith in
      let doubled : 2 ^ (k - 1 - (bit - 1)) ≡ 2 ^ (k - 1 - bit) * 2 = ap (λ i. 2 ^ i) next ∙ pow-suc 2 (k - 1 - bit) in
      record {
        within = omega arith;
        inside = omega arith;
        leads = w.leads ∙ on;
        small = λ f part. omega (arith, grown f part, w.small f part);
      }

  -- the turn that the bit says
  pub walk_right : t < bit → bit_and (j / 2 ^ bit) 1 ≡ 1 → Walk k t j (low ⊕ high) high (bit - 1)
  walk_right more one =
      turned (low ⊕ high) high more
      (descent_right bit t j low high more (rw (← and_mask (j / 2 ^ bit) 1) one))
      (λ f part. omega (arith, part.adds low high))

  pub walk_left : t < bit → (bit_and (j / 2 ^ bit) 1 ≡ 1 → ⊥) → Walk k t j low (low ⊕ high) (bit - 1)
  walk_left more other =
      turned low (low ⊕ high) more
      (descent_left bit t j low high more (rw (← and_mask (j / 2 ^ bit) 1) other))
      (λ f part. omega (arith, part.adds low high))

  -- no turn is left
  pub walk_end : bit ≤ t → low ⊕ high ≡ fraction_at k j
  unfolding descent
  walk_end last =
      let done : bit - t ≡ 0 = omega arith in
      sym (w.leads ∙ ap (λ i. descent i t j low high) done)
