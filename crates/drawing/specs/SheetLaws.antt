-- What the test of refusal 8 says of a sheet.
--
--   Long n s                == each list of s has n numbers
--   fits_long, long_fits    == by the test of their lengths
--   Held P held             == held is 0 or 1 for each node, and 0 for the root
--   Sound limit P R rule s  == s is a sheet of the table under the rule (document 01: a sheet)
--   fits_sound, sound_fits  == it is one exactly when every lot fits
--   held_set                == one entry of held set or cleared
use Rattle.std.specs.Prelude.{true, cond, List, ◌≡◌, ℕ, ◌≤◌, ◌<◌, eqb, length, get_or, set}
use Rattle.std.proofs.Math.Path.{refl, ap, subst⁻¹}
use Rattle.std.proofs.Common.{sym, ◌∙◌, arith, length-set, eqb-true, eq-eqb, ne_eqb, leb-true, le-leb}
use Rattle.std.proofs.Math.Dec.{leb}
use Rattle.laws.specs.Regions.{read_set}
use Rattle.laws.specs.Tests.{by_eq, both, both_is}
use Rattle.table.specs.Acceptance.{two_long}
use Rattle.table.specs.Table.{all_long}
use Rattle.slopes.specs.declared.Rule.{Rule}
use Rattle.drawing.specs.Drawing.{Sheet, lengths_fit, node_fits, held_fits, lot_fits}
use Rattle.drawing.specs.DrawingLaws.{Drawn, fits_drawn, drawn_fits}

------------------------------------------------------------------------
-- The lengths

pub record Long (n : ℕ) (s : Sheet) : Type 0 where
  pub times : length s.drawing.times ≡ n
  pub x : length s.drawing.x ≡ n
  pub y : length s.drawing.y ≡ n
  pub held : length s.held ≡ n

pub long_fits : (P : List ℕ) (s : Sheet) → Long (length P) s → lengths_fit P s ≡ true
unfolding all_long
long_fits P s l =
    both_is (eq-eqb _ _ l.times) (both_is (eq-eqb _ _ l.x)
    (both_is (eq-eqb _ _ l.y) (both_is (eq-eqb _ _ l.held) refl)))

pub fits_long : (P : List ℕ) (s : Sheet) → lengths_fit P s ≡ true → Long (length P) s
unfolding all_long
fits_long P s e =
    let t = both (eqb (length s.drawing.times) (length P)) _ e in
    let x = both (eqb (length s.drawing.x) (length P)) _ t.1 in
    let rest = two_long (length P) s.drawing.y s.held x.1 in
    record { times = eqb-true _ _ t.0; x = eqb-true _ _ x.0; y = rest.0; held = rest.1 }

------------------------------------------------------------------------
-- Held edges

pub record Held (P held : List ℕ) : Type 0 where
  pub long : length held ≡ length P
  pub root : get_or held 0 0 ≡ 0
  pub at : (v : ℕ) → v < length P → get_or held v 0 ≤ 1

module _ (held : List ℕ) where
  pub held_root : held_fits held 0 ≡ leb (get_or held 0 0) 0
  unfolding held_fits
  held_root = refl

  pub held_node : (v : ℕ) → 0 < v → held_fits held v ≡ leb (get_or held v 0) 1
  unfolding held_fits
  held_node v a = ap (λ b. leb (get_or held v 0) (cond b 0 1)) (ne_eqb v 0 (λ e. omega arith))

  fits_held : {P : List ℕ} → 0 < length P → length held ≡ length P
      → ((v : ℕ) → v < length P → held_fits held v ≡ true) → Held P held
  fits_held some long all =
      let none = leb-true (get_or held 0 0) 0 (sym held_root ∙ all 0 some) in
      record {
        long = long;
        root = omega arith;
        at = λ v l. by_eq v 0 (λ e. omega (arith, ap (λ z. get_or held z 0) e))
            (λ ne. leb-true (get_or held v 0) 1 (sym (held_node v (omega arith)) ∙ all v l));
      }

  pub held_fits_lem : {P : List ℕ} → Held P held → (v : ℕ) → v < length P → held_fits held v ≡ true
  held_fits_lem h v l =
      by_eq v 0
      (λ e. subst⁻¹ (λ z. held_fits held z ≡ true) e (held_root ∙ le-leb (get_or held 0 0) 0 (omega (arith, h.root))))
      (λ ne. held_node v (omega arith) ∙ le-leb (get_or held v 0) 1 (h.at v l))

-- one entry set or cleared, and not the root's
pub held_set : {P held : List ℕ} → Held P held → (v k : ℕ) → 0 < v → v < length P → k ≤ 1 → Held P (set held v k)
held_set {P} {held} h v k above inside low =
    let there : v < length held = omega (arith, h.long) in
    record {
      long = length-set held v k ∙ h.long;
      root = read_set held v 0 k 0 there (λ e. absurd (omega arith)) (λ ne. h.root);
      at = λ z l. by_eq z v
          (λ e. omega (arith, read_set held v z k k there (λ s. refl) (λ ne. absurd (ne e))))
          (λ ne. omega (arith, h.at z l, read_set held v z k (get_or held z 0) there (λ s. absurd (ne s)) (λ d. refl)));
    }

------------------------------------------------------------------------
-- Sheets

pub record Sound (limit : ℕ) (P R : List ℕ) (rule : Rule) (s : Sheet) : Type 0 where
  pub drawn : Drawn limit P R rule s.drawing
  pub held : Held P s.held

module _ (limit : ℕ) (P R : List ℕ) (rule : Rule) (s : Sheet) where
  pub fits_sound : 0 < length P → lengths_fit P s ≡ true
      → ((v : ℕ) → v < length P → lot_fits limit P R rule s v ≡ true) → Sound limit P R rule s
  unfolding lot_fits
  fits_sound some fit all =
      let long = fits_long P s fit in
      record {
        drawn = fits_drawn limit P R rule s.drawing some long.times long.x long.y
            (λ v l. (both _ (held_fits s.held v) (all v l)).0);
        held = fits_held s.held some long.held
            (λ v l. (both (node_fits limit P R rule s.drawing v) _ (all v l)).1);
      }

  pub sound_fits : Sound limit P R rule s → (v : ℕ) → v < length P → lot_fits limit P R rule s v ≡ true
  unfolding lot_fits
  sound_fits a v l =
      both_is (drawn_fits limit P R rule s.drawing a.drawn v l) (held_fits_lem s.held a.held v l)

pub sound_long : {limit : ℕ} {P R : List ℕ} {rule : Rule} {s : Sheet} → Sound limit P R rule s → Long (length P) s
sound_long a =
    record { times = a.drawn.long; x = a.drawn.x.long; y = a.drawn.y.long; held = a.held.long }
